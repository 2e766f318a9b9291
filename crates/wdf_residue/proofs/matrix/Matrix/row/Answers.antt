use Rattle.std.proofs.Common.{arith, ◌≡◌, [], slice_index_or, sym, subst}
use Rattle.std.proofs.lemmas.Grind.{common_steps}
use Rattle.std.proofs.lemmas.List.Elements.{All-get_or}
use Rattle.wdf_residue.specs.Matrix.{IsRow}
use Rattle.wdf_residue.proofs.matrix.Matrix.row.Goals as goal

pub returns-clause-row : goal.returns-clause-row
returns-clause-row c =
    let same : c.deref.result.now ≡ slice_index_or c.args.self.now.rows c.args.row [] = grind (arith, common_steps) in
    subst (IsRow c.args.self.now.columns) (sym same)
    (All-get_or (IsRow c.args.self.now.columns) c.args.self.now.rows c.args.row [] c.requires c.rules.ensures)
