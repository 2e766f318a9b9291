use Rattle.std.proofs.Common.{sym, subst, take}
use Rattle.std.proofs.lemmas.List.Elements.{All-take}
use Rattle.wdf_residue.specs.Residue.{AreResidues}
use Rattle.wdf_residue.specs.Matrix.{IsRow}
use Rattle.wdf_residue.proofs.VectorLemmas.{column-residues}
use Rattle.wdf_residue.proofs.matrix.Matrix.column.Goals as goal

pub returns-clause-residues : goal.returns-clause-residues
returns-clause-residues c =
    let rows = All-take (IsRow c.args.self.now.columns) c.loop-row.row c.args.self.now.rows c.rules.ensures in
    subst AreResidues (sym c.loop-row.invariant) (column-residues c.args.self.now.columns (take c.loop-row.row c.args.self.now.rows) c.args.col rows)
