use Rattle.std.proofs.Common.{arith}
use Rattle.std.proofs.lemmas.List.FromFn.{map-range_with_len_more}
use Rattle.wdf_residue.specs.Matrix.{identity_entry}
use Rattle.wdf_residue.proofs.solver.identity_column.Goals as goal

pub loop-i-preserved : goal.loop-i-preserved
loop-i-preserved c =
    let more = map-range_with_len_more (identity_entry c.args.c) 0 c.loop-i.i c.loop-i.i (omega arith) in
    let pushed = c.in_ok-push.ensures.items in
    cc
