-- The first number that is not marked, all before it being marked.
use Rattle.std.proofs.Common.{ℕ, sym, ap, not, false, slice_index_or, arith}
use Rattle.wdf_law.proofs.Ranges.{found_below}
use Rattle.wdf_law.proofs.rules.missing.Goals as goal

pub returns-then-not-marks-i : goal.returns-then-not-marks-i
returns-then-not-marks-i c =
    sym (found_below (λ (i : ℕ). not (slice_index_or c.args.marks.now i false)) c.args.count c.loop-i.i (omega arith)
    (λ j h. ap not (c.loop-i.invariant j h)) (ap not c.if-not-marks-i.true))
