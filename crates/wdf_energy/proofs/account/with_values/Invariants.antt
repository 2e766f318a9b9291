use Rattle.std.proofs.Common.{◌≡◌, ◌+◌, drop}
use Rattle.std.specs.List.{sum_by}
use Rattle.wdf_algebra.specs.Squares.{square}
use Rattle.wdf_energy.proofs.account.with_values.Given as goal

abbrev pub invariant-loop-value : goal.invariant-loop-value
invariant-loop-value l = l.total + sum_by square (drop l.value-index l.values) ≡ l.sum + sum_by square l.values
