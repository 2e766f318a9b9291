use Rattle.std.proofs.Common.{◌≡◌, ◌++◌, drop}
use Rattle.wdf_bounds.specs.WordBound.{bounds_of, first_over}
use Rattle.wdf_bounds.proofs.bounds.plan_check.Given as goal

abbrev pub invariant-ports : goal.invariant-ports
invariant-ports l = record {
  words : bounds_of l.plan l.ratios ≡ l.words.items ++ bounds_of l.plan (drop l.port-index l.ratios);
  within : first_over l.plan l.ratios ≡ first_over l.plan (drop l.port-index l.ratios);
}
