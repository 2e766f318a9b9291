use Rattle.std.proofs.Common.{◌≡◌, max, drop}
use Rattle.wdf_bounds.specs.WordBound.{greatest_of}
use Rattle.wdf_bounds.proofs.bounds.Bounds.largest.Given as goal

abbrev pub invariant-loop-word : goal.invariant-loop-word
invariant-loop-word l = max l.largest (greatest_of (drop l.word-index l.self)) ≡ greatest_of l.self
