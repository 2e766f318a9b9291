-- The output samples so far are made, and what was limited counted.
use Rattle.std.proofs.Common.{◌≡◌, ◌≤◌, length, take, map}
use Rattle.std.specs.Prelude.{filter}
use Rattle.wdf_law.specs.OutputRule.{output_of}
use Rattle.wdf_loop.specs.Limiting.{is_limited}
use Rattle.wdf_lane.proofs.limit.limit_rest.Given as goal

abbrev pub invariant-loop-k : goal.invariant-loop-k
invariant-loop-k l = record {
  room : length l.out ≡ length l.initial.out;
  made : take l.k l.out ≡ map (output_of l.fn.down l.fn.bits) (take l.k l.waves);
  counted : l.limited ≡ length (filter (is_limited l.fn.down l.fn.bits) (take l.k l.waves));
  most : l.limited ≤ l.k;
}
