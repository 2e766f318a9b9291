-- The groups so far are made, and what was limited in them counted.
use Rattle.std.proofs.Common.{◌≡◌, ◌*◌, ◌≤◌, length, take, map}
use Rattle.std.specs.Prelude.{filter}
use Rattle.wdf_law.specs.OutputRule.{output_of}
use Rattle.wdf_loop.specs.Limiting.{is_limited}
use Rattle.wdf_lane.proofs.limit.limit_groups_at.Given as goal

abbrev pub invariant-loop-k : goal.invariant-loop-k
invariant-loop-k g l = record {
  room : length l.out ≡ length l.initial.out;
  made : take (l.k * 4) l.out ≡ map (output_of l.fn.down g.row.BITS) (take (l.k * 4) l.waves);
  counted : l.limited ≡ length (filter (is_limited l.fn.down g.row.BITS) (take (l.k * 4) l.waves));
  most : l.limited ≤ l.k * 4;
}
