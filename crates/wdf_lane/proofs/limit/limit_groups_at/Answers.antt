-- A group more.
use Rattle.std.proofs.Common.{◌≡◌, ◌+◌, ◌*◌, ◌≤◌, length, arith, ◌∙◌, rules}
use Rattle.wdf_law.specs.OutputRule.{output_of}
use Rattle.wdf_loop.specs.Limiting.{is_limited}
use Rattle.wdf_lane.proofs.LimitLemmas.{four_made, four_counted}
use Rattle.wdf_lane.proofs.limit.limit_groups_at.Goals as goal

pub loop-k-preserved : goal.loop-k-preserved
loop-k-preserved g c =
    let bits = g.row.BITS in
    let down = c.args.down in
    let waves = c.args.waves.now in
    let k = c.loop-k.k in
    let new = c.limit_four-limited.new.out in
    let inside : c.loop-k.k * 4 + 4 ≤ length c.args.waves.now = let below = c.loop-k-test.true in omega arith in
    let room : length c.loop-k.out ≡ length c.args.waves.now = c.loop-k.invariant.room ∙ c.requires.room in
    let four : length c.limit_four-limited.new.out ≡ 4 = search rules in
    record {
      room = search rules;
      made = four_made (output_of down bits) k waves c.loop-k.out new inside room c.loop-k.invariant.made c.limit_four-limited.ensures.values four;
      counted = four_counted (is_limited down bits) k c.loop-k.limited c.limit_four-limited.result waves c.loop-k.invariant.counted c.limit_four-limited.ensures.limited;
      most = search rules;
    }
