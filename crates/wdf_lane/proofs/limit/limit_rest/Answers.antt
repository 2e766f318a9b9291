-- One output sample more.
use Rattle.std.proofs.Common.{◌≡◌, ◌+◌, ◌<◌, ◌≤◌, length, get_or, arith, to_z, of_z, w64, sym, ◌∙◌, rules, pos}
use Rattle.std.specs.Prelude.{if◌then◌else◌}
use Rattle.std.proofs.lemmas.Int.{to_z-of_z}
use Rattle.std.proofs.lemmas.List.{length-set}
use Rattle.std.proofs.lemmas.List.Filters.{length-filter_more}
use mir.Val.{SFits}
use Rattle.wdf_law.specs.OutputRule.{output_of}
use Rattle.wdf_loop.specs.Limiting.{is_limited}
use Rattle.wdf_lane.proofs.LimitLemmas.{one_made, all_made}
use Rattle.wdf_lane.proofs.limit.limit_rest.Goals as goal

pub loop-k-preserved : goal.loop-k-preserved
loop-k-preserved c =
    let bits = c.args.bits in
    let down = c.args.down in
    let waves = c.args.waves.now in
    let k = c.loop-k.k in
    let z = c.out_sample-sample.result.value in
    let fits : SFits w64 c.out_sample-sample.result.value = search rules in
    let inside : c.loop-k.k < length c.args.waves.now = c.loop-k-test.true in
    let room : length c.loop-k.out ≡ length c.args.waves.now = c.loop-k.invariant.room ∙ c.requires.room in
    let value : c.out_sample-sample.result.value ≡ output_of down bits (get_or waves k (pos 0)) = search rules in
    let more : c.from-limited.result ≡ (if is_limited down bits (get_or waves k (pos 0)) then 1 else 0) = search rules in
    record {
      room = length-set c.loop-k.out k (to_z w64 (of_z w64 z)) ∙ c.loop-k.invariant.room;
      made = one_made (output_of down bits) k waves c.loop-k.out (to_z w64 (of_z w64 z)) (pos 0) inside room c.loop-k.invariant.made (to_z-of_z w64 z fits ∙ value);
      counted = (λ i. c.loop-k.invariant.counted i + more i) ∙ sym (length-filter_more (is_limited down bits) waves k (pos 0) inside);
      most = search rules;
    }

pub returns-clause-values : goal.returns-clause-values
returns-clause-values c =
    let most : length c.args.waves.now ≤ c.loop-k.k = let last = c.loop-k-test.false in omega arith in
    all_made (output_of c.args.down c.args.bits) c.loop-k.k c.args.waves.now c.loop-k.out most (c.loop-k.invariant.room ∙ c.requires.room) c.loop-k.invariant.made
