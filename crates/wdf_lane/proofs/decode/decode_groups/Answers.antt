-- A group more.
use Rattle.std.proofs.Common.{◌≡◌, ◌+◌, ◌*◌, ◌≤◌, length, map, arith, to_z, of_z, w64, ◌∙◌}
use Rattle.std.proofs.lemmas.Simd.{length-put_chunk}
use Rattle.wdf_lane.proofs.LaneLemmas.{same_words}
use Rattle.wdf_lane.proofs.DecodeLemmas.{four_read}
use Rattle.wdf_lane.proofs.decode.decode_groups.Goals as goal

pub loop-k-preserved : goal.loop-k-preserved
loop-k-preserved c =
    let four = map (to_z w64) (map (of_z w64) c.four_samples.result) in
    let room = c.loop-k.invariant.room in
    let inside : c.loop-k.k * 4 + 4 ≤ length c.loop-k.out = let below = c.loop-k-test.true in omega arith in
    let whole : length c.args.bytes.now ≡ length c.loop-k.out * 2 = let all = c.requires in omega arith in
    record {
      room = length-put_chunk (c.loop-k.k * 4) c.loop-k.out four ∙ room;
      read = four_read c.loop-k.k c.args.bytes.now c.loop-k.out four c.data_append.ensures.read c.data_append.ensures.samples inside whole c.loop-k.invariant.read
          (same_words c.four_samples.result c.four_samples.ensures.four ∙ c.four_samples.ensures.values);
    }
