-- One sample more.
use Rattle.std.proofs.Common.{◌≡◌, ◌*◌, ◌<◌, ◌≤◌, length, arith, to_z, of_z, w64, ◌∙◌}
use Rattle.std.proofs.lemmas.Int.{to_z-of_z}
use Rattle.std.proofs.lemmas.List.{length-set}
use mir.Val.{SFits}
use Rattle.wdf_lane.proofs.DecodeLemmas.{one_read, all_read}
use Rattle.wdf_lane.proofs.decode.decode_rest.Goals as goal

pub loop-k-preserved : goal.loop-k-preserved
loop-k-preserved c =
    let z = c.sample_of.result in
    let fits : SFits w64 c.sample_of.result = record { sfits = c.sample_of.type_inv } in
    let room = c.loop-k.invariant.room in
    let inside : c.loop-k.k < length c.loop-k.out = omega arith in
    let whole : length c.args.bytes.now ≡ length c.loop-k.out * 2 = omega arith in
    record {
      room = length-set c.loop-k.out c.loop-k.k (to_z w64 (of_z w64 z)) ∙ room;
      read = one_read c.loop-k.k c.args.bytes.now c.loop-k.out (to_z w64 (of_z w64 z)) c.data_append.ensures.read c.data_append.ensures.one_read inside whole c.loop-k.invariant.read
          (to_z-of_z w64 z fits ∙ c.sample_of.ensures.value);
    }

pub returns : goal.returns
returns c =
    let room = c.loop-k.invariant.room in
    let most : length c.loop-k.out ≤ c.loop-k.k = let last = c.loop-k-test.false in omega arith in
    let whole : length c.args.bytes.now ≡ length c.loop-k.out * 2 = omega arith in
    all_read c.loop-k.k c.args.bytes.now c.loop-k.out most whole c.loop-k.invariant.read
