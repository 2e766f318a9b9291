-- One sample more.
use Rattle.std.proofs.Common.{◌≡◌, ℕ, ◌+◌, ◌-◌, ◌*◌, ◌/◌, ◌<◌, ◌≤◌, take, drop, subst, sym, length, ap, arith, to_z, of_z, w64, ◌∙◌, rules, map}
use Rattle.std.proofs.lemmas.Int.{to_z-of_z}
use Rattle.std.proofs.lemmas.List.{length-set}
use mir.Val.{SFits}
use Rattle.wdf_wav.specs.SampleCoding.{sample_value}
use Rattle.std.proofs.Math.Nat.{mul-div_cancel}
use Rattle.wdf_algebra.specs.Pieces.{pieces}
use Rattle.wdf_frames.proofs.WidthLemmas.{some_byte}
use Rattle.wdf_frames.proofs.SampleLemmas.{read_more, read_all}
use Rattle.wdf_frames.proofs.samples.decode_at.Goals as goal

pub loop-k-preserved : goal.loop-k-preserved
loop-k-preserved g c =
    let z = c.sample_of.result in
    let fits : SFits w64 c.sample_of.result = record { sfits = c.sample_of.type_inv } in
    let inside : c.loop-k.k < length c.loop-k.samples = let room = c.loop-k.invariant.room in omega arith in
    record {
      room = length-set c.loop-k.samples c.loop-k.k (to_z w64 (of_z w64 z)) ∙ c.loop-k.invariant.room;
      read = read_more g.row.BITS _ c.loop-k.k c.args.bytes.now c.loop-k.samples (to_z w64 (of_z w64 z)) inside c.loop-k.invariant.read (to_z-of_z w64 z fits ∙ (c.sample_of.ensures.value ∙ ap (λ (n : ℕ). sample_value n (take ((c.loop-k.k + 1) * c.from-size.result - c.loop-k.k * c.from-size.result) (drop (c.loop-k.k * c.from-size.result) c.args.bytes.now))) c.from.ensures));
    }

pub returns : goal.returns
returns g c =
    let bits = g.row.BITS in
    let some = some_byte bits c.requires.width in
    let all : length c.loop-k.samples ≤ c.loop-k.k = let last = c.loop-k-test.false in let room = c.loop-k.invariant.room in omega arith in
    let most : c.loop-k.k ≤ length c.args.samples.now = search rules in
    let count : length c.args.bytes.now / (bits / 8) ≡ c.loop-k.k
    = ap (λ (n : ℕ). n / (bits / 8)) c.requires.whole ∙ (mul-div_cancel (length c.args.samples.now) some ∙ omega arith) in
    read_all bits c.loop-k.k c.args.bytes.now c.loop-k.samples all
    (subst (λ (size : ℕ). take c.loop-k.k c.loop-k.samples ≡ map (sample_value bits) (pieces c.loop-k.k size c.args.bytes.now)) c.from-size.ensures c.loop-k.invariant.read)
    (sym count)
