-- The part's samples are written behind those before.
use Rattle.std.proofs.Common.{◌≡◌, ℕ, ◌-◌, ◌*◌, ◌/◌, length, map, take, ap, sym, subst, ◌∙◌, rules}
use borrow.Rule.Slice.PartMut.{put_mid}
use Rattle.wdf_law.specs.OutputRule.{output_of}
use Rattle.wdf_loop.specs.Limiting.{is_limited}
use Rattle.wdf_wav.specs.PcmStream.{data_of}
use Rattle.wdf_frames.proofs.SampleLemmas.{part_written, part_counted}
use Rattle.wdf_frames.proofs.samples.encode_part.Goals as goal

pub returns-clause-bytes : goal.returns-clause-bytes
returns-clause-bytes c =
    let bits = c.args.bits in
    let down = c.args.down in
    let waves = c.args.waves.now in
    let from = c.args.from in
    let to = c.args.to in
    let bytes = c.args.bytes.now in
    let new = c.write_samples.new.bytes in
    let long : length c.write_samples.new.bytes ≡ c.args.to * c.from-size.result - c.args.from * c.from-size.result = search rules in
    let size = c.from-size.ensures in
    let is = c.write_samples.ensures ∙ ap (data_of bits) c.limit_block-limited.ensures.values in
    subst (λ (n : ℕ). take (to * (bits / 8)) (put_mid (from * n) (to * n - from * n) bytes new) ≡ data_of bits (map (output_of down bits) (take to waves))) (sym size)
    (part_written bits down (bits / 8) from to bytes new waves c.requires.part c.requires.inside c.requires.room (subst (λ (n : ℕ). length new ≡ to * n - from * n) size long) c.requires.bytes is)

pub returns-clause-limited : goal.returns-clause-limited
returns-clause-limited c =
    part_counted (is_limited c.args.down c.args.bits) c.args.from c.args.to c.args.before c.limit_block-limited.result c.args.waves.now c.requires.part c.requires.limited c.limit_block-limited.ensures.limited
