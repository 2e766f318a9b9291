-- One sample more.
use Rattle.std.proofs.Common.{◌≡◌, get_or, refl, rules, pos}
use Rattle.wdf_wav.specs.SampleCoding.{sample_coding}
use Rattle.wdf_frames.proofs.SampleLemmas.{written_more}
use Rattle.wdf_frames.proofs.samples.write_at.Goals as goal

pub loop-k-preserved : goal.loop-k-preserved
loop-k-preserved g c =
    let bits = g.row.BITS in
    let samples = c.args.samples.now in
    let k = c.loop-k.k in
    let new = c.write_one.new.bytes in
    let one : new ≡ sample_coding bits (get_or samples k (pos 0)) = search rules in
    record {
      room = search rules;
      coded = written_more bits c.from-size.result k c.loop-k.bytes new samples (get_or samples k (pos 0)) (pos 0) c.loop-k-test.true (search rules) (search rules) c.loop-k.invariant.coded refl one;
    }
