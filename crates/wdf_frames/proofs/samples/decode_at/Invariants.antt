-- The samples so far are read.
use Rattle.std.proofs.Common.{◌≡◌, length, take, map}
use Rattle.wdf_algebra.specs.Pieces.{pieces}
use Rattle.wdf_wav.specs.SampleCoding.{sample_value}
use Rattle.wdf_frames.proofs.samples.decode_at.Given as goal

abbrev pub invariant-loop-k : goal.invariant-loop-k
invariant-loop-k g l = record {
  room : length l.samples ≡ length l.initial.samples;
  read : take l.k l.samples ≡ map (sample_value g.row.BITS) (pieces l.k l.size l.bytes);
}
