-- The samples so far are written.
use Rattle.std.proofs.Common.{◌≡◌, ◌*◌, length, take}
use Rattle.wdf_wav.specs.PcmStream.{data_of}
use Rattle.wdf_frames.proofs.samples.write_at.Given as goal

abbrev pub invariant-loop-k : goal.invariant-loop-k
invariant-loop-k g l = record {
  room : length l.bytes ≡ length l.initial.bytes;
  coded : take (l.k * l.size) l.bytes ≡ data_of g.row.BITS (take l.k l.samples);
}
