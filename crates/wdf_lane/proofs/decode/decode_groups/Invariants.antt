-- The groups so far are read.
use Rattle.std.proofs.Common.{◌≡◌, ◌*◌, length, take}
use Rattle.wdf_wav.specs.PcmStream.{samples_of}
use Rattle.wdf_lane.proofs.decode.decode_groups.Given as goal

abbrev pub invariant-loop-k : goal.invariant-loop-k
invariant-loop-k l = record {
  room : length l.out ≡ length l.initial.out;
  read : take (l.k * 4) l.out ≡ samples_of 16 (take (l.k * 8) l.bytes);
}
