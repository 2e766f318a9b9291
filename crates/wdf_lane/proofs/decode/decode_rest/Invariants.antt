-- The samples so far are read.
use Rattle.std.proofs.Common.{◌≡◌, ◌*◌, length, take}
use Rattle.wdf_wav.specs.PcmStream.{samples_of}
use Rattle.wdf_lane.proofs.decode.decode_rest.Given as goal

abbrev pub invariant-loop-k : goal.invariant-loop-k
invariant-loop-k l = record {
  room : length l.out ≡ length l.initial.out;
  read : take l.k l.out ≡ samples_of 16 (take (l.k * 2) l.bytes);
}
