-- The output samples so far are written, and those that were limited counted.
use Rattle.std.proofs.Common.{◌≡◌, ◌*◌, ◌/◌, ◌≤◌, length, take, map}
use Rattle.std.specs.Prelude.{filter}
use Rattle.wdf_law.specs.OutputRule.{output_of}
use Rattle.wdf_loop.specs.Limiting.{is_limited}
use Rattle.wdf_wav.specs.PcmStream.{data_of}
use Rattle.wdf_frames.proofs.samples.encode.Given as goal

abbrev pub invariant-loop-k : goal.invariant-loop-k
invariant-loop-k l = record {
  room : length l.bytes ≡ length l.initial.bytes;
  samples : length l.samples ≡ 256;
  coded : take (l.k * 256 * (l.fn.bits / 8)) l.bytes ≡ data_of l.fn.bits (map (output_of l.fn.down l.fn.bits) (take (l.k * 256) l.waves));
  counted : l.limited ≡ length (filter (is_limited l.fn.down l.fn.bits) (take (l.k * 256) l.waves));
  most : l.limited ≤ l.k * 256;
}
