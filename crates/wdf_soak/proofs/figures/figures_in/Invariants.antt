use Rattle.std.proofs.Common.{◌≡◌, ◌*◌, take}
use Rattle.std.specs.Prelude.{pos, ◌-ℤ◌, ◌≤ℤ◌}
use Rattle.wdf_wav.specs.PcmStream.{samples_of}
use Rattle.wdf_soak.specs.Figures.{figures_of}
use Rattle.wdf_soak.proofs.figures.figures_in.Given as goal

abbrev pub invariant-loop-place : goal.invariant-loop-place
invariant-loop-place l =
    (l.found ≡ figures_of (take l.place (samples_of 16 l.bytes)))
    × ((pos 0 -ℤ pos (32768 * l.place)) ≤ℤ l.found.sum)
    × (l.found.sum ≤ℤ pos (32768 * l.place))
