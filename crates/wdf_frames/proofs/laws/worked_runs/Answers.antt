use Rattle.std.proofs.Common.{refl}
use Rattle.wdf_wav.specs.SampleCoding.{sample_coding, sample_value}
use Rattle.wdf_frames.proofs.laws.worked_runs.Goals as goal

pub returns : goal.returns
unfolding sample_value sample_coding
returns c = record {
  divider = refl;
  channels = refl;
  sources = refl;
  limited = refl;
  one_run = refl;
  lattice = refl;
  first_energy = refl;
  second_energy = refl;
  no_third = refl;
  branch_energy = refl;
}
