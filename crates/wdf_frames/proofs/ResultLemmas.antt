-- Frames have one result.
use Rattle.std.proofs.Common.{◌≡◌, List, ◌++◌, refl, sym, ap, ◌∙◌}
use Rattle.std.specs.Prelude.{ℤ}
use Rattle.wdf_bounds.specs.Plans.{PlanOf}
use Rattle.wdf_lattice.specs.declared.networks.Networks.{Networks}
use Rattle.wdf_lattice.specs.WaveLaws.{HasOneWave}
use Rattle.wdf_wav.specs.declared.head.Head.{Head}
use Rattle.wdf_wav.specs.Header.{head_bytes_of}
use Rattle.wdf_frames.specs.Setting.{setting, runs_of, samples_in, written_head}
use Rattle.wdf_frames.specs.Written.{coded}
use Rattle.wdf_frames.specs.FrameLaws.{HasOneResult}
use Rattle.wdf_frames.specs.Progress.{solved_waves}

pub one_result : (ns : Networks) → HasOneWave ns → (plan : PlanOf) (head : Head) → HasOneResult (setting ns plan head)
one_result ns one plan head =
    let s = setting ns plan head in
    record {
      some = λ body. (head_bytes_of (written_head s) ++ coded s (solved_waves s body), record { waves = solved_waves s body; gives = one.some plan.guard (runs_of s) (samples_in s body); parts = refl });
      only = λ body bytes bytes' first second.
          let same = second.parts in
          let waves : second.waves ≡ first.waves
          = one.only plan.guard (runs_of s) (samples_in s body) second.waves second.gives ∙ sym (one.only plan.guard (runs_of s) (samples_in s body) first.waves first.gives) in
          second.parts ∙ (ap (λ (ws : List ℤ). head_bytes_of (written_head s) ++ coded s ws) waves ∙ sym first.parts);
    }
