-- Runs that go over frames, and then over more.
use Rattle.std.proofs.Common.{◌≡◌, ℕ, ◌<◌, ◌-ℤ◌, List, ◌++◌, length, sym, ap, ap₂, ◌∙◌}
use Rattle.std.specs.Prelude.{ℤ}
use Rattle.wdf_law.specs.declared.side.Side.{Side}
use Rattle.wdf_law.specs.declared.side.Side.TheVariants.{Whole, A, B}
use Rattle.wdf_law.specs.Network.{Network}
use Rattle.wdf_law.specs.Step.{Frame}
use Rattle.wdf_law.specs.Run.{at_end}
use Rattle.wdf_law.specs.Solved.{solved_run}
use Rattle.wdf_lattice.specs.declared.networks.Networks.{Networks}
use Rattle.wdf_lattice.specs.declared.networks.Networks.TheVariants.{Ladder, Lattice}
use Rattle.wdf_lattice.specs.Waves.{Family, inputs_for, wave_in, wave_at}
use Rattle.wdf_lattice.specs.SolvedWaves.{States, of_side, solved_family, states_behind, waves_from}
use Rattle.wdf_lattice.specs.Runners.{RunOver}
use Rattle.wdf_lattice.proofs.FrameLemmas.{interleaved-same}
use Rattle.wdf_lattice.proofs.WaveLemmas.{waves-append, states-append}

-- ---- states that agree give the same

family_agrees : (ns : Networks) (guard : ℕ) (zs ys : States) (frames : List (List ℤ)) (side : Side) (run : ℕ) → ys side run ≡ zs side run
    → solved_family ns guard ys frames side run ≡ solved_family ns guard zs frames side run
family_agrees ns guard zs ys frames side run agree = ap (λ (z : List ℤ). of_side ns side (λ (n : Network). solved_run n z (inputs_for ns guard run n frames))) agree

wave_agrees : (ns : Networks) (f g : Family) (frame run : ℕ) → ((side : Side) → f side run ≡ g side run) → wave_at ns f frame run ≡ wave_at ns g frame run
wave_agrees (Ladder n) f g frame run agree = ap (λ (ss : List Frame). wave_in n ss frame) (agree Whole)
wave_agrees (Lattice a b) f g frame run agree = ap₂ (λ (v w : ℤ). v -ℤ w) (ap (λ (ss : List Frame). wave_in b ss frame) (agree B)) (ap (λ (ss : List Frame). wave_in a ss frame) (agree A))

pub waves_agree : (ns : Networks) (guard runs : ℕ) (zs ys : States) (frames : List (List ℤ)) → ((side : Side) (run : ℕ) → run < runs → ys side run ≡ zs side run)
    → waves_from ns guard runs ys frames ≡ waves_from ns guard runs zs frames
waves_agree ns guard runs zs ys frames agree =
    interleaved-same (length frames) runs (wave_at ns (solved_family ns guard ys frames)) (wave_at ns (solved_family ns guard zs frames))
    (λ f r below few. wave_agrees ns (solved_family ns guard ys frames) (solved_family ns guard zs frames) f r (λ side. family_agrees ns guard zs ys frames side r (agree side r few)))

pub states_agree : (ns : Networks) (guard : ℕ) (zs ys : States) (frames : List (List ℤ)) (side : Side) (run : ℕ) → ys side run ≡ zs side run
    → states_behind ns guard ys frames side run ≡ states_behind ns guard zs frames side run
states_agree ns guard zs ys frames side run agree =
    ap (λ (z : List ℤ). of_side ns side (λ (n : Network). at_end n z (solved_run n z (inputs_for ns guard run n frames)))) agree

-- ---- more frames

pub over_more : (ns : Networks) (guard runs : ℕ) (zs ys us : States) (xs fs : List (List ℤ)) (ws vs : List ℤ)
    → RunOver ns guard runs zs ys xs ws → RunOver ns guard runs ys us fs vs → RunOver ns guard runs zs us (xs ++ fs) (ws ++ vs)
over_more ns guard runs zs ys us xs fs ws vs front next = record {
  waves_are = ap₂ (λ (l m : List ℤ). l ++ m) front.waves_are (next.waves_are ∙ waves_agree ns guard runs (states_behind ns guard zs xs) ys fs front.states_are)
      ∙ sym (waves-append ns guard runs zs xs fs);
  states_are = λ side run few. next.states_are side run few
      ∙ states_agree ns guard (states_behind ns guard zs xs) ys fs side run (front.states_are side run few)
      ∙ sym (states-append ns guard zs xs fs side run);
}
