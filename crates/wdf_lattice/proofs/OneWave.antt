-- Samples give the solved waves alone, since each network has one run alone; and waves go on.
use Rattle.std.proofs.Common.{◌≡◌, ℕ, ℤ, ◌<◌, ◌-ℤ◌, List, length, Some, refl, sym, ap, ap₂, ◌∙◌, subst}
use Rattle.wdf_law.specs.declared.side.Side.{Side}
use Rattle.wdf_law.specs.declared.side.Side.TheVariants.{Whole, A, B}
use Rattle.wdf_law.specs.Network.{Network}
use Rattle.wdf_law.specs.Step.{Frame}
use Rattle.wdf_law.specs.Run.{IsRun, at_rest}
use Rattle.wdf_law.specs.Laws.{HasOneStep}
use Rattle.wdf_law.specs.Solved.{solved_run}
use Rattle.wdf_lattice.specs.declared.networks.Networks.{Networks}
use Rattle.wdf_lattice.specs.declared.networks.Networks.TheVariants.{Ladder, Lattice}
use Rattle.wdf_lattice.specs.Sides.{network_at}
use Rattle.wdf_lattice.specs.Waves.{Family, AreRuns, GivesWaves, frames_of, inputs_for, wave_in, wave_at}
use Rattle.wdf_lattice.specs.SolvedWaves.{all_at_rest, solved_family, waves_from, waves_for}
use Rattle.wdf_lattice.specs.WaveLaws.{HasOneWave, GoesOn}
use Rattle.wdf_lattice.proofs.FrameLemmas.{interleaved-same}
use Rattle.wdf_lattice.proofs.WaveLemmas.{frames-append, states-append, waves-append}

-- each network has one run alone
abbrev AllHaveOneStep : Networks → Type 0
AllHaveOneStep (Ladder n) = HasOneStep n
AllHaveOneStep (Lattice a b) = HasOneStep a × HasOneStep b

-- the solved run of a network is a run of it, by whatever name
run-solved : (ns : Networks) (n m : Network) → HasOneStep n → Some n ≡ Some m → (guard run : ℕ) (frames : List (List ℤ))
    → IsRun m (at_rest m) (inputs_for ns guard run m frames) (solved_run n (at_rest n) (inputs_for ns guard run n frames))
run-solved ns n m h there guard run frames =
    let same : n ≡ m = cc in
    let I = inputs_for ns guard run n frames in
    subst (λ (k : Network). IsRun k (at_rest k) (inputs_for ns guard run k frames) (solved_run n (at_rest n) I)) same (h.run (at_rest n) I)

runs-solved : (ns : Networks) → AllHaveOneStep ns → (guard : ℕ) (frames : List (List ℤ)) (side : Side) (m : Network) → network_at ns side ≡ Some m → (run : ℕ)
    → IsRun m (at_rest m) (inputs_for ns guard run m frames) (solved_family ns guard (all_at_rest ns) frames side run)
runs-solved (Ladder n) h guard frames Whole m there run = run-solved (Ladder n) n m h there guard run frames
runs-solved (Ladder n) h guard frames A m there run = absurd (cc)
runs-solved (Ladder n) h guard frames B m there run = absurd (cc)
runs-solved (Lattice a b) h guard frames Whole m there run = absurd (cc)
runs-solved (Lattice a b) h guard frames A m there run = run-solved (Lattice a b) a m h.0 there guard run frames
runs-solved (Lattice a b) h guard frames B m there run = run-solved (Lattice a b) b m h.1 there guard run frames

are-solved : (ns : Networks) → AllHaveOneStep ns → (guard runs : ℕ) (frames : List (List ℤ))
    → AreRuns ns guard runs frames (solved_family ns guard (all_at_rest ns) frames)
are-solved ns h guard runs frames = record { each = λ side m there run few. runs-solved ns h guard frames side m there run }

-- and the waves of any such runs are its waves
waves-only : (ns : Networks) → AllHaveOneStep ns → (guard runs : ℕ) (frames : List (List ℤ)) (family : Family) → AreRuns ns guard runs frames family
    → (frame run : ℕ) → run < runs → wave_at ns family frame run ≡ wave_at ns (solved_family ns guard (all_at_rest ns) frames) frame run
waves-only (Ladder n) h guard runs frames family are frame run few =
    ap (λ (ss : List Frame). wave_in n ss frame) (h.only_run (at_rest n) (inputs_for (Ladder n) guard run n frames) (family Whole run) (are.each Whole n refl run few))
waves-only (Lattice a b) h guard runs frames family are frame run few =
    ap₂ (λ (v w : ℤ). v -ℤ w)
    (ap (λ (ss : List Frame). wave_in b ss frame) (h.1.only_run (at_rest b) (inputs_for (Lattice a b) guard run b frames) (family B run) (are.each B b refl run few)))
    (ap (λ (ss : List Frame). wave_in a ss frame) (h.0.only_run (at_rest a) (inputs_for (Lattice a b) guard run a frames) (family A run) (are.each A a refl run few)))

gives : (ns : Networks) → AllHaveOneStep ns → (guard runs : ℕ) (samples : List ℤ) → GivesWaves ns guard runs samples (waves_for ns guard runs samples)
gives ns h guard runs samples =
    let frames = frames_of ns runs samples in
    let solved = solved_family ns guard (all_at_rest ns) frames in
    record {
      some = (solved, are-solved ns h guard runs frames);
      each = λ family are.
          interleaved-same (length frames) runs (wave_at ns family) (wave_at ns solved) (λ f r below few. waves-only ns h guard runs frames family are f r few);
    }

one_wave : (ns : Networks) → AllHaveOneStep ns → HasOneWave ns
one_wave ns h = record {
  some = gives ns h;
  only = λ guard runs samples waves g. sym (g.each (solved_family ns guard (all_at_rest ns) (frames_of ns runs samples)) (are-solved ns h guard runs (frames_of ns runs samples)));
}

pub one_wave_ladder : (n : Network) → HasOneStep n → HasOneWave (Ladder n)
one_wave_ladder n h = one_wave (Ladder n) h

pub one_wave_lattice : (a b : Network) → HasOneStep a → HasOneStep b → HasOneWave (Lattice a b)
one_wave_lattice a b h k = one_wave (Lattice a b) (h, k)

pub goes_on : (ns : Networks) → GoesOn ns
goes_on ns = record {
  waves = waves-append ns;
  states = states-append ns;
  frames = frames-append ns;
  samples = λ guard runs count xs ys some whole.
      ap (waves_from ns guard runs (all_at_rest ns)) (frames-append ns runs count xs ys some whole)
      ∙ waves-append ns guard runs (all_at_rest ns) (frames_of ns runs xs) (frames_of ns runs ys);
}
