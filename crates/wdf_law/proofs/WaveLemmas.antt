-- Every wave of a run is bounded by the energy sent in so far, and so is what one element takes up.
use Rattle.std.proofs.Common.{◌≡◌, ℕ, ◌+◌, ◌*◌, ◌≤◌, Bool, true, false, cond, List, [], ◌∷◌, refl, arith}
use lib.IntN.{ℤ}
use Rattle.wdf_algebra.specs.Squares.{square}
use Rattle.wdf_law.specs.Network.{Network, IsNetwork, elements, is_absorbing, has_absorbing}
use Rattle.wdf_law.specs.Step.{Frame, IsStep, sent_in, after}
use Rattle.wdf_law.specs.Run.{states, at_rest, IsRun}
use Rattle.wdf_law.specs.Ports.{conductance_at}
use Rattle.wdf_law.specs.Energy.{stored, incident, absorbed, all_absorbed, taken, all_taken}
use Rattle.wdf_law.specs.Laws.{IsRunBounded, BoundsEveryWave}
use Rattle.wdf_law.proofs.ConductanceLemmas.{sound_trees}
use Rattle.wdf_law.proofs.StateLemmas.{stored-at_rest}
use Rattle.wdf_law.proofs.EnergyLemmas.{step_keeps, run_keeps}
use Rattle.wdf_law.proofs.SumLemmas.{part-over}
use Rattle.wdf_law.proofs.EnergySums.{sent_energy_over}
use Rattle.wdf_law.proofs.BoundLemmas.{step-bounded}

run-bounded : (n : Network) → IsNetwork n → (c : ℕ) (zs : List ℤ) (es : List (ℕ → ℤ)) (ss : List Frame) → stored n zs ≤ c → IsRun n zs es ss → IsRunBounded n c es ss
run-bounded n rules c zs [] ss h run = tt
run-bounded n rules c zs (e ∷ es) [] h run = tt
run-bounded n rules c zs (e ∷ es) (s ∷ ss) h run =
    let keeps = step_keeps n rules zs e s run.0 in (
      step-bounded n (c + incident n e) (states n zs) e s (sound_trees n rules) (omega arith) run.0,
      run-bounded n rules (c + incident n e) (after n s) es ss (omega arith) run.1,
    )

-- one element's share is at most the whole
part_taken : (n : Network) → IsNetwork n → (j : ℕ) (x e : ℕ → ℤ) (s : Frame) → IsStep n x e s → taken n j s ≤ absorbed n s
part_taken n rules j x e s step = by (has_absorbing (elements n) j) refl
  where
    by : (b : Bool) → has_absorbing (elements n) j ≡ b → cond {A = ℕ} b (conductance_at n j * square (sent_in n s j)) 0 ≤ absorbed n s
    by true h =
        let part = part-over is_absorbing (λ (i : ℕ). conductance_at n i * square (sent_in n s i)) (elements n) j h in
        let all = sent_energy_over n rules is_absorbing x e s step in
        omega arith
    by false h = omega arith

parts_taken : (n : Network) → IsNetwork n → (j : ℕ) (zs : List ℤ) (es : List (ℕ → ℤ)) (ss : List Frame) → IsRun n zs es ss → all_taken n j ss ≤ all_absorbed n ss
parts_taken n rules j zs [] [] run = omega arith
parts_taken n rules j zs [] (s ∷ ss) run = absurd run
parts_taken n rules j zs (e ∷ es) [] run = absurd run
parts_taken n rules j zs (e ∷ es) (s ∷ ss) run =
    let here = part_taken n rules j (states n zs) e s run.0 in
    let later = parts_taken n rules j (after n s) es ss run.1 in
    omega arith

pub bounds_every_wave : (n : Network) → IsNetwork n → BoundsEveryWave n
bounds_every_wave n rules = record {
  step = λ zs e s step. step-bounded n (stored n zs + incident n e) (states n zs) e s (sound_trees n rules) (omega arith) step;
  every_frame = λ zs es ss run. run-bounded n rules (stored n zs) zs es ss (omega arith) run;
  run = λ es ss run.
      let none : stored n (at_rest n) ≡ 0 = stored-at_rest n in
      run-bounded n rules 0 (at_rest n) es ss (omega arith) run;
  sums = λ j es ss run.
      let none : stored n (at_rest n) ≡ 0 = stored-at_rest n in
      let all = run_keeps n rules (at_rest n) es ss run in
      let part = parts_taken n rules j (at_rest n) es ss run in
      omega arith;
}
