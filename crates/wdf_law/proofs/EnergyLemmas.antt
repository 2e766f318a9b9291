-- The energy of a step and of a run.
use Rattle.std.proofs.Common.{◌≡◌, ℕ, ◌+◌, ◌≤◌, List, [], ◌∷◌, ap, ◌∙◌, arith}
use lib.IntN.{ℤ}
use Rattle.wdf_law.specs.Network.{Network, IsNetwork}
use Rattle.wdf_law.specs.Step.{Frame, IsStep, after}
use Rattle.wdf_law.specs.Run.{states, at_rest, IsRun, at_end}
use Rattle.wdf_law.specs.Energy.{stored, incident, absorbed, all_incident, all_absorbed}
use Rattle.wdf_law.specs.Laws.{IsRunKept, KeepsEnergy}
use Rattle.wdf_law.proofs.ConductanceLemmas.{sound_trees}
use Rattle.wdf_law.proofs.BalanceLemmas.{kept, step_balance, exact_step_balance}
use Rattle.wdf_law.proofs.LosslessLemmas.{equal_is_lossless}
use Rattle.wdf_law.proofs.StateLemmas.{stored-after, stored-at_rest}

pub step_keeps : (n : Network) → IsNetwork n → (zs : List ℤ) (e : ℕ → ℤ) (s : Frame) → IsStep n (states n zs) e s
    → stored n (after n s) + absorbed n s ≤ stored n zs + incident n e
step_keeps n rules zs e s step =
    let same : stored n (after n s) ≡ kept n s = stored-after n (states n zs) e s rules step in
    let balance : kept n s + absorbed n s ≤ stored n zs + incident n e = step_balance n (states n zs) e s (sound_trees n rules).unit step in
    omega arith

pub run_keeps : (n : Network) → IsNetwork n → (zs : List ℤ) (es : List (ℕ → ℤ)) (ss : List Frame) → IsRun n zs es ss
    → stored n (at_end n zs ss) + all_absorbed n ss ≤ stored n zs + all_incident n es
run_keeps n rules zs [] [] run = omega arith
run_keeps n rules zs [] (s ∷ ss) run = absurd run
run_keeps n rules zs (e ∷ es) [] run = absurd run
run_keeps n rules zs (e ∷ es) (s ∷ ss) run =
    let first = step_keeps n rules zs e s run.0 in
    let later = run_keeps n rules (after n s) es ss run.1 in
    omega arith

run_kept : (n : Network) → IsNetwork n → (a c : ℕ) (zs : List ℤ) (es : List (ℕ → ℤ)) (ss : List Frame) → stored n zs + a ≤ c → IsRun n zs es ss → IsRunKept n a c es ss
run_kept n rules a c zs [] ss h run = tt
run_kept n rules a c zs (e ∷ es) [] h run = tt
run_kept n rules a c zs (e ∷ es) (s ∷ ss) h run =
    let keeps = step_keeps n rules zs e s run.0 in
    (omega arith, run_kept n rules (a + absorbed n s) (c + incident n e) (after n s) es ss (omega arith) run.1)

pub keeps_energy : (n : Network) → IsNetwork n → KeepsEnergy n
keeps_energy n rules = record {
  step = step_keeps n rules;
  lossless = λ zs e s step whole.
      let same : stored n (after n s) ≡ kept n s = stored-after n (states n zs) e s rules step in
      let balance : kept n s + absorbed n s ≡ stored n zs + incident n e = exact_step_balance n (states n zs) e s (sound_trees n rules).unit step whole in
      ap (λ (k : ℕ). k + absorbed n s) same ∙ balance;
  only_lossless = equal_is_lossless n rules;
  every_frame = λ zs es ss run. run_kept n rules 0 (stored n zs) zs es ss (omega arith) run;
  whole = run_keeps n rules;
  rest = stored-at_rest n;
  every_frame_from_rest = λ es ss run.
      let none : stored n (at_rest n) ≡ 0 = stored-at_rest n in
      run_kept n rules 0 0 (at_rest n) es ss (omega arith) run;
  run = λ es ss run.
      let none : stored n (at_rest n) ≡ 0 = stored-at_rest n in
      let all = run_keeps n rules (at_rest n) es ss run in
      omega arith;
}
