-- Frames made one by one, each from the state that the one before left, are the solved run on their inputs.
use Rattle.std.proofs.Common.{◌≡◌, ℕ, zero, suc, ◌+◌, ◌<◌, ◌≤◌, List, ◌∷◌, map, refl, sym, ap, ap₂, ◌∙◌, arith}
use Rattle.std.specs.Prelude.{ℤ}
use Rattle.std.specs.List.{range_with_len}
use Rattle.wdf_law.specs.Network.{Network, source_numbers}
use Rattle.wdf_law.specs.Step.{Frame, sent_in, after}
use Rattle.wdf_law.specs.Run.{states, at_end}
use Rattle.wdf_law.specs.OutputRule.{drive, load_wave}
use Rattle.wdf_law.specs.RunOutputs.{load_waves}
use Rattle.wdf_law.specs.Laws.{HasOneStep}
use Rattle.wdf_law.specs.Solved.{solved, solved_run}
use Rattle.wdf_bounds.specs.Plans.{PlanOf}
use Rattle.wdf_energy.specs.Accounts.{AccountOf, all_noted, noted}
use Rattle.wdf_loop.specs.RunFrames.{IsFrame}

-- the inputs of the frames from a number on, each of samples of its own
abbrev pub driven_from : Network → (guard : ℕ) → (samples : ℕ → List ℤ) → (from count : ℕ) → List (ℕ → ℤ)
driven_from n guard samples from count = map (λ (f : ℕ). drive guard n (samples f)) (range_with_len from count)

-- a frame is the solved step
pub frame_solved : (n : Network) (plan : PlanOf) (samples zs behind : List ℤ) (w : ℤ) → HasOneStep n → (made : IsFrame n plan samples zs behind w)
    → made.frame ≡ solved n (states n zs) (drive plan.guard n samples)
frame_solved n plan samples zs behind w one made =
    one.only zs (drive plan.guard n samples) made.frame (solved n (states n zs) (drive plan.guard n samples)) made.step (one.values zs (drive plan.guard n samples))

module _ (n : Network) (plan : PlanOf) (one : HasOneStep n) (samples state : ℕ → List ℤ) (wave : ℕ → ℤ) where
  abbrev step : ℕ → Frame
  step f = solved n (states n (state f)) (drive plan.guard n (samples f))

  behind : (f : ℕ) → IsFrame n plan (samples f) (state f) (state (f + 1)) (wave f) → after n (step f) ≡ state (f + 1)
  behind f made = ap (after n) (sym (frame_solved n plan (samples f) (state f) (state (f + 1)) (wave f) one made)) ∙ sym made.state

  -- the states that they leave,
  pub end_made : (count a : ℕ) → ((f : ℕ) → a ≤ f → f < a + count → IsFrame n plan (samples f) (state f) (state (f + 1)) (wave f))
      → at_end n (state a) (solved_run n (state a) (driven_from n plan.guard samples a count)) ≡ state (a + count)
  end_made zero a made = let none : a ≡ a + zero = omega arith in ap state none
  end_made (suc count) a made =
      let next : a + 1 + count ≡ a + suc count = omega arith in
      ap (λ (z : List ℤ). at_end n z (solved_run n z (driven_from n plan.guard samples (a + 1) count))) (behind a (made a (omega arith) (omega arith)))
      ∙ (end_made count (a + 1) (λ f low below. made f (omega (arith, low)) (omega (arith, below))) ∙ ap state next)

  -- their load waves,
  pub waves_made : (count a : ℕ) → ((f : ℕ) → a ≤ f → f < a + count → IsFrame n plan (samples f) (state f) (state (f + 1)) (wave f))
      → load_waves n (solved_run n (state a) (driven_from n plan.guard samples a count)) ≡ map wave (range_with_len a count)
  waves_made zero a made = refl
  waves_made (suc count) a made =
      let here = made a (omega arith) (omega arith) in
      ap₂ (λ (w : ℤ) (ws : List ℤ). w ∷ ws)
      (ap (load_wave n) (sym (frame_solved n plan (samples a) (state a) (state (a + 1)) (wave a) one here)) ∙ sym here.wave)
      (ap (λ (z : List ℤ). load_waves n (solved_run n z (driven_from n plan.guard samples (a + 1) count))) (behind a here)
      ∙ waves_made count (a + 1) (λ f low below. made f (omega (arith, low)) (omega (arith, below))))

  -- and the account that notes them
  pub account_made : (account : ℕ → AccountOf) (count a : ℕ)
      → (made : (f : ℕ) → a ≤ f → f < a + count → IsFrame n plan (samples f) (state f) (state (f + 1)) (wave f))
      → ((f : ℕ) (low : a ≤ f) (below : f < a + count)
      → account (f + 1) ≡ noted n (map (drive plan.guard n (samples f)) (source_numbers n)) (sent_in n (made f low below).frame) (account f))
      → all_noted n (driven_from n plan.guard samples a count) (solved_run n (state a) (driven_from n plan.guard samples a count)) (account a) ≡ account (a + count)
  account_made account zero a made notes = let none : a ≡ a + zero = omega arith in ap account none
  account_made account (suc count) a made notes =
      let next : a + 1 + count ≡ a + suc count = omega arith in
      let low : a ≤ a = omega arith in
      let below : a < a + suc count = omega arith in
      let here = made a low below in
      let es = driven_from n plan.guard samples (a + 1) count in
      let noted_here : noted n (map (drive plan.guard n (samples a)) (source_numbers n)) (sent_in n (step a)) (account a) ≡ account (a + 1)
      = ap (λ (s : Frame). noted n (map (drive plan.guard n (samples a)) (source_numbers n)) (sent_in n s) (account a))
      (sym (frame_solved n plan (samples a) (state a) (state (a + 1)) (wave a) one here)) ∙ sym (notes a low below) in
      ap₂ (λ (z : List ℤ) (x : AccountOf). all_noted n es (solved_run n z es) x) (behind a here) noted_here
      ∙ (account_made account count (a + 1) (λ f more less. made f (omega (arith, more)) (omega (arith, less)))
      (λ f more less. notes f (omega (arith, more)) (omega (arith, less))) ∙ ap account next)
