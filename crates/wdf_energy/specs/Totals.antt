-- The totals of a run from rest, in units of the square of a wave: what the sources sent in, what the resistors and the
-- sources took up, and what is stored at its end,
--   incident = the sum of e² over the sources and the frames
--   absorbed = the sum of floor(S·2^40/p) over the resistors and the sources
--   stored = the sum of floor(x²·2^40/p) over the reactances
-- where S is the sum over the frames of the squares of the waves that the element is sent, x its state at the end, and p
-- the number of its port.
use Rattle.std.specs.Prelude.{ℕ, ◌+◌, ◌*◌, ◌/◌, ◌^◌, ℤ, List, [], ◌∷◌}
use Rattle.std.specs.List.{sum_by}
use Rattle.wdf_algebra.specs.Squares.{square}
use Rattle.wdf_law.specs.Network.{Network, reactances, source_numbers, absorbing_numbers}
use Rattle.wdf_law.specs.Step.{Frame}
use Rattle.wdf_law.specs.Run.{states, at_rest, at_end}
use Rattle.wdf_quant.specs.PortBound.{number_at}
use Rattle.wdf_bounds.specs.HeldWords.{squares_sent}
use Rattle.wdf_energy.specs.declared.totals.Totals.{Totals}

-- floor(s·2^40/p)
abbrev pub part : (s p : ℕ) → ℕ
part s p = s * 2 ^ 40 / p

-- the sum of these over elements, s being a number for each
abbrev pub parts : Network → (ℕ → ℕ) → List ℕ → ℕ
parts n s js = sum_by (λ (j : ℕ). part (s j) (number_at n j)) js

-- the sum of e² over the sources, in a frame and in all
abbrev pub squares_in : Network → (ℕ → ℤ) → ℕ
squares_in n e = sum_by (λ (j : ℕ). square (e j)) (source_numbers n)

abbrev pub all_squares_in : Network → List (ℕ → ℤ) → ℕ
all_squares_in n [] = 0
all_squares_in n (e ∷ es) = squares_in n e + all_squares_in n es

abbrev pub run_totals : Network → List (ℕ → ℤ) → List Frame → Totals
run_totals n es ss = record {
  incident = all_squares_in n es;
  absorbed = parts n (λ (j : ℕ). squares_sent n j ss) (absorbing_numbers n);
  stored = parts n (λ (j : ℕ). square (states n (at_end n (at_rest n) ss) j)) (reactances n);
}
