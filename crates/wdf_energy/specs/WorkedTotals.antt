-- Totals worked by hand, and ledger lines of another program, k = 14, against which the definitions are checked.
use Rattle.std.specs.Prelude.{◌≡◌, ℕ, ℤ, pos, neg_ℤ, false, true, List, [], ◌∷◌, map}
use Rattle.wdf_law.specs.declared.kind.Kind.TheVariants.{Res, Cap, Ind, Src}
use Rattle.wdf_law.specs.declared.outlet.Outlet.TheVariants.{Load}
use Rattle.wdf_law.specs.Trees.{leaf, series, parallel}
use Rattle.wdf_law.specs.Network.{Network}
use Rattle.wdf_law.specs.Step.{Frame}
use Rattle.wdf_law.specs.Run.{source_values, at_rest, at_end}
use Rattle.wdf_law.specs.Solved.{solved_run}
use Rattle.wdf_bounds.specs.HeldWords.{squares_sent}
use Rattle.wdf_quant.specs.WorkedWalks.{one_source, two_sources}
use Rattle.wdf_energy.specs.declared.totals.Totals.{Totals}
use Rattle.wdf_energy.specs.Totals.{run_totals}
use Rattle.wdf_energy.specs.Accounts.{AccountOf, noted, opened, totals_of, wave_at}

-- the inputs of frames by the values of the sources in each, and the frames from rest
abbrev pub inputs_of : Network → List (List ℤ) → List (ℕ → ℤ)
inputs_of n es = map (source_values n) es

abbrev pub frames_of : Network → List (List ℤ) → List Frame
frames_of n es = solved_run n (at_rest n) (inputs_of n es)

abbrev pub totals_over : Network → List (List ℤ) → Totals
totals_over n es = run_totals n (inputs_of n es) (frames_of n es)

-- 16384, 0, 0 into a source with a capacitor and a load in parallel
abbrev pub pulse : List (List ℤ)
pulse = (pos 16384 ∷ []) ∷ (pos 0 ∷ []) ∷ (pos 0 ∷ []) ∷ []

-- 3000 and 6000, then 3 and -3, into two sources with the load in parallel to the second
abbrev pub pairs : List (List ℤ)
pairs = (pos 3000 ∷ pos 6000 ∷ []) ∷ (pos 3 ∷ neg_ℤ (pos 3) ∷ []) ∷ []

-- ---- frames as a ledger is told of them

-- the values of the sources, and the waves that the elements are sent
abbrev pub Told : Type 0
Told = List ℤ × List ℤ

abbrev pub all_told : Network → List Told → AccountOf → AccountOf
all_told n [] a = a
all_told n (f ∷ fs) a = all_told n fs (noted n f.0 (wave_at f.1) a)

abbrev pub totals_told : Network → List Told → Totals
totals_told n fs = totals_of n (all_told n fs (opened n))

-- the source flipped, in series with an inductor and a flipped load in parallel, and a second source as the left tree
abbrev pub flipped_source : Network
flipped_source = record {
  k = 14;
  m = 8192;
  left = leaf 2 Src false;
  right = series 4096 (leaf 0 Src true) (parallel 12288 (leaf 1 Ind false) (leaf 3 Res true));
  outlet = Load 3;
}

-- a notch at the hum of the mains: an inductor and a capacitor in series, across the load
abbrev pub notch : Network
notch = record {
  k = 14;
  m = 8166;
  left = leaf 0 Src false;
  right = parallel 102 (series 16383 (leaf 1 Ind false) (leaf 2 Cap false)) (leaf 3 Res false);
  outlet = Load 3;
}

-- a microphone and a line, each behind a resistor
abbrev pub two_inputs : Network
two_inputs = record {
  k = 14;
  m = 13789;
  left = leaf 0 Src false;
  right = series 5140 (leaf 1 Res false) (parallel 12800 (series 12873 (leaf 3 Res false) (leaf 2 Src false)) (leaf 4 Res false));
  outlet = Load 4;
}

abbrev pub minus : ℕ → ℤ
minus m = neg_ℤ (pos m)

-- Two runs of 1,200 frames. Each sum of their squares is that of four numbers, which stand here for the frames; the waves of
-- capacitors and inductors count in the last frame alone.
abbrev pub notch_frames : List Told
notch_frames =
    (pos 5465952 ∷ [], pos 65544 ∷ pos 1 ∷ pos 2 ∷ minus 6070322 ∷ [])
    ∷ (minus 3184432 ∷ [], pos 178728 ∷ pos 3 ∷ pos 4 ∷ pos 2486302 ∷ [])
    ∷ (minus 3227136 ∷ [], minus 352790 ∷ pos 5 ∷ pos 6 ∷ pos 3490370 ∷ [])
    ∷ (pos 3150160 ∷ [], minus 115636 ∷ pos 1079713 ∷ pos 4060 ∷ minus 2225144 ∷ []) ∷ []

abbrev pub two_inputs_frames : List Told
two_inputs_frames =
    (pos 256592 ∷ minus 187248 ∷ [], pos 1918996 ∷ pos 4603657 ∷ pos 27519 ∷ pos 579247 ∷ pos 6726207 ∷ [])
    ∷ (pos 0 ∷ pos 0 ∷ [], minus 857543 ∷ pos 1571618 ∷ minus 12302 ∷ pos 8056871 ∷ minus 959498 ∷ [])
    ∷ (minus 7454560 ∷ pos 3374896 ∷ [], pos 3721021 ∷ minus 1566256 ∷ pos 68026 ∷ minus 4898007 ∷ pos 2467368 ∷ [])
    ∷ (pos 0 ∷ pos 0 ∷ [], minus 1875390 ∷ minus 787495 ∷ minus 20255 ∷ pos 2522152 ∷ pos 728495 ∷ []) ∷ []

pub record AreWorkedTotals : Type 0 where
  -- 5462² + 7281² + 2426² at the source, 10922² + 7281² + 2426² at the load, and 1214 in the capacitor
  pub pulse_source : squares_sent one_source 0 (frames_of one_source pulse) ≡ 88731881
  pub pulse_load : squares_sent one_source 2 (frames_of one_source pulse) ≡ 178188521
  pub pulse_state : at_end one_source (at_rest one_source) (frames_of one_source pulse) ≡ pos 1214 ∷ []
  pub pulse_totals : totals_over one_source pulse ≡ record { incident = 268435456; absorbed = 266936716; stored = 1473930 }
  pub pair_totals : totals_over two_sources pairs ≡ record { incident = 45000018; absorbed = 22500621; stored = 0 }
  -- silence from the state -3641
  pub silence_told : totals_told one_source ((pos 0 ∷ [], minus 2426 ∷ pos 1214 ∷ minus 2426 ∷ []) ∷ []) ≡ record { incident = 0; absorbed = 11771490; stored = 1473930 }
  pub flipped_told : totals_told flipped_source ((pos 777 ∷ minus 1001 ∷ [], minus 1020 ∷ minus 230 ∷ minus 28 ∷ pos 768 ∷ []) ∷ [])
      ≡ record { incident = 1605730; absorbed = 871797; stored = 10580 }
  pub notch_told : totals_told notch notch_frames ≡ record { incident = 60355153217024; absorbed = 60344702665718; stored = 8996359913 }
  pub inputs_told : totals_told two_inputs two_inputs_frames ≡ record { incident = 67061289072384; absorbed = 33534075525177; stored = 0 }
