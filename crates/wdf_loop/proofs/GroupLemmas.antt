-- Rows that hold a block's samples are values that the plan allows, and those of each run are its samples.
use Rattle.std.proofs.Common.{◌≡◌, ℕ, zero, suc, ◌+◌, ◌*◌, ◌/◌, ◌%◌, ◌<◌, ◌≤◌, ◌^◌, List, [], ◌∷◌, length, map, take, drop, refl, ap, sym, ◌∙◌, subst, arith}
use Rattle.std.specs.Prelude.{ℤ, pos, unsigned_abs, slice_index_or, All}
use mathlib.Core.Logic.{◌⊎◌, inl, inr}
use Rattle.std.proofs.Math.Nat.{add-mul, mod-lt, mul-le-mul}
use Rattle.std.proofs.lemmas.Bool.{cases_lt}
use Rattle.std.proofs.lemmas.Int.{unsigned_abs-mul}
use Rattle.std.proofs.lemmas.List.{get_or-drop, length-drop}
use Rattle.std.proofs.lemmas.List.Elements.{All-get_or}
use Rattle.std.proofs.lemmas.Nat.{div-add-mod'}
use Rattle.wdf_law.specs.OutputRule.{scaled_up}
use Rattle.wdf_bounds.specs.Plans.{PlanOf, greatest_input}
use Rattle.wdf_loop.specs.Blocks.{frame_values}
use Rattle.wdf_loop.specs.RunFrames.{samples_of}
use Rattle.wdf_loop.specs.Inputs.{AreAllowed, HoldFrames}
use Rattle.wdf_loop.specs.RunCells.{wave_in}
use Rattle.wdf_loop.proofs.PlaceLemmas.{ahead, next_whole}

past : (xs : List ℤ) (k : ℕ) → length xs ≤ k → slice_index_or xs k (pos 0) ≡ pos 0
past [] k h = refl
past (x ∷ xs) zero h = absurd (omega (arith, h))
past (x ∷ xs) (suc k) h = past xs k (omega (arith, h))

sample_small : (most : ℕ) (xs : List ℤ) (k : ℕ) → All (λ (z : ℤ). unsigned_abs z ≤ most) xs → unsigned_abs (slice_index_or xs k (pos 0)) ≤ most
sample_small most xs k all = by (cases_lt k (length xs))
  where
    by : (k < length xs) ⊎ (length xs ≤ k) → unsigned_abs (slice_index_or xs k (pos 0)) ≤ most
    by (inl less) = All-get_or (λ (z : ℤ). unsigned_abs z ≤ most) xs k (pos 0) less all
    by (inr more) = subst (λ (z : ℤ). unsigned_abs z ≤ most) (sym (past xs k more)) (omega arith)

scaled_small : (guard most : ℕ) (z : ℤ) → unsigned_abs z ≤ most → unsigned_abs (scaled_up guard z) ≤ most * 2 ^ guard
scaled_small guard most z h =
    let size : unsigned_abs (scaled_up guard z) ≡ unsigned_abs z * 2 ^ guard = unsigned_abs-mul z (pos (2 ^ guard)) in
    let both : unsigned_abs z * 2 ^ guard ≤ most * 2 ^ guard = mul-le-mul h (omega arith) in
    subst (λ (m : ℕ). m ≤ most * 2 ^ guard) (sym size) both

pub allowed : (runs : ℕ) (plan : PlanOf) (all first sources count : ℕ) (samples : List ℤ) (rows : List (List ℤ)) → HoldFrames runs plan.guard all first sources count samples rows → length rows ≡ count * sources
    → All (λ (z : ℤ). unsigned_abs z ≤ plan.amp) samples → AreAllowed runs plan rows
allowed runs plan all first sources count samples rows hold long most i c small few = by (cases_lt 0 sources)
  where
    frame : (count ≤ i / sources) → i / sources * sources + i % sources ≡ i → ⊥
    frame past whole =
        let more : count * sources ≤ i / sources * sources = mul-le-mul past (omega arith) in
        omega (arith, more, whole, small, long)

    at : 0 < sources → i / sources < count → unsigned_abs (wave_in (slice_index_or rows i []) c) ≤ greatest_input plan
    at some inner =
        let own = hold (i / sources) (i % sources) inner (mod-lt i some) c few in
        subst (λ (k : ℕ). unsigned_abs (wave_in (slice_index_or rows k []) c) ≤ greatest_input plan) (div-add-mod' i sources)
        (subst (λ (z : ℤ). unsigned_abs z ≤ greatest_input plan) (sym own)
        (scaled_small plan.guard plan.amp (slice_index_or samples ((i / sources * all + first) * sources + i % sources + c * sources) (pos 0))
        (sample_small plan.amp samples ((i / sources * all + first) * sources + i % sources + c * sources) most)))

    by : (0 < sources) ⊎ (sources ≤ 0) → unsigned_abs (wave_in (slice_index_or rows i []) c) ≤ greatest_input plan
    by (inl some) = inner (cases_lt (i / sources) count)
      where
        inner : (i / sources < count) ⊎ (count ≤ i / sources) → unsigned_abs (wave_in (slice_index_or rows i []) c) ≤ greatest_input plan
        inner (inl less) = at some less
        inner (inr more) = absurd (frame more (div-add-mod' i sources))
    by (inr none) =
        let zero_sources : sources ≡ 0 = omega (arith, none) in
        let nothing : count * sources ≡ count * 0 = (λ t. count * zero_sources t) in
        absurd (omega (arith, nothing, small, long))

-- ---- the values of a run

taken_same : (guard c n : ℕ) (rows : List (List ℤ)) (zs : List ℤ) → n ≤ length rows → n ≤ length zs
    → ((i : ℕ) → i < n → wave_in (slice_index_or rows i []) c ≡ scaled_up guard (slice_index_or zs i (pos 0)))
    → map (λ (row : List ℤ). wave_in row c) (take n rows) ≡ map (scaled_up guard) (take n zs)
taken_same guard c zero rows zs a b h = refl
taken_same guard c (suc n) [] zs a b h = absurd (omega (arith, a))
taken_same guard c (suc n) (row ∷ rows) [] a b h = absurd (omega (arith, b))
taken_same guard c (suc n) (row ∷ rows) (z ∷ zs) a b h =
    let rest = taken_same guard c n rows zs (omega (arith, a)) (omega (arith, b)) (λ i less. h (suc i) (omega (arith, less))) in
    λ t. h 0 (omega arith) t ∷ rest t

pub values_are : (runs guard all first sources count : ℕ) (samples : List ℤ) (rows : List (List ℤ)) → HoldFrames runs guard all first sources count samples rows → first + runs ≤ all → length rows ≡ count * sources
    → length samples ≡ count * all * sources → (f c : ℕ) → f < count → c < runs → frame_values sources rows f c ≡ map (scaled_up guard) (samples_of all sources (first + c) f samples)
values_are runs guard all first sources count samples rows hold within long each f c small few =
    taken_same guard c sources (drop (f * sources) rows) (drop ((f * all + (first + c)) * sources) samples) rows_long samples_long one
  where
    rows_long : sources ≤ length (drop (f * sources) rows)
    rows_long = let h = ahead f count sources small in omega (arith, h, long, length-drop (f * sources) rows)

    place : (i : ℕ) → (f * all + first) * sources + i + c * sources ≡ (f * all + (first + c)) * sources + i
    place i =
        let same : f * all + (first + c) ≡ f * all + first + c = omega arith in
        let apart : (f * all + first + c) * sources ≡ (f * all + first) * sources + c * sources = add-mul (f * all + first) c sources in
        let moved : (f * all + (first + c)) * sources ≡ (f * all + first + c) * sources = (λ t. same t * sources) in
        omega (arith, apart, moved)

    samples_long : sources ≤ length (drop ((f * all + (first + c)) * sources) samples)
    samples_long = omega (arith, length-drop ((f * all + (first + c)) * sources) samples, each, room)
      where
        room : (f * all + (first + c)) * sources + sources ≤ count * all * sources
        room =
            let h = ahead f count all small in
            let run : f * all + (first + c) + 1 ≤ count * all = omega (arith, h, within, few) in
            next_whole (f * all + (first + c)) (count * all) sources run

    one : (i : ℕ) → i < sources → wave_in (slice_index_or (drop (f * sources) rows) i []) c ≡ scaled_up guard (slice_index_or (drop ((f * all + (first + c)) * sources) samples) i (pos 0))
    one i less =
        (λ t. wave_in (get_or-drop (f * sources) rows i [] t) c)
        ∙ (hold f i small less c few
        ∙ (ap (λ (k : ℕ). scaled_up guard (slice_index_or samples k (pos 0))) (place i)
        ∙ ap (scaled_up guard) (sym (get_or-drop ((f * all + (first + c)) * sources) samples i (pos 0)))))
