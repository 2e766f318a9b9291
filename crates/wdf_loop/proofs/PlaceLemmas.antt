-- The places of samples and of load waves: by frames, then runs, then sources.
use Rattle.std.proofs.Common.{◌≡◌, ℕ, ◌+◌, ◌*◌, ◌<◌, ◌≤◌, List, [], sym, ◌∙◌, subst, arith}
use Rattle.std.specs.Prelude.{ℤ, pos, slice_index_or}
use mathlib.Core.Logic.{◌⊎◌, inl, inr}
use Rattle.std.proofs.Math.Nat.{add-mul, mul-le-mul}
use Rattle.std.proofs.lemmas.Bool.{cases_lt}
use Rattle.wdf_loop.specs.Inputs.{HoldFrames, HoldsSamples}

-- so much more of each of fewer
pub next_whole : (x most each : ℕ) → x + 1 ≤ most → x * each + each ≤ most * each
next_whole x most each h =
    let more : (x + 1) * each ≤ most * each = mul-le-mul h (omega arith) in
    let apart : (x + 1) * each ≡ x * each + 1 * each = add-mul x 1 each in
    omega (arith, more, apart)

pub ahead : (f count all : ℕ) → f < count → f * all + all ≤ count * all
ahead f count all h = next_whole f count all (omega (arith, h))

pub inside : (f count all first runs sources i c : ℕ) → f < count → first + runs ≤ all → i < sources → c < runs → (f * all + first) * sources + i + c * sources < count * all * sources
inside f count all first runs sources i c h within small few =
    let before = ahead f count all h in
    let more = next_whole (f * all + first + c) (count * all) sources (omega (arith, before, within, few)) in
    let apart : (f * all + first + c) * sources ≡ (f * all + first) * sources + c * sources = add-mul (f * all + first) c sources in
    omega (arith, more, apart, small)

-- where there is a run, a frame's samples for its first one are within
pub whole : (f count all first runs sources : ℕ) → f < count → first + runs ≤ all → 1 ≤ runs → (f * all + first) * sources + sources ≤ count * all * sources
whole f count all first runs sources h within some = let before = ahead f count all h in next_whole (f * all + first) (count * all) sources (omega (arith, before, within, some))

-- one frame more
pub frame_more : (runs guard all first sources f : ℕ) (samples : List ℤ) (rows behind : List (List ℤ)) → HoldFrames runs guard all first sources f samples rows
    → ((i : ℕ) → i < sources → HoldsSamples runs guard sources samples ((f * all + first) * sources + i) (slice_index_or behind (f * sources + i) []))
    → ((k : ℕ) → k < f * sources → slice_index_or behind k [] ≡ slice_index_or rows k [])
    → HoldFrames runs guard all first sources (f + 1) samples behind
frame_more runs guard all first sources f samples rows behind so_far now same k i less small = by (cases_lt k f)
  where
    by : (k < f) ⊎ (f ≤ k) → HoldsSamples runs guard sources samples ((k * all + first) * sources + i) (slice_index_or behind (k * sources + i) [])
    by (inl before) =
        let h = ahead k f sources before in
        subst (HoldsSamples runs guard sources samples ((k * all + first) * sources + i)) (sym (same (k * sources + i) (omega (arith, h, small)))) (so_far k i before small)
    by (inr from) =
        let at : f ≡ k = omega (arith, less, from) in
        subst (λ (m : ℕ). HoldsSamples runs guard sources samples ((m * all + first) * sources + i) (slice_index_or behind (m * sources + i) [])) at (now i small)

-- ---- load waves

-- a frame's run is not in another frame, nor another run of it
other_place : (k f all first runs run : ℕ) → run < all → first + runs ≤ all → ((k < f) ⊎ (f < k)) ⊎ ((run < first) ⊎ (first + runs ≤ run)) → k ≡ f ⊎ ((k < f) ⊎ (f < k))
    → (k * all + run < f * all + first) ⊎ (f * all + first + runs ≤ k * all + run)
other_place k f all first runs run few within apart (inr (inl before)) = let h = ahead k f all before in inl (omega (arith, h, few))
other_place k f all first runs run few within apart (inr (inr later)) = let h = ahead f k all later in inr (omega (arith, h, within))
other_place k f all first runs run few within (inl (inl before)) (inl same) = absurd (omega (arith, before, same))
other_place k f all first runs run few within (inl (inr later)) (inl same) = absurd (omega (arith, later, same))
other_place k f all first runs run few within (inr side) (inl same) = by side
  where
    at : k * all ≡ f * all
    at = λ i. same i * all

    by : (run < first) ⊎ (first + runs ≤ run) → (k * all + run < f * all + first) ⊎ (f * all + first + runs ≤ k * all + run)
    by (inl low) = inl (omega (arith, at, low))
    by (inr high) = inr (omega (arith, at, high))

order : (k f : ℕ) → k ≡ f ⊎ ((k < f) ⊎ (f < k))
order k f = by (cases_lt k f) (cases_lt f k)
  where
    by : (k < f) ⊎ (f ≤ k) → (f < k) ⊎ (k ≤ f) → k ≡ f ⊎ ((k < f) ⊎ (f < k))
    by (inl less) side = inr (inl less)
    by (inr low) (inl more) = inr (inr more)
    by (inr low) (inr high) = inl (omega (arith, low, high))

pub others_stay : (f all first runs : ℕ) (before behind : List ℤ) → first + runs ≤ all
    → ((k : ℕ) → (k < f * all + first) ⊎ (f * all + first + runs ≤ k) → slice_index_or behind k (pos 0) ≡ slice_index_or before k (pos 0))
    → (k run : ℕ) → run < all → (run < first) ⊎ (first + runs ≤ run) → slice_index_or behind (k * all + run) (pos 0) ≡ slice_index_or before (k * all + run) (pos 0)
others_stay f all first runs before behind within same k run few side = same (k * all + run) (other_place k f all first runs run few within (inr side) (order k f))

pub loads_more : (f all first runs : ℕ) (load : ℕ → ℕ → ℤ) (before behind : List ℤ) → first + runs ≤ all
    → ((k c : ℕ) → k < f → c < runs → slice_index_or before (k * all + (first + c)) (pos 0) ≡ load k c)
    → ((c : ℕ) → c < runs → slice_index_or behind (f * all + first + c) (pos 0) ≡ load f c)
    → ((k : ℕ) → (k < f * all + first) ⊎ (f * all + first + runs ≤ k) → slice_index_or behind k (pos 0) ≡ slice_index_or before k (pos 0))
    → (k c : ℕ) → k < f + 1 → c < runs → slice_index_or behind (k * all + (first + c)) (pos 0) ≡ load k c
loads_more f all first runs load before behind within so_far now same k c less small = by (cases_lt k f)
  where
    by : (k < f) ⊎ (f ≤ k) → slice_index_or behind (k * all + (first + c)) (pos 0) ≡ load k c
    by (inl low) = let h = ahead k f all low in same (k * all + (first + c)) (inl (omega (arith, h, within, small))) ∙ so_far k c low small
    by (inr from) =
        let at : f ≡ k = omega (arith, less, from) in
        let place : f * all + first + c ≡ f * all + (first + c) = omega arith in
        subst (λ (m : ℕ). slice_index_or behind (m * all + (first + c)) (pos 0) ≡ load m c) at
        (subst (λ (m : ℕ). slice_index_or behind m (pos 0) ≡ load f c) place (now c small))
