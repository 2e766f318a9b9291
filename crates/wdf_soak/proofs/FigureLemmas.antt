-- The figures of samples, one after another.
use Rattle.std.proofs.Common.{◌≡◌, ℕ, ◌+◌, ◌*◌, ◌<◌, ◌≤◌, List, [], ◌∷◌, ◌++◌, length, take, drop, get_or, refl, sym, ap, ◌∙◌, subst, arith}
use Rattle.std.specs.Prelude.{ℤ, pos, negsuc, ◌+ℤ◌, ◌-ℤ◌, ◌≤ℤ◌, ◌<ℤ◌, slice_index_or}
use Rattle.std.proofs.lemmas.Int.{ints}
use Rattle.std.proofs.lemmas.List.{take_more}
use Rattle.std.proofs.lemmas.List.Sums.{fold-append}
use Rattle.wdf_wav.specs.Laws.{HoldsSampleAt}
use Rattle.wdf_wav.specs.PcmStream.{samples_of}
use Rattle.wdf_wav.specs.SampleCoding.{sample_value}
use Rattle.wdf_made.specs.Wave.{made_head}
use Rattle.wdf_soak.specs.declared.figures.Figures.{Figures}
use Rattle.wdf_soak.specs.Figures.{figures_of, figures_with, greater, lesser}

-- those with one sample more
pub figures_more : (zs : List ℤ) (z : ℤ) → figures_of (zs ++ z ∷ []) ≡ figures_with (figures_of zs) z
figures_more zs z i = record {
  sum = fold-append ◌+ℤ◌ (pos 0) zs (z ∷ []) i;
  least = fold-append lesser (pos 32767) zs (z ∷ []) i;
  greatest = fold-append greater (negsuc 32767) zs (z ∷ []) i;
}

-- those of a longer front
pub figures_next : (zs : List ℤ) (n : ℕ) → n < length zs → figures_of (take (n + 1) zs) ≡ figures_with (figures_of (take n zs)) (slice_index_or zs n (pos 0))
figures_next zs n less = ap figures_of (take_more zs n (pos 0) less) ∙ figures_more (take n zs) (slice_index_or zs n (pos 0))

-- and how far its sum is from 0
pub sum_low : (place : ℕ) (sum z next : ℤ) → next ≡ sum +ℤ z → (pos 0 -ℤ pos (32768 * place)) ≤ℤ sum → (pos 0 -ℤ pos 32768) ≤ℤ z
    → (pos 0 -ℤ pos (32768 * (place + 1))) ≤ℤ next
sum_low place sum z next e low from = omega (arith, ints)

pub sum_high : (place : ℕ) (sum z next : ℤ) → next ≡ sum +ℤ z → sum ≤ℤ pos (32768 * place) → z <ℤ pos 32768 → next ≤ℤ pos (32768 * (place + 1))
sum_high place sum z next e high to = omega (arith, ints)

-- where a sample of mono data of 16 bits stands
pub mono_sample : HoldsSampleAt (made_head 0) → (bytes : List ℕ) (place : ℕ) → 2 * place + 2 ≤ length bytes
    → slice_index_or (samples_of 16 bytes) place (pos 0) ≡ sample_value 16 (take 2 (drop (2 * place) bytes))
mono_sample holds bytes place fits =
    let at : place ≡ place * 1 + 0 = omega arith in
    let offset : place * 2 + 0 ≡ 2 * place = omega arith in
    ap (λ (n : ℕ). slice_index_or (samples_of 16 bytes) n (pos 0)) at
    ∙ holds bytes place 0 (omega arith) (omega arith)
    ∙ ap (λ (n : ℕ). sample_value 16 (take 2 (drop n bytes))) offset
