-- Whole frames among samples and bytes.
use Rattle.std.proofs.Common.{◌≡◌, ℕ, zero, suc, ◌*◌, ◌/◌, ◌%◌, ◌≤◌, List, [], ◌∷◌, ◌++◌, length, take, drop, refl, sym, ap, ◌∙◌, subst, arith, take-append-drop, length-take-le}
use Rattle.std.specs.Prelude.{ℤ, All}
use Rattle.std.proofs.Math.Nat.{div-mul-le_self, div-le_of_le-mul, mul-le-mul_right, mul-mod_left, mul-div_cancel}
use Rattle.std.proofs.lemmas.List.{take_at, nil_from_length}
use Rattle.std.proofs.lemmas.List.Elements.{All-take}
use Rattle.wdf_frames.specs.Setting.{Setting, read_size, samples_in}
use Rattle.wdf_frames.specs.Progress.{HasSampleLaws}
use Rattle.wdf_frames.proofs.WidthLemmas.{some_byte}

pub whole_within : (samples channels count : ℕ) → 1 ≤ channels → samples ≤ count * channels → samples / channels ≤ count
whole_within samples channels count some most = div-le_of_le-mul channels (omega arith)

pub whole_inside : (samples channels : ℕ) → samples / channels * channels ≤ samples
whole_inside samples channels = div-mul-le_self samples channels

-- a front of a front
pub take_front : {X : Type 0} (n m : ℕ) (xs : List X) → n ≤ m → take n (take m xs) ≡ take n xs
take_front zero m xs less = refl
take_front (suc n) zero xs less = absurd (omega arith)
take_front (suc n) (suc m) [] less = refl
take_front {X = X} (suc n) (suc m) (x ∷ xs) less = ap (λ (l : List X). x ∷ l) (take_front n m xs (omega arith))

-- what holds of the samples in front holds of those of their whole frames
pub whole_small : (P : ℤ → Type 0) (items samples : List ℤ) (all small n : ℕ) → take all items ≡ samples → n ≤ small → small ≤ all → All P (take small samples) → All P (take n items)
whole_small P items samples all small n read less most hold =
    let same : take n (take small samples) ≡ take n items
    = take_front n small samples less ∙ (ap (take n) (sym read) ∙ take_front n all items (omega arith)) in
    subst (All P) same (All-take P n (take small samples) hold)

-- ---- the samples of whole frames

frames_size : (whole channels size : ℕ) → whole * (channels * size) ≡ whole * channels * size
frames_size whole channels size = omega arith

pub length_samples : (s : Setting) → HasSampleLaws s → (count : ℕ) (frames : List ℕ) → length frames ≡ count * read_size s → length (samples_in s frames) ≡ count * s.head.channels
length_samples s laws count frames long =
    let size = s.head.bits / 8 in
    laws.counts frames ∙ (ap (λ (n : ℕ). n / size) (long ∙ frames_size count s.head.channels size) ∙ mul-div_cancel (count * s.head.channels) (some_byte s.head.bits laws.width))

-- bytes of whole frames are bytes of whole samples
pub whole_samples : (s : Setting) (count : ℕ) (frames : List ℕ) → length frames ≡ count * read_size s → length frames % (s.head.bits / 8) ≡ 0
whole_samples s count frames long =
    let size = s.head.bits / 8 in
    ap (λ (n : ℕ). n % size) (long ∙ frames_size count s.head.channels size) ∙ mul-mod_left (count * s.head.channels) size

pub samples_front : (s : Setting) → HasSampleLaws s → (count whole : ℕ) (frames : List ℕ) → length frames ≡ count * read_size s → whole ≤ count
    → samples_in s (take (whole * read_size s) frames) ≡ take (whole * s.head.channels) (samples_in s frames)
samples_front s laws count whole frames long less =
    let k = whole * read_size s in
    let most : whole * read_size s ≤ count * read_size s = mul-le-mul_right (read_size s) less in
    let size : length (take k frames) ≡ whole * read_size s = length-take-le k frames (omega arith) in
    let count_is : length (samples_in s (take k frames)) ≡ whole * s.head.channels = length_samples s laws whole (take k frames) size in
    let parts : samples_in s frames ≡ samples_in s (take k frames) ++ samples_in s (drop k frames)
    = ap (samples_in s) (sym (take-append-drop k frames)) ∙ laws.read (take k frames) (drop k frames) (whole_samples s whole (take k frames) size) in
    sym (ap (take (whole * s.head.channels)) parts ∙ take_at (samples_in s (take k frames)) (samples_in s (drop k frames)) (whole * s.head.channels) count_is)

pub samples_more : (s : Setting) → HasSampleLaws s → (done : ℕ) (body frames : List ℕ) → length body ≡ done * read_size s → samples_in s (body ++ frames) ≡ samples_in s body ++ samples_in s frames
samples_more s laws done body frames long = laws.read body frames (whole_samples s done body long)

pub no_samples : (s : Setting) → HasSampleLaws s → samples_in s [] ≡ []
no_samples s laws = nil_from_length (samples_in s []) (length_samples s laws 0 [] (omega arith) ∙ omega arith)
