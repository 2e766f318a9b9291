-- More samples are read.
use Rattle.std.proofs.Common.{◌≡◌, ℕ, ◌+◌, ◌-◌, ◌*◌, ◌/◌, ◌%◌, ◌<◌, ◌≤◌, List, [], ◌∷◌, ◌++◌, length, take, drop, set, sym, ap, ◌∙◌, arith, take-add, length-drop, length-take-le, ℤ}
use Rattle.std.proofs.lemmas.List.{take_more_set, take_all}
use Rattle.std.proofs.lemmas.Simd.{take_more_put_chunk}
use lib.Lanes.{put_chunk}
use Rattle.wdf_wav.specs.Laws.{HoldsOneSample, SamplesAppend, CountsSamples}
use Rattle.wdf_wav.specs.PcmStream.{samples_of}
use Rattle.wdf_wav.specs.SampleCoding.{sample_value}

-- the samples of a front, and of the bytes behind it
front_more : (bytes : List ℕ) (n more : ℕ) → SamplesAppend 16 → n * 2 ≤ length bytes
    → samples_of 16 (take (n * 2 + more) bytes) ≡ samples_of 16 (take (n * 2) bytes) ++ samples_of 16 (take more (drop (n * 2) bytes))
front_more bytes n more append inside =
    let whole : length (take (n * 2) bytes) % 2 ≡ 0 = ap (λ (k : ℕ). k % 2) (length-take-le (n * 2) bytes inside) ∙ omega arith in
    ap (samples_of 16) (take-add (n * 2) more bytes) ∙ append (take (n * 2) bytes) (take more (drop (n * 2) bytes)) whole

length-piece : (bytes : List ℕ) (n m : ℕ) → n + m ≤ length bytes → length (take m (drop n bytes)) ≡ m
length-piece bytes n m inside = length-take-le m (drop n bytes) (omega (arith, length-drop n bytes))

-- a group of four more
pub four_read : (k : ℕ) (bytes : List ℕ) (out four : List ℤ) → SamplesAppend 16 → CountsSamples 16 → k * 4 + 4 ≤ length out → length bytes ≡ length out * 2
    → take (k * 4) out ≡ samples_of 16 (take (k * 8) bytes) → four ≡ samples_of 16 (take (k * 8 + 8 - k * 8) (drop (k * 8) bytes))
    → take ((k + 1) * 4) (put_chunk (k * 4) out four) ≡ samples_of 16 (take ((k + 1) * 8) bytes)
four_read k bytes out four append counts inside whole so_far is =
    let size : k * 8 + 8 - k * 8 ≡ 8 = omega arith in
    let here : four ≡ samples_of 16 (take 8 (drop (k * 8) bytes)) = is ∙ ap (λ (n : ℕ). samples_of 16 (take n (drop (k * 8) bytes))) size in
    let long : length four ≡ 4 = ap (λ (l : List ℤ). length l) here ∙ (counts (take 8 (drop (k * 8) bytes)) ∙ ap (λ (n : ℕ). n / 2) (length-piece bytes (k * 8) 8 (omega arith))) in
    let place : k * 4 * 2 ≡ k * 8 = omega arith in
    let last : k * 4 * 2 + 8 ≡ (k + 1) * 8 = omega arith in
    take_more_put_chunk (k * 4) out four ((k + 1) * 4) (omega arith) (omega arith)
    ∙ ((λ i. so_far i ++ here i)
    ∙ sym (ap (λ (n : ℕ). samples_of 16 (take n bytes)) (sym last)
    ∙ (front_more bytes (k * 4) 8 append (omega arith)
    ∙ ap (λ (n : ℕ). samples_of 16 (take n bytes) ++ samples_of 16 (take 8 (drop n bytes))) place)))

-- one more
pub one_read : (k : ℕ) (bytes : List ℕ) (out : List ℤ) (z : ℤ) → SamplesAppend 16 → HoldsOneSample 16 → k < length out → length bytes ≡ length out * 2
    → take k out ≡ samples_of 16 (take (k * 2) bytes) → z ≡ sample_value 16 (take (k * 2 + 2 - k * 2) (drop (k * 2) bytes))
    → take (k + 1) (set out k z) ≡ samples_of 16 (take ((k + 1) * 2) bytes)
one_read k bytes out z append one inside whole so_far is =
    let size : k * 2 + 2 - k * 2 ≡ 2 = omega arith in
    let piece = take 2 (drop (k * 2) bytes) in
    let here : z ≡ sample_value 16 piece = is ∙ ap (λ (n : ℕ). sample_value 16 (take n (drop (k * 2) bytes))) size in
    let last : k * 2 + 2 ≡ (k + 1) * 2 = omega arith in
    take_more_set out k z inside
    ∙ ((λ i. so_far i ++ here i ∷ [])
    ∙ sym (ap (λ (n : ℕ). samples_of 16 (take n bytes)) (sym last)
    ∙ (front_more bytes k 2 append (omega arith)
    ∙ ap (λ (l : List ℤ). samples_of 16 (take (k * 2) bytes) ++ l) (one piece (length-piece bytes (k * 2) 2 (omega arith))))))

-- all
pub all_read : (k : ℕ) (bytes : List ℕ) (out : List ℤ) → length out ≤ k → length bytes ≡ length out * 2 → take k out ≡ samples_of 16 (take (k * 2) bytes) → out ≡ samples_of 16 bytes
all_read k bytes out all whole so_far =
    sym (take_all k out all) ∙ (so_far ∙ ap (samples_of 16) (take_all (k * 2) bytes (omega arith)))
