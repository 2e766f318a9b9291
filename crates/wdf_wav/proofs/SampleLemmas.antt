-- The coding of samples, and the way back.
use Rattle.std.proofs.Common.{◌≡◌, ℕ, zero, suc, ◌+◌, ◌*◌, ◌/◌, ◌%◌, ◌^◌, ◌<◌, List, [], ◌∷◌, ◌++◌, length, slice_index, get_or, Fits, w8, ℤ, refl, sym, ap, subst, ◌∙◌, append-nil, arith}
use Rattle.std.proofs.lemmas.Int.{ints}
use Rattle.std.proofs.lemmas.List.{get_or_default}
use Rattle.std.proofs.lemmas.Bool.Decides.{nat_tests}
use Rattle.std.proofs.Math.Nat.{div-div-eq-div-mul, pow-succ'}
use Rattle.std.specs.Int.{bytes_low_first}
use Rattle.std.specs.List.{All}
use Rattle.byteorder.specs.Endian.{little_from, little_bytes, little_number}
use Rattle.byteorder.specs.Numbers.{little_from-cons, little_from-lt, little_number-reads_back, length-bytes_low_first}
use Rattle.wdf_algebra.specs.Samples.{IsSampleValue, IsSampleWidth}
use Rattle.wdf_wav.specs.SampleCoding.{value_of_code, code_of_value, sample_value, sample_coding}

-- a value's number stands for that value
value_of_code-code_of_value : (bits : ℕ) (z : ℤ) → IsSampleWidth bits → IsSampleValue bits z → value_of_code bits (code_of_value bits z) ≡ z
value_of_code-code_of_value bits z w h = grind (arith, ints, nat_tests)

-- a value's number fits the sample's bytes
code_of_value-lt : (bits : ℕ) (z : ℤ) → IsSampleWidth bits → IsSampleValue bits z → code_of_value bits z < 256 ^ (bits / 8)
code_of_value-lt bits z w h = grind (arith, ints, nat_tests)

-- the number of the value for which a number stands
code_of_value-value_of_code : (bits n : ℕ) → IsSampleWidth bits → n < 256 ^ (bits / 8) → code_of_value bits (value_of_code bits n) ≡ n
code_of_value-value_of_code bits n w h = grind (arith, ints, nat_tests)

-- the bytes of x from place j + 1 on are those of x / 256 from place j on
bytes_low_first-suc : (j n x : ℕ) → bytes_low_first (suc j) n x ≡ bytes_low_first j n (x / 256)
bytes_low_first-suc j zero x = refl
bytes_low_first-suc zero (suc n) x = ap (λ (r : List ℕ). x / 256 % 256 ∷ r) (bytes_low_first-suc 1 n x)
bytes_low_first-suc (suc j) (suc n) x =
    let moved : x / 256 ^ suc (suc j) ≡ x / 256 / 256 ^ suc j = ap (λ (p : ℕ). x / p) (pow-succ' 256 (suc j)) ∙ sym (div-div-eq-div-mul x 256 (256 ^ suc j)) in
    rw (moved, bytes_low_first-suc (suc (suc j)) n x) refl

-- bytes are the bytes of the number that they spell
little_bytes-little_number : (bytes : List ℕ) → All (λ b. b < 256) bytes → little_bytes (length bytes) (little_number (length bytes) bytes) ≡ bytes
little_bytes-little_number [] small = refl
little_bytes-little_number (b ∷ bs) small =
    let first : b < 256 = small 0 0 (omega arith) in
    let rest : little_bytes (length bs) (little_number (length bs) bs) ≡ bs = little_bytes-little_number bs (λ k d h. small (suc k) d (omega arith)) in
    let n = little_number (length bs) bs in
    let moved : little_from 1 (length bs) (b ∷ bs) ≡ n = little_from-cons 0 (length bs) b bs in
    let low : (b + 256 * n) % 256 ≡ b = omega arith in
    let high : (b + 256 * n) / 256 ≡ n = omega arith in
    rw (moved, low, bytes_low_first-suc 0 (length bs) (b + 256 * n), high, rest) refl

-- each place of bytes is below 256, and so is 0 past their end
places_below : (bytes : List ℕ) → All (λ b. b < 256) bytes → (i : ℕ) → slice_index bytes i < 256
places_below [] small i = omega arith
places_below (b ∷ bs) small zero = small 0 0 (omega arith)
places_below (b ∷ bs) small (suc i) = places_below bs (λ k d h. small (suc k) d (omega arith)) i

-- the number that a sample's bytes spell fits them
little_number-lt : (n : ℕ) (bytes : List ℕ) → All (λ b. b < 256) bytes → little_number n bytes < 256 ^ n
little_number-lt n bytes small = little_from-lt 0 n bytes (places_below bytes small)

-- what is coded is read as the value that it was
sample_value-sample_coding : (bits : ℕ) (z : ℤ) → IsSampleWidth bits → IsSampleValue bits z → sample_value bits (sample_coding bits z) ≡ z
unfolding sample_value sample_coding
sample_value-sample_coding bits z w h =
    let code = code_of_value bits z in
    let back : little_number (bits / 8) (sample_coding bits z ++ []) ≡ code = little_number-reads_back (bits / 8) code [] (code_of_value-lt bits z w h) in
    ap (value_of_code bits) (ap (little_number (bits / 8)) (sym (append-nil (sample_coding bits z))) ∙ back) ∙ value_of_code-code_of_value bits z w h

-- bytes are the coding of the value that is read in them
sample_coding-sample_value : (bits : ℕ) (bytes : List ℕ) → IsSampleWidth bits → length bytes ≡ bits / 8 → All (λ b. b < 256) bytes → sample_coding bits (sample_value bits bytes) ≡ bytes
unfolding sample_value sample_coding
sample_coding-sample_value bits bytes w whole small =
    let n = little_number (bits / 8) bytes in
    let same : code_of_value bits (value_of_code bits n) ≡ n = code_of_value-value_of_code bits n w (little_number-lt (bits / 8) bytes small) in
    ap (little_bytes (bits / 8)) same ∙ subst (λ (k : ℕ). little_bytes k (little_number k bytes) ≡ bytes) whole (little_bytes-little_number bytes small)

-- a sample has as many bytes as its width says
pub length-sample_coding : (bits : ℕ) (z : ℤ) → length (sample_coding bits z) ≡ bits / 8
unfolding sample_coding
length-sample_coding bits z = length-bytes_low_first 0 (bits / 8) (code_of_value bits z)

-- the value that is read in bytes has them as its coding
pub coded_reading : (bits : ℕ) (bytes : List ℕ) (value : ℤ) → IsSampleWidth bits → length bytes ≡ bits / 8 → ((k : ℕ) → Fits w8 (get_or bytes k 0))
    → value ≡ sample_value bits bytes → sample_coding bits value ≡ bytes
coded_reading bits bytes value w whole fits same =
    let small : All (λ b. b < 256) bytes = λ k d h. let f = fits k in rw (get_or_default bytes k d 0 h) (omega (arith, f.fits)) in
    ap (sample_coding bits) same ∙ sample_coding-sample_value bits bytes w whole small

-- bytes that are the coding of a value are read as it
pub read_coding : (bits : ℕ) (bytes : List ℕ) (value : ℤ) → IsSampleWidth bits → IsSampleValue bits value → bytes ≡ sample_coding bits value → sample_value bits bytes ≡ value
read_coding bits bytes value w fits same = ap (sample_value bits) same ∙ sample_value-sample_coding bits value w fits
