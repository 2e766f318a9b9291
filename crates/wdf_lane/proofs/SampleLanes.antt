-- The samples in eight bytes, from the lanes of a vector.
use Rattle.std.proofs.Common.{◌≡◌, ℕ, ◌+◌, ◌*◌, ◌/◌, ◌%◌, ◌<◌, List, [], ◌∷◌, length, take, get_or, Fits, to_z, of_z, w8, w16, w64, refl, ap, ◌∙◌, arith, ℤ}
use Rattle.std.proofs.lemmas.Int.{ints}
use Rattle.std.proofs.lemmas.Bool.Decides.{nat_tests}
use lib.Lanes.{number_l}
use Rattle.wdf_wav.specs.SampleCoding.{sample_value, value_of_code}
use Rattle.wdf_wav.specs.PcmStream.{samples_of}
use Rattle.wdf_lane.specs.Lanes.{AreFour}
use Rattle.wdf_lane.proofs.LaneLemmas.{four_bits}

-- a lane of 16 bits, as a number of 64
lane_value : (n : ℕ) → n < 65536 → to_z w64 (of_z w64 (to_z w16 n)) ≡ value_of_code 16 n
lane_value n h = grind (arith, ints, nat_tests)

-- the low two bytes of a number, and the rest
low_bytes : (a b r : ℕ) → a < 256 → b < 256 → (a + 256 * (b + 256 * r)) % 65536 ≡ a + 256 * (b + 256 * 0)
low_bytes a b r ha hb = omega arith

high_bytes : (a b r : ℕ) → a < 256 → b < 256 → (a + 256 * (b + 256 * r)) / 65536 ≡ r
high_bytes a b r ha hb = omega arith

abbrev lane : ℕ → ℤ
lane n = to_z w64 (of_z w64 (to_z w16 (n % 65536)))

lane-low : (a b r : ℕ) → a < 256 → b < 256 → lane (a + 256 * (b + 256 * r)) ≡ sample_value 16 (a ∷ b ∷ [])
unfolding sample_value
lane-low a b r ha hb =
    ap (λ (n : ℕ). to_z w64 (of_z w64 (to_z w16 n))) (low_bytes a b r ha hb) ∙ lane_value (a + 256 * (b + 256 * 0)) (omega arith)

abbrev pub lanes_of : ℕ → List ℤ
lanes_of n = lane n ∷ lane (n / 65536) ∷ lane (n / 65536 / 65536) ∷ lane (n / 65536 / 65536 / 65536) ∷ []

literal : (a b c d e f g h : ℕ) → a < 256 → b < 256 → c < 256 → d < 256 → e < 256 → f < 256 → g < 256 → h < 256
    → lanes_of (number_l 256 (a ∷ b ∷ c ∷ d ∷ e ∷ f ∷ g ∷ h ∷ [])) ≡ samples_of 16 (a ∷ b ∷ c ∷ d ∷ e ∷ f ∷ g ∷ h ∷ [])
literal a b c d e f g h ha hb hc hd he hf hg hh =
    let r3 = g + 256 * (h + 256 * 0) in
    let r2 = e + 256 * (f + 256 * r3) in
    let r1 = c + 256 * (d + 256 * r2) in
    let q1 = high_bytes a b r1 ha hb in
    let q2 = high_bytes c d r2 hc hd in
    let q3 = high_bytes e f r3 he hf in
    let l0 = lane-low a b r1 ha hb in
    let l1 = ap lane q1 ∙ lane-low c d r2 hc hd in
    let l2 = ap (λ (n : ℕ). lane (n / 65536)) q1 ∙ (ap lane q2 ∙ lane-low e f r3 he hf) in
    let l3 = ap (λ (n : ℕ). lane (n / 65536 / 65536)) q1 ∙ (ap (λ (n : ℕ). lane (n / 65536)) q2 ∙ (ap lane q3 ∙ lane-low g h 0 hg hh)) in
    λ i. l0 i ∷ l1 i ∷ l2 i ∷ l3 i ∷ []

pub lanes_of-is : (bytes : List ℕ) → length bytes ≡ 8 → ((i : ℕ) → Fits w8 (get_or bytes i 0)) → lanes_of (number_l 256 (take 8 bytes)) ≡ samples_of 16 bytes
lanes_of-is [] n fits = absurd (omega arith)
lanes_of-is (a ∷ []) n fits = absurd (omega arith)
lanes_of-is (a ∷ b ∷ []) n fits = absurd (omega arith)
lanes_of-is (a ∷ b ∷ c ∷ []) n fits = absurd (omega arith)
lanes_of-is (a ∷ b ∷ c ∷ d ∷ []) n fits = absurd (omega arith)
lanes_of-is (a ∷ b ∷ c ∷ d ∷ e ∷ []) n fits = absurd (omega arith)
lanes_of-is (a ∷ b ∷ c ∷ d ∷ e ∷ f ∷ []) n fits = absurd (omega arith)
lanes_of-is (a ∷ b ∷ c ∷ d ∷ e ∷ f ∷ g ∷ []) n fits = absurd (omega arith)
lanes_of-is (a ∷ b ∷ c ∷ d ∷ e ∷ f ∷ g ∷ h ∷ []) n fits =
    literal a b c d e f g h (fits 0).fits (fits 1).fits (fits 2).fits (fits 3).fits (fits 4).fits (fits 5).fits (fits 6).fits (fits 7).fits
lanes_of-is (a ∷ b ∷ c ∷ d ∷ e ∷ f ∷ g ∷ h ∷ i ∷ bytes) n fits = absurd (omega arith)

pub lanes_of-four : (n : ℕ) → AreFour (lanes_of n)
lanes_of-four n = four_bits (of_z w64 (to_z w16 (n % 65536)) ∷ of_z w64 (to_z w16 (n / 65536 % 65536)) ∷ of_z w64 (to_z w16 (n / 65536 / 65536 % 65536)) ∷ of_z w64 (to_z w16 (n / 65536 / 65536 / 65536 % 65536)) ∷ []) refl
