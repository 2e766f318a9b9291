-- What the operations on lanes come to, lane by lane.
use Rattle.std.proofs.Common.{◌≡◌, ℕ, zero, suc, ◌+◌, ◌-◌, ◌*◌, ◌/◌, ◌%◌, ◌^◌, ◌<◌, ◌≤◌, Bool, true, false, cond, refl, sym, ap, ◌∙◌, arith, List, [], ◌∷◌, map, length, SFits, to_z, of_z, w64}
use mathlib.Core.Logic.{◌⊎◌, inl, inr}
use Rattle.std.proofs.Math.Nat.{add-mul-div_right, div-le_self, div-eq_of_lt, add-mul-mod_self_left, mod-eq_of_lt, zero-mod}
use Rattle.std.proofs.lemmas.Nat.{pow_pos, pow_below, pow-add, and_mask}
use Rattle.std.proofs.lemmas.Int.{to_z-of_z, to_z_pos}
use Rattle.std.proofs.lemmas.Bool.{cases_lt}
use Rattle.std.specs.Int.Bits.{bit_and}
use lib.IntN.{ℤ, pos, negsuc, neg_ℤ}
use lib.Signed.{shr_z, lt_z}
use Rattle.std.proofs.Common.{eqb, not, ltb, ltb-true, ltb-false, get_or, eqb-true, eq-eqb, count_ones}
use Rattle.std.specs.Ordering.{int_eq}
use Rattle.std.proofs.lemmas.Bool.Decides.{Decides-int_eq}
use Rattle.std.proofs.lemmas.Simd.{mask_l-mod, ones-mask_l_cons}
use lib.Lanes.{zip2, sel_l, top, mask_l}
use mir.Val.{sel}
use mir.Syntax.{Op2, shr, signed, wrap_add, mask, lt, ne}
use mir.Syntax.{bit_and as and_bits}
use borrow.Rule.Simd.Lanes.{act2}
use borrow.Table.Row.{s_int}
use Rattle.std.specs.Int.{int_max, int_min}
use Rattle.wdf_lane.specs.Lanes.{AreFour, changes}
use Rattle.wdf_algebra.specs.Truncation.{trunc}

-- the mask's bits of a number whose bits are all set
ones-mask : (k : ℕ) → k ≤ 33 → bit_and (2 ^ 64 - 1) (2 ^ k - 1) ≡ 2 ^ k - 1
ones-mask k h =
    let some = pow_pos k in
    let above = pow_pos (64 - k) in
    let at : k + (64 - k) ≡ 64 = omega arith in
    let both : 2 ^ 64 ≡ 2 ^ k * 2 ^ (64 - k) = sym (ap (λ (m : ℕ). 2 ^ m) at) ∙ pow-add 2 k (64 - k) in
    let less = less-one (2 ^ k) (2 ^ (64 - k)) above in
    let sum : 2 ^ 64 - 1 ≡ (2 ^ k - 1) + 2 ^ k * (2 ^ (64 - k) - 1) = omega arith in
    and_mask (2 ^ 64 - 1) k ∙ (ap (λ (n : ℕ). n % 2 ^ k) sum ∙ (add-mul-mod_self_left (2 ^ k - 1) (2 ^ k) (2 ^ (64 - k) - 1) ∙ mod-eq_of_lt (omega arith)))
  where
    less-one : (p r : ℕ) → 0 < r → p * (r - 1) + p ≡ p * r
    less-one p zero h = absurd (omega arith)
    less-one p (suc r) h = let e : suc r - 1 ≡ r = omega arith in rw e (omega arith)

-- a lane of the quotients
abbrev pub quotient_lane : ℕ → ℕ → ℤ → ℤ
quotient_lane m k z = to_z w64 (of_z w64 (shr_z (to_z w64 ((of_z w64 z + bit_and (of_z w64 (shr_z (to_z w64 (of_z w64 z)) (2 ^ 63))) m) % 2 ^ 64)) (2 ^ k)))

-- from the sign's lane on, from the sum's on, and from the shifted number's on
abbrev from_sign : ℕ → ℕ → ℕ → ℤ → ℤ
from_sign n m k s = to_z w64 (of_z w64 (shr_z (to_z w64 ((n + bit_and (of_z w64 (shr_z s (2 ^ 63))) m) % 2 ^ 64)) (2 ^ k)))

abbrev from_more : ℕ → ℕ → ℕ → ℤ
from_more n k more = to_z w64 (of_z w64 (shr_z (to_z w64 ((n + more) % 2 ^ 64)) (2 ^ k)))

abbrev from_sum : ℕ → ℤ → ℤ
from_sum k z = to_z w64 (of_z w64 (shr_z z (2 ^ k)))

pub quotient_lane-truncates : (k : ℕ) (z : ℤ) → k ≤ 33 → SFits w64 z → quotient_lane (2 ^ k - 1) k z ≡ trunc z (2 ^ k)
quotient_lane-truncates k (pos a) h f =
    let m = 2 ^ k - 1 in
    let small : a < 2 ^ 63 = f.sfits in
    let self : to_z w64 a ≡ pos a = to_z_pos w64 a small in
    let sign : a / 2 ^ 63 ≡ 0 = div-eq_of_lt small in
    let none : bit_and 0 m ≡ 0 = and_mask 0 k ∙ zero-mod (2 ^ k) in
    let sum : (a + 0) % 2 ^ 64 ≡ a = omega arith in
    let less : a / 2 ^ k ≤ a = div-le_self a (2 ^ k) in
    ap (from_sign a m k) self
    ∙ (ap (λ (n : ℕ). from_more a k (bit_and n m)) sign
    ∙ (ap (from_more a k) none
    ∙ (ap (λ (n : ℕ). from_sum k (to_z w64 n)) sum
    ∙ (ap (from_sum k) self
    ∙ to_z_pos w64 (a / 2 ^ k) (omega arith)))))
quotient_lane-truncates k (negsuc a) h f =
    let q = 2 ^ k in
    let m = q - 1 in
    let n = 2 ^ 64 - suc a in
    let small : a < 2 ^ 63 = f.sfits in
    let some = pow_pos k in
    let few : q < 2 ^ 34 = pow_below k 34 (omega arith) in
    let self : to_z w64 n ≡ negsuc a = to_z-of_z w64 (negsuc a) f in
    let sign : a / 2 ^ 63 ≡ 0 = div-eq_of_lt small in
    ap (from_sign n m k) self
    ∙ (ap (λ (i : ℕ). from_more n k (bit_and (2 ^ 64 - suc i) m)) sign
    ∙ (ap (from_more n k) (ones-mask k h)
    ∙ by_size k a some few small (cases_lt (suc a) (2 ^ k))))
  where
    by_size : (k a : ℕ) → 0 < 2 ^ k → 2 ^ k < 2 ^ 34 → a < 2 ^ 63 → (suc a < 2 ^ k) ⊎ (2 ^ k ≤ suc a) → from_more (2 ^ 64 - suc a) k (2 ^ k - 1) ≡ trunc (negsuc a) (2 ^ k)
    by_size k a some few small (inl less) =
        let q = 2 ^ k in
        let sum : (2 ^ 64 - suc a + (q - 1)) % 2 ^ 64 ≡ q - 1 - suc a = omega arith in
        let none : (q - 1 - suc a) / q ≡ 0 = div-eq_of_lt (omega arith) in
        let nothing : suc a / q ≡ 0 = div-eq_of_lt less in
        ap (λ (i : ℕ). from_sum k (to_z w64 i)) sum
        ∙ (ap (from_sum k) (to_z_pos w64 (q - 1 - suc a) (omega arith))
        ∙ (ap (λ (i : ℕ). to_z w64 i) none
        ∙ sym (ap (λ (i : ℕ). neg_ℤ (pos i)) nothing)))
    by_size k a some few small (inr most) =
        let q = 2 ^ k in
        let b = suc a - q in
        let sum : (2 ^ 64 - suc a + (q - 1)) % 2 ^ 64 ≡ 2 ^ 64 - suc b = omega arith in
        let fits : SFits w64 (negsuc b) = record { sfits = omega arith } in
        let less : b / q ≤ b = div-le_self b q in
        let fits_shifted : SFits w64 (negsuc (b / q)) = record { sfits = omega arith } in
        let whole : suc a ≡ b + 1 * q = omega arith in
        let quotient : suc a / q ≡ suc (b / q) = ap (λ (i : ℕ). i / q) whole ∙ (add-mul-div_right b 1 some ∙ omega arith) in
        ap (λ (i : ℕ). from_sum k (to_z w64 i)) sum
        ∙ (ap (from_sum k) (to_z-of_z w64 (negsuc b) fits)
        ∙ (to_z-of_z w64 (negsuc (b / q)) fits_shifted
        ∙ sym (ap (λ (i : ℕ). neg_ℤ (pos i)) quotient)))

-- ---- vectors of four lanes

abbrev Each4 : (List ℤ → Type 0) → Type 0
Each4 P = (a b c d : ℤ) → SFits w64 a → SFits w64 b → SFits w64 c → SFits w64 d → P (a ∷ b ∷ c ∷ d ∷ [])

by_four : (P : List ℤ → Type 0) → Each4 P → (zs : List ℤ) → AreFour zs → P zs
by_four P each [] f = let n = f.count in absurd (omega arith)
by_four P each (a ∷ []) f = let n = f.count in absurd (omega arith)
by_four P each (a ∷ b ∷ []) f = let n = f.count in absurd (omega arith)
by_four P each (a ∷ b ∷ c ∷ []) f = let n = f.count in absurd (omega arith)
by_four P each (a ∷ b ∷ c ∷ d ∷ []) f =
    each a b c d (f.words 0 (pos 0) (omega arith)) (f.words 1 (pos 0) (omega arith)) (f.words 2 (pos 0) (omega arith)) (f.words 3 (pos 0) (omega arith))
by_four P each (a ∷ b ∷ c ∷ d ∷ e ∷ zs) f = let n = f.count in absurd (omega arith)

-- four numbers that each fit are four words
four_words : Each4 AreFour
four_words a b c d fa fb fc fd = record { count = refl; words = words }
  where
    words : (k : ℕ) → (e : ℤ) → k < 4 → SFits w64 (get_or (a ∷ b ∷ c ∷ d ∷ []) k e)
    words zero e h = fa
    words (suc zero) e h = fb
    words (suc (suc zero)) e h = fc
    words (suc (suc (suc zero))) e h = fd
    words (suc (suc (suc (suc k)))) e h = absurd (omega arith)

-- what bits stand for fits
bits_fit : (n : ℕ) → SFits w64 (to_z w64 n)
bits_fit n = by_size (ltb n (2 ^ 63)) refl
  where
    by_size : (t : Bool) → ltb n (2 ^ 63) ≡ t → SFits w64 (sel t (pos n) (negsuc (2 ^ 64 - suc n)))
    by_size true e = let h = ltb-true n (2 ^ 63) e in record { sfits = h }
    by_size false e = let h = ltb-false n (2 ^ 63) e in record { sfits = omega arith }

-- a vector of four lanes has four words
pub four_bits : (ns : List ℕ) → length ns ≡ 4 → AreFour (map (to_z w64) ns)
four_bits [] n = absurd (omega arith)
four_bits (a ∷ []) n = absurd (omega arith)
four_bits (a ∷ b ∷ []) n = absurd (omega arith)
four_bits (a ∷ b ∷ c ∷ []) n = absurd (omega arith)
four_bits (a ∷ b ∷ c ∷ d ∷ []) n = four_words (to_z w64 a) (to_z w64 b) (to_z w64 c) (to_z w64 d) (bits_fit a) (bits_fit b) (bits_fit c) (bits_fit d)
four_bits (a ∷ b ∷ c ∷ d ∷ e ∷ ns) n = absurd (omega arith)

-- two vectors by an operation, lane by lane
abbrev by_lanes : Op2 → List ℕ → List ℕ → List ℕ
by_lanes o xs ys = zip2 (act2 o (s_int w64) (s_int w64) (s_int w64)) xs ys

abbrev splat : ℕ → List ℕ
splat n = n ∷ n ∷ n ∷ n ∷ []

abbrev quotient_bits : ℕ → ℕ → List ℤ → List ℕ
quotient_bits m k zs =
    by_lanes (shr signed) (by_lanes wrap_add (map (of_z w64) zs) (by_lanes and_bits (by_lanes (shr signed) (map (of_z w64) zs) (splat 63)) (splat m))) (splat k)

abbrev pub quotients_of : ℕ → ℕ → List ℤ → List ℤ
quotients_of m k zs = map (to_z w64) (quotient_bits m k zs)

pub quotients_of-is : (m n k : ℕ) (zs : List ℤ) → AreFour zs → k ≤ 33 → m ≡ 2 ^ k - 1 → n ≡ k → quotients_of m n zs ≡ map (λ z. trunc z (2 ^ k)) zs
quotients_of-is m n k zs four h bits count = by_four (λ xs. quotients_of m n xs ≡ map (λ z. trunc z (2 ^ k)) xs) each zs four
  where
    lane : (z : ℤ) → SFits w64 z → quotient_lane m n z ≡ trunc z (2 ^ k)
    lane z f = (λ i. quotient_lane (bits i) (count i) z) ∙ quotient_lane-truncates k z h f

    each : Each4 (λ xs. quotients_of m n xs ≡ map (λ z. trunc z (2 ^ k)) xs)
    each a b c d fa fb fc fd =
        let la = lane a fa in
        let lb = lane b fb in
        let lc = lane c fc in
        let ld = lane d fd in
        λ i. la i ∷ lb i ∷ lc i ∷ ld i ∷ []

pub quotients_of-four : (m k : ℕ) (zs : List ℤ) → AreFour zs → AreFour (quotients_of m k zs)
quotients_of-four m k zs four = by_four (λ xs. AreFour (quotients_of m k xs)) (λ a b c d fa fb fc fd. four_bits (quotient_bits m k (a ∷ b ∷ c ∷ d ∷ [])) refl) zs four

-- ---- the nearest numbers

-- a lane of a choice by a test whose lanes are all ones or 0
abbrev pick : Bool → ℕ → ℕ → ℕ
pick t x y = cond (top 63 (cond t (2 ^ 64 - 1) 0)) x y

pick_is : (t : Bool) (x y : ℤ) → pick t (of_z w64 x) (of_z w64 y) ≡ of_z w64 (cond t x y)
pick_is true x y = refl
pick_is false x y = refl

picked_fits : (t : Bool) (x y : ℤ) → SFits w64 x → SFits w64 y → SFits w64 (cond t x y)
picked_fits true x y f g = f
picked_fits false x y f g = g

-- the choice of x where x is less than y, or of y where it is less than x
less_is : (x y a b : ℤ) → SFits w64 x → SFits w64 y → pick (lt_z (to_z w64 (of_z w64 x)) (to_z w64 (of_z w64 y))) (of_z w64 a) (of_z w64 b) ≡ of_z w64 (cond (lt_z x y) a b)
less_is x y a b f g =
    let ex = to_z-of_z w64 x f in
    let ey = to_z-of_z w64 y g in
    (λ i. pick (lt_z (ex i) (ey i)) (of_z w64 a) (of_z w64 b)) ∙ pick_is (lt_z x y) a b

abbrev least : ℤ → ℤ → ℕ
least high z = pick (lt_z (to_z w64 (of_z w64 z)) (to_z w64 (of_z w64 high))) (of_z w64 z) (of_z w64 high)

abbrev nearest_lane : ℤ → ℤ → ℤ → ℤ
nearest_lane low high z = to_z w64 (pick (lt_z (to_z w64 (least high z)) (to_z w64 (of_z w64 low))) (of_z w64 low) (least high z))

nearest_lane-is : (low high z : ℤ) → SFits w64 low → SFits w64 high → SFits w64 z → nearest_lane low high z ≡ int_max low (int_min high z)
nearest_lane-is low high z fl fh fz =
    let some = picked_fits (lt_z z high) z high fz fh in
    let all = picked_fits (lt_z (int_min high z) low) low (int_min high z) fl some in
    ap (λ (n : ℕ). to_z w64 (pick (lt_z (to_z w64 n) (to_z w64 (of_z w64 low))) (of_z w64 low) n)) (less_is z high z high fz fh)
    ∙ (ap (to_z w64) (less_is (int_min high z) low low (int_min high z) some fl)
    ∙ to_z-of_z w64 (int_max low (int_min high z)) all)

abbrev least_of : ℤ → List ℤ → List ℕ
least_of high zs = sel_l (map (top 63) (by_lanes (mask (lt signed)) (map (of_z w64) zs) (splat (of_z w64 high)))) (map (of_z w64) zs) (splat (of_z w64 high))

abbrev nearest_bits : ℤ → ℤ → List ℤ → List ℕ
nearest_bits low high zs = sel_l (map (top 63) (by_lanes (mask (lt signed)) (least_of high zs) (splat (of_z w64 low)))) (splat (of_z w64 low)) (least_of high zs)

abbrev pub nearest_of : ℤ → ℤ → List ℤ → List ℤ
nearest_of low high zs = map (to_z w64) (nearest_bits low high zs)

pub nearest_of-is : (low high : ℤ) (zs : List ℤ) → SFits w64 low → SFits w64 high → AreFour zs → nearest_of low high zs ≡ map (λ z. int_max low (int_min high z)) zs
nearest_of-is low high zs fl fh four = by_four (λ xs. nearest_of low high xs ≡ map (λ z. int_max low (int_min high z)) xs) each zs four
  where
    each : Each4 (λ xs. nearest_of low high xs ≡ map (λ z. int_max low (int_min high z)) xs)
    each a b c d fa fb fc fd =
        let la = nearest_lane-is low high a fl fh fa in
        let lb = nearest_lane-is low high b fl fh fb in
        let lc = nearest_lane-is low high c fl fh fc in
        let ld = nearest_lane-is low high d fl fh fd in
        λ i. la i ∷ lb i ∷ lc i ∷ ld i ∷ []

pub nearest_of-four : (low high : ℤ) (zs : List ℤ) → AreFour zs → AreFour (nearest_of low high zs)
nearest_of-four low high zs four = by_four (λ xs. AreFour (nearest_of low high xs)) (λ a b c d fa fb fc fd. four_bits (nearest_bits low high (a ∷ b ∷ c ∷ d ∷ [])) refl) zs four

-- ---- how many lanes differ

top_is : (t : Bool) → top 63 (cond t (2 ^ 64 - 1) 0) ≡ t
top_is true = refl
top_is false = refl

-- numbers have the same bits where they are equal
same_bits : (a b : ℤ) → SFits w64 a → SFits w64 b → eqb (of_z w64 a) (of_z w64 b) ≡ int_eq a b
same_bits a b fa fb = by_tests (eqb (of_z w64 a) (of_z w64 b)) (int_eq a b) refl refl
  where
    by_tests : (t u : Bool) → eqb (of_z w64 a) (of_z w64 b) ≡ t → int_eq a b ≡ u → t ≡ u
    by_tests true true e d = refl
    by_tests true false e d =
        let same : a ≡ b = sym (to_z-of_z w64 a fa) ∙ (ap (to_z w64) (eqb-true (of_z w64 a) (of_z w64 b) e) ∙ to_z-of_z w64 b fb) in
        sym ((Decides-int_eq a b).1 same) ∙ d
    by_tests false true e d = sym e ∙ eq-eqb (of_z w64 a) (of_z w64 b) (ap (of_z w64) ((Decides-int_eq a b).0 d))
    by_tests false false e d = refl

abbrev differs : ℤ → ℤ → Bool
differs a b = top 63 (cond (not (eqb (of_z w64 a) (of_z w64 b))) (2 ^ 64 - 1) 0)

differs_is : (a b : ℤ) → SFits w64 a → SFits w64 b → cond {A = ℕ} (differs a b) 1 0 ≡ cond {A = ℕ} (int_eq a b) 0 1
differs_is a b fa fb =
    ap (λ (t : Bool). cond {A = ℕ} t 1 0) (top_is (not (eqb (of_z w64 a) (of_z w64 b))))
    ∙ (ap (λ (t : Bool). cond {A = ℕ} (not t) 1 0) (same_bits a b fa fb) ∙ turned (int_eq a b))
  where
    turned : (t : Bool) → cond {A = ℕ} (not t) 1 0 ≡ cond {A = ℕ} t 0 1
    turned true = refl
    turned false = refl

-- how many of four bits are set
ones-four : (t u v w : Bool) → count_ones (mask_l (t ∷ u ∷ v ∷ w ∷ []) % 2 ^ 64) ≡ cond t 1 0 + (cond u 1 0 + (cond v 1 0 + (cond w 1 0 + 0)))
unfolding lib.Count.ones
ones-four t u v w =
    ap count_ones (mask_l-mod (t ∷ u ∷ v ∷ w ∷ []) 64 (omega arith))
    ∙ (ones-mask_l_cons t (u ∷ v ∷ w ∷ [])
    ∙ ap (λ (n : ℕ). cond t 1 0 + n) (ones-mask_l_cons u (v ∷ w ∷ [])
    ∙ ap (λ (n : ℕ). cond u 1 0 + n) (ones-mask_l_cons v (w ∷ [])
    ∙ ap (λ (n : ℕ). cond v 1 0 + n) (ones-mask_l_cons w []))))

abbrev pub changes_of : List ℤ → List ℤ → ℕ
changes_of old new = count_ones (mask_l (map (top 63) (by_lanes (mask ne) (map (of_z w64) old) (map (of_z w64) new))) % 2 ^ 64)

pub changes_of-is : (old new : List ℤ) → AreFour old → AreFour new → changes_of old new ≡ changes old new
changes_of-is old new four fours =
    by_four (λ xs. changes_of xs new ≡ changes xs new)
    (λ a b c d fa fb fc fd. by_four (λ ys. changes_of (a ∷ b ∷ c ∷ d ∷ []) ys ≡ changes (a ∷ b ∷ c ∷ d ∷ []) ys)
    (λ e f g h fe ff fg fh.
    let ea = differs_is a e fa fe in
    let eb = differs_is b f fb ff in
    let ec = differs_is c g fc fg in
    let ed = differs_is d h fd fh in
    ones-four (differs a e) (differs b f) (differs c g) (differs d h) ∙ (λ i. ea i + (eb i + (ec i + (ed i + 0)))))
    new fours) old four

-- ---- vectors handed on

-- numbers of 64 bits are those that their bits stand for
pub same_words : (zs : List ℤ) → AreFour zs → map (to_z w64) (map (of_z w64) zs) ≡ zs
same_words zs four = by_four (λ xs. map (to_z w64) (map (of_z w64) xs) ≡ xs) each zs four
  where
    each : Each4 (λ xs. map (to_z w64) (map (of_z w64) xs) ≡ xs)
    each a b c d fa fb fc fd =
        let la = to_z-of_z w64 a fa in
        let lb = to_z-of_z w64 b fb in
        let lc = to_z-of_z w64 c fc in
        let ld = to_z-of_z w64 d fd in
        λ i. la i ∷ lb i ∷ lc i ∷ ld i ∷ []

-- four numbers in a row
pub loaded : (zs : List ℤ) → length zs ≡ 4 → SFits w64 (get_or zs 0 (pos 0)) → SFits w64 (get_or zs 1 (pos 0)) → SFits w64 (get_or zs 2 (pos 0)) → SFits w64 (get_or zs 3 (pos 0))
    → AreFour zs
loaded [] n fa fb fc fd = absurd (omega arith)
loaded (a ∷ []) n fa fb fc fd = absurd (omega arith)
loaded (a ∷ b ∷ []) n fa fb fc fd = absurd (omega arith)
loaded (a ∷ b ∷ c ∷ []) n fa fb fc fd = absurd (omega arith)
loaded (a ∷ b ∷ c ∷ d ∷ []) n fa fb fc fd = four_words a b c d fa fb fc fd
loaded (a ∷ b ∷ c ∷ d ∷ e ∷ zs) n fa fb fc fd = absurd (omega arith)

abbrev pub four_at : List ℤ → List ℤ
four_at zs =
    to_z w64 (of_z w64 (get_or zs 0 (pos 0))) ∷ to_z w64 (of_z w64 (get_or zs 1 (pos 0))) ∷ to_z w64 (of_z w64 (get_or zs 2 (pos 0))) ∷ to_z w64 (of_z w64 (get_or zs 3 (pos 0))) ∷ []

pub four_at-is : (zs : List ℤ) → AreFour zs → four_at zs ≡ zs
four_at-is zs four = by_four (λ xs. four_at xs ≡ xs) each zs four
  where
    each : Each4 (λ xs. four_at xs ≡ xs)
    each a b c d fa fb fc fd = same_words (a ∷ b ∷ c ∷ d ∷ []) (four_words a b c d fa fb fc fd)
