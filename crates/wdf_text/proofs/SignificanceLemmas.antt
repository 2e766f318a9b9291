-- The significant digits of digits that are read one by one.
use Rattle.std.proofs.Common.{◌≡◌, ℕ, ◌+◌, ◌-◌, ◌*◌, ◌%◌, ◌^◌, ◌<◌, ◌≤◌, Bool, true, false, eqb, List, [], ◌∷◌, ◌++◌, length, reverse, refl, ap, ◌∙◌, arith, add-one, pow-suc, zero-mul, mul-le-mul_right, length-append}
use Rattle.std.specs.List.{prefix_len, suffix_len}
use Rattle.std.specs.Int.Digits.{number_from_digits}
use Rattle.std.proofs.lemmas.List.{reverse-append, length-reverse}
use Rattle.std.proofs.lemmas.List.Folds.{prefix_len-append}
use Rattle.std.proofs.lemmas.List.Sums.{prefix_len-le-length}
use Rattle.std.proofs.lemmas.Nat.{pow-add}
use Rattle.std.proofs.lemmas.Int.Digits.{number_push}
use Rattle.std.proofs.lemmas.Bool.{cond-true, cond-false, eq-eqb, ne_eqb, eqb-true}
use Rattle.std.proofs.lemmas.Bool.Decides.{nat_tests}
use Rattle.std.proofs.Math.Nat.{one-le-pow, pow-le-pow_right}
use Rattle.wdf_text.specs.Significance.{IsSignificant, is_zero, significant_count}

-- the zeros in front, with more digits behind
front_some : (ds es : List ℕ) → prefix_len is_zero ds < length ds → prefix_len is_zero (ds ++ es) ≡ prefix_len is_zero ds
front_some ds es some = prefix_len-append is_zero ds es ∙ cond-false _ _ _ (ne_eqb _ _ (λ (e : prefix_len is_zero ds ≡ length ds). omega arith))

front_all : (ds es : List ℕ) → prefix_len is_zero ds ≡ length ds → prefix_len is_zero (ds ++ es) ≡ length ds + prefix_len is_zero es
front_all ds es all = prefix_len-append is_zero ds es ∙ cond-true _ _ _ (eq-eqb _ _ all)

-- none of them is added by a digit that is not 0
front_digit : (ds es : List ℕ) (d : ℕ) → 0 < d → prefix_len is_zero (ds ++ (d ∷ es)) ≡ prefix_len is_zero ds
front_digit ds es d some = by (eqb (prefix_len is_zero ds) (length ds)) refl
  where
    none : prefix_len is_zero (d ∷ es) ≡ 0
    none = cond-false _ _ _ (ne_eqb d 0 (λ (e : d ≡ 0). omega arith))

    by : (t : Bool) → eqb (prefix_len is_zero ds) (length ds) ≡ t → prefix_len is_zero (ds ++ (d ∷ es)) ≡ prefix_len is_zero ds
    by true h = let e = eqb-true _ _ h in front_all ds (d ∷ es) e ∙ omega (arith, none)
    by false h = prefix_len-append is_zero ds (d ∷ es) ∙ cond-false _ _ _ h

-- the zeros behind, with one digit more
behind_digit : (ds : List ℕ) (d : ℕ) → 0 < d → suffix_len is_zero (ds ++ (d ∷ [])) ≡ 0
behind_digit ds d some = ap (prefix_len is_zero) (reverse-append ds (d ∷ [])) ∙ cond-false _ _ _ (ne_eqb d 0 (λ (e : d ≡ 0). omega arith))

behind_zero : (ds : List ℕ) → suffix_len is_zero (ds ++ (0 ∷ [])) ≡ 1 + suffix_len is_zero ds
behind_zero ds = ap (prefix_len is_zero) (reverse-append ds (0 ∷ []))

-- a power of ten, one higher
pub tens : (n : ℕ) → 10 ^ (n + 1) ≡ 10 ^ n * 10
tens n = ap (λ (k : ℕ). 10 ^ k) (add-one n) ∙ pow-suc 10 n

-- no digit is read
pub significant_none : IsSignificant [] 0 0 0
significant_none = record { few = omega arith; small = omega arith; value = refl; all = refl; none = λ _. refl; last = λ h. h; some = λ h. h; behind = λ _. refl }

-- a zero in front
pub significant_leading : (ds : List ℕ) (digits count trailing : ℕ) → IsSignificant ds digits count trailing → digits ≡ 0 → IsSignificant (ds ++ (0 ∷ [])) digits count 0
significant_leading ds digits count trailing s none =
    let front : prefix_len is_zero ds ≡ length ds = omega (arith, s.all, s.none none) in
    let zero : number_from_digits 10 ds ≡ 0 = s.value ∙ ap (λ (n : ℕ). n * 10 ^ trailing) none ∙ zero-mul (10 ^ trailing) in
    record {
      few = s.few;
      small = s.small;
      value = number_push 10 ds 0 ∙ (let e : number_from_digits 10 ds * 10 + 0 ≡ digits * 1 = omega arith in e);
      all = omega (arith, front_all ds (0 ∷ []) front, length-append ds (0 ∷ []), s.none none);
      none = λ h. omega (arith, s.none none);
      last = λ (h : 0 < digits). absurd (omega arith);
      some = λ (h : 0 < digits). absurd (omega arith);
      behind = λ (h : 0 < digits). absurd (omega arith);
    }

-- a zero behind
pub significant_behind : (ds : List ℕ) (digits count trailing : ℕ) → IsSignificant ds digits count trailing → 0 < digits → IsSignificant (ds ++ (0 ∷ [])) digits count (trailing + 1)
significant_behind ds digits count trailing s some =
    record {
      few = s.few;
      small = s.small;
      value = number_push 10 ds 0 ∙ (let e : number_from_digits 10 ds * 10 + 0 ≡ digits * 10 ^ (trailing + 1) = omega (arith, s.value, ap (λ (t : ℕ). digits * t) (tens trailing)) in e);
      all = omega (arith, s.all, s.some some, front_some ds (0 ∷ []) (omega (arith, s.all, s.some some)), length-append ds (0 ∷ []));
      none = λ (h : digits ≡ 0). absurd (omega arith);
      last = s.last;
      some = s.some;
      behind = λ h. behind_zero ds ∙ omega (arith, s.behind some);
    }

-- the last digit of a number that ends in d
last_digit : (n trailing d : ℕ) → d < 10 → (n * 10 ^ (trailing + 1) + d) % 10 ≡ d
last_digit n trailing d small =
    let e : n * 10 ^ (trailing + 1) + d ≡ 10 * (n * 10 ^ trailing) + d = omega (arith, ap (λ (t : ℕ). n * t) (tens trailing)) in
    let m = n * 10 ^ trailing in
    ap (λ (k : ℕ). k % 10) e ∙ (let f : (10 * m + d) % 10 ≡ d = omega arith in f)

-- so many digits write no larger number
pub digit_fits : (digits count trailing d : ℕ) → digits < 10 ^ count → d < 10 → digits * 10 ^ (trailing + 1) + d < 10 ^ (count + trailing + 1)
digit_fits digits count trailing d small digit =
    let t = 10 ^ (trailing + 1) in
    let ten : 10 ≤ t = omega (arith, tens trailing, one-le-pow trailing 10 (omega arith)) in
    let wide : 10 ^ (count + trailing + 1) ≡ 10 ^ count * t = ap (λ (n : ℕ). 10 ^ n) (let e : count + trailing + 1 ≡ count + (trailing + 1) = omega arith in e) ∙ pow-add 10 count (trailing + 1) in
    let more : (digits + 1) * t ≤ 10 ^ count * t = mul-le-mul_right t (let h : digits + 1 ≤ 10 ^ count = omega arith in h) in
    omega arith

-- a digit that is not 0
pub significant_digit : (ds : List ℕ) (digits count trailing d : ℕ) → IsSignificant ds digits count trailing → 0 < d → d < 10 → count + trailing + 1 ≤ 9
    → IsSignificant (ds ++ (d ∷ [])) (digits * 10 ^ (trailing + 1) + d) (count + trailing + 1) 0
significant_digit ds digits count trailing d s some small few =
    record {
      few = few;
      small = digit_fits digits count trailing d s.small small;
      value = number_push 10 ds d ∙ (let e : number_from_digits 10 ds * 10 + d ≡ (digits * 10 ^ (trailing + 1) + d) * 1 = omega (arith, s.value, ap (λ (t : ℕ). digits * t) (tens trailing)) in e);
      all = omega (arith, s.all, front_digit ds [] d some, length-append ds (d ∷ []));
      none = λ (h : digits * 10 ^ (trailing + 1) + d ≡ 0). absurd (omega arith);
      last = λ h. omega (arith, last_digit digits trailing d small);
      some = λ h. omega arith;
      behind = λ h. behind_digit ds d some;
    }

-- a power of ten with at most 9 zeros fits
pub tens_fit : (n : ℕ) → n ≤ 9 → 10 ^ n ≤ 1000000000
tens_fit n few = pow-le-pow_right {n = 10} (omega arith) few

-- there are that many
pub significant_all : (ds : List ℕ) (digits count trailing : ℕ) → IsSignificant ds digits count trailing → significant_count ds ≡ count
significant_all ds digits count trailing s = by (eqb digits 0) refl
  where
    by : (t : Bool) → eqb digits 0 ≡ t → significant_count ds ≡ count
    by true h = let e : digits ≡ 0 = eqb-true _ _ h in omega (arith, s.all, s.none e)
    by false h = let some : 0 < digits = grind (arith, h, nat_tests) in omega (arith, s.all, s.behind some)

-- digits behind a digit that is not 0 take none of the significant ones away
pub significant_more : (ds es : List ℕ) (d : ℕ) → 0 < d → length ds + 1 - prefix_len is_zero ds ≤ significant_count (ds ++ (d ∷ es))
significant_more ds es d some =
    let front = front_digit ds es d some in
    let turned : suffix_len is_zero (ds ++ (d ∷ es)) ≡ prefix_len is_zero ((reverse es ++ (d ∷ [])) ++ reverse ds) =
    ap (prefix_len is_zero) (reverse-append ds (d ∷ es) ∙ ap (λ (l : List ℕ). l ++ reverse ds) (reverse-append (d ∷ []) es)) in
    let inner : prefix_len is_zero (reverse es ++ (d ∷ [])) ≡ prefix_len is_zero (reverse es) = front_digit (reverse es) [] d some in
    let few = prefix_len-le-length is_zero (reverse es) in
    let same : prefix_len is_zero ((reverse es ++ (d ∷ [])) ++ reverse ds) ≡ prefix_len is_zero (reverse es ++ (d ∷ [])) =
    front_some (reverse es ++ (d ∷ [])) (reverse ds) (omega (arith, length-append (reverse es) (d ∷ []))) in
    omega (arith, length-append ds (d ∷ es), length-reverse es)
