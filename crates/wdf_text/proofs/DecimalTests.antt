-- The test of a decimal, and its number as a function of the text.
use Rattle.std.proofs.Common.{◌≡◌, ℕ, zero, suc, ◌+◌, ◌-◌, ◌*◌, ◌/◌, ◌%◌, ◌^◌, ◌<◌, ◌≤◌, pos, ◌+ℤ◌, ◌-ℤ◌, Bool, true, false, cond, not, ◌&&◌, ◌||◌, eqb, List, [], ◌∷◌, length, get_or, take, drop, Result, Ok, Err, refl, sym, ap, ◌∙◌, subst, inl, inr, arith, add-one, zero-mul, mul-le-mul_right}
use Rattle.std.specs.Prelude.{IfOk, IsOk, count_by, is_ok, nat_eq, nat_le}
use Rattle.std.specs.List.{list_all, list_any}
use Rattle.std.specs.Char.{is_ascii_digit}
use Rattle.std.proofs.lemmas.Bool.{and_from, and_parts, cond-true, eqb-true, false≢true, le-leb, leb-true, ne_eqb, or_parts}
use Rattle.std.proofs.lemmas.Bool.Decides.{nat_tests}
use Rattle.std.proofs.lemmas.Int.{ints}
use Rattle.std.proofs.lemmas.List.{get_or_default}
use Rattle.std.proofs.lemmas.List.Folds.{list_any_more}
use Rattle.std.proofs.lemmas.List.Sums.{AllPass-from_list_all, count_by_more_no, count_by_more_yes, list_all-from_AllPass, sum_by-cons, sum_by-take-le}
use Rattle.std.proofs.Math.Nat.{mul-div_cancel, one-le-pow, zero-div}
use Rattle.std.proofs.Math.Seq.{take-length}
use Rattle.wdf_text.specs.DecimalNumber.{DecimalNumber}
use Rattle.wdf_text.specs.declared.decimal_error.DecimalError.{DecimalError}
use Rattle.wdf_text.specs.Decimals.{Answers, HasNoStray, IsDecimal, RefusesDecimal, digit_bytes, is_decimal, is_decimal_byte, is_dot, is_stray, number_in, places, significant_digits, zeros_behind}
use Rattle.wdf_text.specs.Significance.{IsSignificant}
use Rattle.wdf_text.proofs.DecimalLemmas.{digits_in}
use Rattle.wdf_text.specs.Numbers.{number_of}
use Rattle.wdf_text.proofs.RefusalLemmas.{not_refused}
use Rattle.wdf_text.proofs.SignificanceLemmas.{tens_fit}

-- ---- bytes that may stand

-- a byte that is no stray is a digit, or the first dot
stands : (text : List ℕ) (k : ℕ) → is_stray text k ≡ false → is_decimal_byte (get_or text k 0) ≡ true
stands text k none = by (is_ascii_digit (get_or text k 0)) (is_dot (get_or text k 0)) refl refl
  where
    by : (t u : Bool) → is_ascii_digit (get_or text k 0) ≡ t → is_dot (get_or text k 0) ≡ u → is_decimal_byte (get_or text k 0) ≡ true
    by true u d e = let a : (is_ascii_digit (get_or text k 0) || is_dot (get_or text k 0)) ≡ true = rw d refl in a
    by false true d e = let a : (is_ascii_digit (get_or text k 0) || is_dot (get_or text k 0)) ≡ true = rw (d, e) refl in a
    by false false d e = let a : is_stray text k ≡ true = rw (d, e) refl in absurd (false≢true (sym none ∙ a))

-- a dot that is no stray is the first
first_dot : (text : List ℕ) (k : ℕ) → is_dot (get_or text k 0) ≡ true → is_stray text k ≡ false → list_any is_dot (take k text) ≡ false
first_dot text k dot none = by (list_any is_dot (take k text)) refl
  where
    by : (t : Bool) → list_any is_dot (take k text) ≡ t → list_any is_dot (take k text) ≡ false
    by false e = e
    by true e =
        let b = eqb-true (get_or text k 0) 46 dot in
        let d : is_ascii_digit (get_or text k 0) ≡ false = rw b refl in
        let a : is_stray text k ≡ true = rw (d, dot, e) refl in
        absurd (false≢true (sym none ∙ a))

none_counted : (text : List ℕ) (k : ℕ) → k ≤ length text → list_any is_dot (take k text) ≡ false → count_by is_dot (take k text) ≡ 0
none_counted text zero within none = refl
none_counted text (suc k) within none =
    let here : k < length text = omega arith in
    let next : take (k + 1) text ≡ take (suc k) text = ap (λ (n : ℕ). take n text) (add-one k) in
    let split : (list_any is_dot (take k text) || is_dot (get_or text k 0)) ≡ false = sym (list_any_more is_dot text k 0 here) ∙ ap (list_any is_dot) next ∙ none in
    let parts = or_parts (list_any is_dot (take k text)) (is_dot (get_or text k 0)) split in
    ap (count_by is_dot) (sym next) ∙ count_by_more_no is_dot text k 0 here parts.1 ∙ none_counted text k (omega arith) parts.0

dots_few : (text : List ℕ) → HasNoStray text → (k : ℕ) → k ≤ length text → count_by is_dot (take k text) ≤ 1
dots_few text none zero within = omega arith
dots_few text none (suc k) within = by (is_dot (get_or text k 0)) refl (dots_few text none k (omega arith))
  where
    here : k < length text
    here = omega arith

    next : take (k + 1) text ≡ take (suc k) text
    next = ap (λ (n : ℕ). take n text) (add-one k)

    by : (t : Bool) → is_dot (get_or text k 0) ≡ t → count_by is_dot (take k text) ≤ 1 → count_by is_dot (take (suc k) text) ≤ 1
    by true dot few =
        let zero_before = none_counted text k (omega arith) (first_dot text k dot (none k here)) in
        let one : count_by is_dot (take (suc k) text) ≡ count_by is_dot (take k text) + 1 = ap (count_by is_dot) (sym next) ∙ count_by_more_yes is_dot text k 0 here dot in
        omega (arith, one, zero_before)
    by false other few =
        let same : count_by is_dot (take (suc k) text) ≡ count_by is_dot (take k text) = ap (count_by is_dot) (sym next) ∙ count_by_more_no is_dot text k 0 here other in
        omega (arith, same, few)

-- a counted dot
some_counted : (text : List ℕ) (k : ℕ) → k < length text → is_dot (get_or text k 0) ≡ true → list_any is_dot (take k text) ≡ true → 2 ≤ count_by is_dot text
some_counted text k here dot before =
    let next : take (k + 1) text ≡ take (suc k) text = ap (λ (n : ℕ). take n text) (add-one k) in
    let one : count_by is_dot (take (k + 1) text) ≡ count_by is_dot (take k text) + 1 = count_by_more_yes is_dot text k 0 here dot in
    let some : 1 ≤ count_by is_dot (take k text) = counted (take k text) before in
    let part : count_by is_dot (take (k + 1) text) ≤ count_by is_dot text = sum_by-take-le (λ (b : ℕ). cond (is_dot b) 1 0) text (k + 1) in
    omega (arith, one, some, part)
  where
    counted : (bytes : List ℕ) → list_any is_dot bytes ≡ true → 1 ≤ count_by is_dot bytes
    counted [] any = absurd (false≢true any)
    counted (b ∷ bytes) any = by (is_dot b) refl (counted bytes)
      where
        one : count_by is_dot (b ∷ bytes) ≡ cond (is_dot b) 1 0 + count_by is_dot bytes
        one = sum_by-cons (λ (x : ℕ). cond (is_dot x) 1 0) b bytes

        by : (t : Bool) → is_dot b ≡ t → (list_any is_dot bytes ≡ true → 1 ≤ count_by is_dot bytes) → 1 ≤ count_by is_dot (b ∷ bytes)
        by true is more = omega (arith, one, cond-true {A = ℕ} (is_dot b) 1 0 is)
        by false is more =
            let behind : list_any is_dot bytes ≡ true = sym (let a : (is_dot b || list_any is_dot bytes) ≡ list_any is_dot bytes = rw is refl in a) ∙ any in
            omega (arith, one, more behind)

pub test_decimal : (text : List ℕ) → IsDecimal text → is_decimal text ≡ true
test_decimal text d =
    let few : count_by is_dot text ≤ 1 = subst (λ (l : List ℕ). count_by is_dot l ≤ 1) (take-length text) (dots_few text d.1 (length text) (omega arith)) in
    let bytes : list_all is_decimal_byte text ≡ true = list_all-from_AllPass is_decimal_byte text (λ k e within. ap is_decimal_byte (get_or_default text k e 0 within) ∙ stands text k (d.1 k within)) in
    and_from _ _ (le-leb (length text) 40 d.0) (and_from _ _ bytes (and_from _ _ (le-leb _ 1 few) (and_from _ _ d.2 (le-leb _ 9 d.3))))

pub decimal_test : (text : List ℕ) → is_decimal text ≡ true → IsDecimal text
decimal_test text t =
    let a = and_parts _ _ t in
    let b = and_parts _ _ a.1 in
    let c = and_parts _ _ b.1 in
    let d = and_parts _ _ c.1 in
    (leb-true _ _ a.0, none b.0 (leb-true _ _ c.0), d.0, leb-true _ _ d.1)
  where
    none : list_all is_decimal_byte text ≡ true → count_by is_dot text ≤ 1 → HasNoStray text
    none bytes few k within = by (is_ascii_digit (get_or text k 0)) (list_any is_dot (take k text)) refl refl
      where
        byte : is_decimal_byte (get_or text k 0) ≡ true
        byte = AllPass-from_list_all is_decimal_byte text bytes k 0 within

        by : (t u : Bool) → is_ascii_digit (get_or text k 0) ≡ t → list_any is_dot (take k text) ≡ u → is_stray text k ≡ false
        by true u e f = rw e refl
        by false u e f = dotted u (sym (let g : is_decimal_byte (get_or text k 0) ≡ is_dot (get_or text k 0) = rw e refl in g) ∙ byte) f
          where
            dotted : (v : Bool) → is_dot (get_or text k 0) ≡ true → list_any is_dot (take k text) ≡ v → is_stray text k ≡ false
            dotted false dot g = rw (e, dot, g) refl
            dotted true dot g = absurd (let more = some_counted text k within dot g in omega arith)

pub tested : (text : List ℕ) (r : Result DecimalNumber DecimalError) → Answers text r → is_ok r ≡ is_decimal text
tested text (Ok q) a = sym (test_decimal text a.0)
tested text (Err e) a = by (is_decimal text) refl
  where
    by : (t : Bool) → is_decimal text ≡ t → false ≡ is_decimal text
    by true is = absurd (not_refused text e (decimal_test text is) a)
    by false is = sym is

-- ---- the number

some_times : (m n : ℕ) → 0 < m → 0 < n → 0 < m * n
some_times m n some other = let h : 1 * n ≤ m * n = mul-le-mul_right n (let a : 1 ≤ m = omega arith in a) in omega arith

-- the significant digits with the exponent that the dot gives are the number
pub number_read : (text : List ℕ) (digits count trailing : ℕ) (q : DecimalNumber) → IsSignificant (digits_in text) digits count trailing
    → q.digits ≡ digits → (0 < digits → pos trailing ≡ q.exp +ℤ pos (places text)) → (digits ≡ 0 → q.exp ≡ pos 0) → q ≡ number_in text
number_read text digits count trailing q s same exp nought = by (eqb digits 0) refl
  where
    n : ℕ
    n = number_of (digit_bytes text)

    one : q.digits ≡ (number_in text).digits → q.exp ≡ (number_in text).exp → q ≡ number_in text
    one d e i = record { digits = d i; exp = e i }

    by : (t : Bool) → eqb digits 0 ≡ t → q ≡ number_in text
    by true h =
        let none : digits ≡ 0 = eqb-true _ _ h in
        let nothing : number_of (digit_bytes text) ≡ 0 = s.value ∙ ap (λ (m : ℕ). m * 10 ^ trailing) none ∙ zero-mul (10 ^ trailing) in
        one (same ∙ none ∙ (let a : 0 ≡ number_of (digit_bytes text) / 10 ^ zeros_behind text = rw nothing (sym (zero-div (10 ^ zeros_behind text))) in a))
        (nought none ∙ (let a : pos 0 ≡ (number_in text).exp = rw nothing refl in a))
    by false h =
        let some : 0 < digits = grind (arith, h, nat_tests) in
        let behind : zeros_behind text ≡ trailing = s.behind some in
        let power : 0 < 10 ^ trailing = one-le-pow trailing 10 (omega arith) in
        let scaled : number_of (digit_bytes text) ≡ digits * 10 ^ trailing = s.value in
        let more : 0 < number_of (digit_bytes text) = rw scaled (let b : 0 < digits * 10 ^ trailing = some_times digits (10 ^ trailing) some power in b) in
        let tested : eqb (number_of (digit_bytes text)) 0 ≡ false = ne_eqb _ _ (λ (e : number_of (digit_bytes text) ≡ 0). omega arith) in
        let z : pos trailing ≡ q.exp +ℤ pos (places text) = exp some in
        one (same ∙ (let a : digits ≡ number_of (digit_bytes text) / 10 ^ zeros_behind text = rw (scaled, behind) (sym (mul-div_cancel digits power)) in a))
        (let a : q.exp ≡ (number_in text).exp = rw (tested, behind) (let b : q.exp ≡ pos trailing -ℤ pos (places text) = omega (arith, ints, z) in b) in a)

pub small_read : (ds : List ℕ) (digits count trailing : ℕ) → IsSignificant ds digits count trailing → digits ≤ 999999999
small_read ds digits count trailing s = omega (arith, tens_fit count s.few, s.small)
