-- The value of a printed value.
use Rattle.std.proofs.Common.{◌≡◌, ℕ, ℤ, zero, suc, ◌+◌, ◌-◌, ◌*◌, ◌/◌, ◌%◌, ◌^◌, ◌<◌, ◌≤◌, ◌+ℤ◌, ◌-ℤ◌, true, false, not, cond, eqb, List, [], ◌∷◌, ◌++◌, length, take, drop, replicate, map, filter, Some, None, refl, sym, ap, ◌∙◌, subst, arith, append_assoc, append-nil, length-append, add-one, mul-div_cancel, mul-one, mul_assoc, mul-pos, pow-suc}
use Rattle.std.specs.Prelude.{All, ◌≤ℤ◌, pos, negsuc, count_by, decimal, unwrap_or}
use Rattle.std.specs.List.{list_all, position_or_len, prefix_len, suffix_len}
use Rattle.std.specs.Char.{is_ascii_digit}
use Rattle.std.specs.Int.Digits.{digits_of, number_from_digits}
use Rattle.std.proofs.lemmas.Bool.{and_from, and_parts, cond-false, cond-true, le-leb, lt-ltb, ne_eqb}
use Rattle.std.proofs.lemmas.Fmt.{decimal-digits_of}
use Rattle.std.proofs.lemmas.Int.{ints}
use Rattle.std.proofs.lemmas.Int.Digits.{all_below_base_digits_of, digits_of_step, length-digits_of-le, number_digits_of, number_push}
use Rattle.std.proofs.lemmas.List.{drop-map, drop_all, drop_at, length-drop, length-map, length-replicate, length-take, map-append, replicate_more, reverse-append, take-append-drop, take-map, take_all}
use Rattle.std.proofs.lemmas.List.Elements.{All-append, All-cons, All-drop, All-from_recursion, All-take, All-tail, filter-append}
use Rattle.std.proofs.lemmas.List.Folds.{list_all-append}
use Rattle.std.proofs.lemmas.List.Sums.{sum_by-append, sum_by-cons}
use Rattle.std.proofs.Math.Nat.{one-le-pow}
use Rattle.wdf_text.specs.DecimalNumber.{DecimalNumber}
use Rattle.wdf_text.specs.Decimals.{digit_bytes, has_digit, is_decimal, is_decimal_byte, is_dot, number_in, places, significant_digits, zeros_behind}
use Rattle.wdf_text.specs.Numbers.{digits_of_bytes, is_whole, number_of}
use Rattle.wdf_text.specs.Significance.{is_zero, significant_count}
use Rattle.wdf_netlist.specs.Canonical.{scaled_digits, value_text, with_dot}
use Rattle.wdf_netlist.specs.Circuits.{IsElementValue}
use Rattle.wdf_netlist.specs.declared.TheConstants.{MAX_RATE}
use Rattle.wdf_netlist.specs.LineRules.{is_rate_word}
use Rattle.wdf_netlist.specs.Values.{decimal_of, is_exponent, power_of_unit, scaled_fault, unit_of, value_fault, value_of}

-- ---- digits and their bytes

abbrev pub IsDigit : ℕ → Type 0
IsDigit d = d < 10

abbrev pub ascii : List ℕ → List ℕ
ascii ds = map (λ (d : ℕ). 48 + d) ds

pub digit : (d : ℕ) → d < 10 → is_ascii_digit (48 + d) ≡ true
digit d small = and_from _ _ (le-leb 48 (48 + d) (omega arith)) (le-leb (48 + d) 57 (omega arith))

not_dot : (d : ℕ) → is_dot (48 + d) ≡ false
not_dot d = ne_eqb (48 + d) 46 (λ (e : 48 + d ≡ 46). omega arith)

bytes_back : (ds : List ℕ) → digits_of_bytes (ascii ds) ≡ ds
bytes_back [] = refl
bytes_back (d ∷ ds) = let e : 48 + d - 48 ≡ d = omega arith in λ i. e i ∷ bytes_back ds i

are_digits : (ds : List ℕ) → All IsDigit ds → filter is_ascii_digit (ascii ds) ≡ ascii ds
are_digits [] small = refl
are_digits (d ∷ ds) small = cond-true _ _ _ (digit d (small 0 d (omega arith))) ∙ ap (λ (l : List ℕ). (48 + d) ∷ l) (are_digits ds (All-tail IsDigit d ds small))

are_decimal : (ds : List ℕ) → All IsDigit ds → list_all is_decimal_byte (ascii ds) ≡ true
are_decimal [] small = refl
are_decimal (d ∷ ds) small = rw (digit d (small 0 d (omega arith))) (are_decimal ds (All-tail IsDigit d ds small))

no_dots : (ds : List ℕ) → count_by is_dot (ascii ds) ≡ 0
no_dots [] = refl
no_dots (d ∷ ds) = sum_by-cons (λ (b : ℕ). cond (is_dot b) 1 0) (48 + d) (ascii ds) ∙ omega (arith, cond-false {A = ℕ} (is_dot (48 + d)) 1 0 (not_dot d), no_dots ds)

dot_behind : (ds bytes : List ℕ) → position_or_len is_dot (ascii ds ++ bytes) ≡ length ds + position_or_len is_dot bytes
dot_behind [] bytes = omega arith
dot_behind (d ∷ ds) bytes =
    let test : not (is_dot (48 + d)) ≡ true = ap not (not_dot d) in
    let e : position_or_len is_dot (ascii (d ∷ ds) ++ bytes) ≡ 1 + position_or_len is_dot (ascii ds ++ bytes) = cond-true _ _ _ test in
    omega (arith, e, dot_behind ds bytes)

-- ---- texts of digits

-- a text of digits with at most one dot, and so many of them behind it
pub record HasDigits (text ds : List ℕ) (behind : ℕ) : Type 0 where
  pub short : length text ≤ 40
  pub bytes : list_all is_decimal_byte text ≡ true
  pub dots : count_by is_dot text ≤ 1
  pub digits : digit_bytes text ≡ ascii ds
  pub places : places text ≡ behind
  pub some : has_digit text ≡ true

some_digit : (ds bytes : List ℕ) → 1 ≤ length ds → All IsDigit ds → has_digit (ascii ds ++ bytes) ≡ true
some_digit [] bytes some small = absurd (omega arith)
some_digit (d ∷ ds) bytes some small = rw (digit d (small 0 d (omega arith))) refl

whole_digits : (ds : List ℕ) → 1 ≤ length ds → length ds ≤ 40 → All IsDigit ds → HasDigits (ascii ds) ds 0
whole_digits ds some short small =
    let long : length (ascii ds) ≡ length ds = length-map ds (λ (d : ℕ). 48 + d) in
    let place : position_or_len is_dot (ascii ds) ≡ length ds = omega (arith, ap (position_or_len is_dot) (append-nil (ascii ds)), dot_behind ds []) in
    record {
      short = omega (arith, long);
      bytes = are_decimal ds small;
      dots = omega (arith, no_dots ds);
      digits = are_digits ds small;
      places = ap length (drop_all (position_or_len is_dot (ascii ds) + 1) (ascii ds) (omega (arith, long, place)));
      some = ap has_digit (sym (append-nil (ascii ds))) ∙ some_digit ds [] some small;
    }

dotted_digits : (xs ys : List ℕ) → 1 ≤ length xs → length xs + length ys ≤ 39 → All IsDigit xs → All IsDigit ys → HasDigits (ascii xs ++ 46 ∷ ascii ys) (xs ++ ys) (length ys)
dotted_digits xs ys some short a b =
    let text = ascii xs ++ 46 ∷ ascii ys in
    let front : length (ascii xs) ≡ length xs = length-map xs (λ (d : ℕ). 48 + d) in
    let behind : length (ascii ys) ≡ length ys = length-map ys (λ (d : ℕ). 48 + d) in
    let place : position_or_len is_dot text ≡ length xs = omega (arith, dot_behind xs (46 ∷ ascii ys)) in
    let split : text ≡ (ascii xs ++ 46 ∷ []) ++ ascii ys = sym (append_assoc (ascii xs) (46 ∷ []) (ascii ys)) in
    let long : length (ascii xs ++ 46 ∷ []) ≡ position_or_len is_dot text + 1 = omega (arith, length-append (ascii xs) (46 ∷ []), front, place) in
    record {
      short = omega (arith, length-append (ascii xs) (46 ∷ ascii ys), front, behind);
      bytes = list_all-append is_decimal_byte (ascii xs) (46 ∷ ascii ys) ∙ and_from _ _ (are_decimal xs a) (are_decimal ys b);
      dots = omega (arith, sum_by-append (λ (c : ℕ). cond (is_dot c) 1 0) (ascii xs) (46 ∷ ascii ys), sum_by-cons (λ (c : ℕ). cond (is_dot c) 1 0) 46 (ascii ys), no_dots xs, no_dots ys);
      digits = filter-append is_ascii_digit (ascii xs) (46 ∷ ascii ys) ∙ (λ i. are_digits xs a i ++ are_digits ys b i) ∙ sym (map-append (λ (d : ℕ). 48 + d) xs ys);
      places = ap (λ (l : List ℕ). length (drop (position_or_len is_dot text + 1) l)) split ∙ ap length (drop_at (ascii xs ++ 46 ∷ []) (ascii ys) (position_or_len is_dot text + 1) long) ∙ behind;
      some = some_digit xs (46 ∷ ascii ys) some a;
    }

-- ---- zeros in front and behind

zeros_more : (ds : List ℕ) (n : ℕ) → ds ++ replicate (suc n) 0 ≡ (ds ++ replicate n 0) ++ 0 ∷ []
zeros_more ds n = ap (λ (k : ℕ). ds ++ replicate k 0) (sym (add-one n)) ∙ ap (λ (l : List ℕ). ds ++ l) (sym (replicate_more n 0)) ∙ sym (append_assoc ds (replicate n 0) (0 ∷ []))

number_behind : (ds : List ℕ) (n : ℕ) → number_from_digits 10 (ds ++ replicate n 0) ≡ number_from_digits 10 ds * 10 ^ n
number_behind ds zero = ap (number_from_digits 10) (append-nil ds) ∙ sym (mul-one (number_from_digits 10 ds))
number_behind ds (suc n) =
    let d = number_from_digits 10 ds in
    let m = 10 ^ n in
    let f : d * m * 10 + 0 ≡ d * (m * 10) = omega (arith, mul_assoc d m 10) in
    let e : d * m * 10 + 0 ≡ d * 10 ^ suc n = f ∙ ap (λ (k : ℕ). d * k) (sym (pow-suc 10 n)) in
    ap (number_from_digits 10) (zeros_more ds n) ∙ number_push 10 (ds ++ replicate n 0) 0 ∙ ap (λ (k : ℕ). k * 10 + 0) (number_behind ds n) ∙ e

zeros_counted : (ds : List ℕ) (n : ℕ) → suffix_len is_zero ds ≡ 0 → suffix_len is_zero (ds ++ replicate n 0) ≡ n
zeros_counted ds zero none = ap (suffix_len is_zero) (append-nil ds) ∙ none
zeros_counted ds (suc n) none =
    let e : suffix_len is_zero ((ds ++ replicate n 0) ++ 0 ∷ []) ≡ 1 + suffix_len is_zero (ds ++ replicate n 0) = ap (prefix_len is_zero) (reverse-append (ds ++ replicate n 0) (0 ∷ [])) in
    omega (arith, ap (suffix_len is_zero) (zeros_more ds n), e, zeros_counted ds n none)

number_front : (n : ℕ) (ds : List ℕ) → number_from_digits 10 (replicate n 0 ++ ds) ≡ number_from_digits 10 ds
number_front zero ds = refl
number_front (suc n) ds = number_front n ds

zeros_front : (n : ℕ) (ds : List ℕ) → n ≤ prefix_len is_zero (replicate n 0 ++ ds)
zeros_front zero ds = omega arith
zeros_front (suc n) ds = omega (arith, zeros_front n ds)

all_zeros : (n : ℕ) → All IsDigit (replicate n 0)
all_zeros zero = λ k d within. absurd (omega arith)
all_zeros (suc n) = All-cons IsDigit 0 (replicate n 0) (omega arith) (all_zeros n)

-- ---- the digits of a value

-- the digits of a number that does not end in 0
pub record AreDigitsOf (ds : List ℕ) (d : ℕ) : Type 0 where
  pub some : 1 ≤ length ds
  pub few : length ds ≤ 9
  pub small : All IsDigit ds
  pub number : number_from_digits 10 ds ≡ d
  pub last : (zeros : List ℕ) → suffix_len is_zero (zeros ++ ds) ≡ 0

digits_are : (d : ℕ) → 1 ≤ d → d ≤ 999999999 → 1 ≤ d % 10 → AreDigitsOf (digits_of 10 d) d
digits_are d some few last =
    let step = digits_of_step 10 d (omega arith) (omega arith) in
    let front = digits_of 10 (d / 10) in
    record {
      some = omega (arith, ap length step, length-append front ((d % 10) ∷ []));
      few = length-digits_of-le 10 9 d (omega arith) (omega arith);
      small = All-from_recursion IsDigit (digits_of 10 d) (all_below_base_digits_of 10 d (omega arith));
      number = number_digits_of 10 d (omega arith);
      last = λ zeros.
          ap (λ (l : List ℕ). suffix_len is_zero (zeros ++ l)) step
          ∙ ap (suffix_len is_zero) (sym (append_assoc zeros front ((d % 10) ∷ [])))
          ∙ ap (prefix_len is_zero) (reverse-append (zeros ++ front) ((d % 10) ∷ []))
          ∙ cond-false _ _ _ (ne_eqb (d % 10) 0 (λ (e : d % 10 ≡ 0). omega arith));
    }

-- ---- a text of the digits of a value, with zeros in front and behind

pub record WritesNumber (text : List ℕ) (n : DecimalNumber) : Type 0 where
  pub decimal : is_decimal text ≡ true
  pub number : number_in text ≡ n
  pub bytes : list_all is_decimal_byte text ≡ true

pub writes : (text ds : List ℕ) (d zeros more behind : ℕ) → HasDigits text (replicate zeros 0 ++ (ds ++ replicate more 0)) behind → AreDigitsOf ds d → 1 ≤ d
    → WritesNumber text (record { digits = d; exp = pos more -ℤ pos behind })
writes text ds d zeros more behind h a some =
    let all = replicate zeros 0 ++ (ds ++ replicate more 0) in
    let digits : digits_of_bytes (digit_bytes text) ≡ all = ap digits_of_bytes h.digits ∙ bytes_back all in
    let trailing : suffix_len is_zero all ≡ more = ap (suffix_len is_zero) (sym (append_assoc (replicate zeros 0) ds (replicate more 0))) ∙ zeros_counted (replicate zeros 0 ++ ds) more (a.last (replicate zeros 0)) in
    let found : zeros_behind text ≡ more = ap (suffix_len is_zero) digits ∙ trailing in
    let value : number_of (digit_bytes text) ≡ d * 10 ^ more = ap (number_from_digits 10) digits ∙ number_front zeros (ds ++ replicate more 0) ∙ number_behind ds more ∙ ap (λ (n : ℕ). n * 10 ^ more) a.number in
    let power : 1 ≤ 10 ^ more = one-le-pow more 10 (omega arith) in
    let long : length all ≡ zeros + (length ds + more) = omega (arith, length-append (replicate zeros 0) (ds ++ replicate more 0), length-append ds (replicate more 0), length-replicate {A = ℕ} zeros 0, length-replicate {A = ℕ} more 0) in
    let significant : significant_digits text ≤ 9 =
    omega (arith, ap significant_count digits, long, zeros_front zeros (ds ++ replicate more 0), trailing, a.few) in
    let positive : 0 < d * 10 ^ more = mul-pos some power in
    let not_zero : eqb (number_of (digit_bytes text)) 0 ≡ false = ne_eqb (number_of (digit_bytes text)) 0 (λ (e : number_of (digit_bytes text) ≡ 0). omega (arith, value, positive)) in
    let exp : (number_in text).exp ≡ pos more -ℤ pos behind =
    cond-false (eqb (number_of (digit_bytes text)) 0) (pos 0) (pos (zeros_behind text) -ℤ pos (places text)) not_zero ∙ (λ i. pos (found i) -ℤ pos (h.places i)) in
    record {
      decimal = and_from _ _ (le-leb (length text) 40 h.short) (and_from _ _ h.bytes (and_from _ _ (le-leb _ 1 h.dots) (and_from _ _ h.some (le-leb _ 9 significant))));
      number = λ i. record {
        digits = (ap (λ (k : ℕ). number_of (digit_bytes text) / 10 ^ k) found ∙ ap (λ (n : ℕ). n / 10 ^ more) value ∙ mul-div_cancel d power) i;
        exp = exp i;
      };
      bytes = h.bytes;
    }

-- ---- the text of a value

zeros_are : (n : ℕ) → ascii (replicate n 0) ≡ replicate n 48
zeros_are zero = refl
zeros_are (suc n) = ap (λ (l : List ℕ). 48 ∷ l) (zeros_are n)

pub ascii_decimal : (d : ℕ) → 1 ≤ d → d ≤ 999999999 → decimal d ≡ ascii (digits_of 10 d)
ascii_decimal d some few = decimal-digits_of d (omega arith) (omega arith)

-- zeros behind the digits
whole_writes : (ds : List ℕ) (d zeros : ℕ) → AreDigitsOf ds d → 1 ≤ d → zeros ≤ 9 → WritesNumber (ascii ds ++ replicate zeros 48) (record { digits = d; exp = pos zeros -ℤ pos 0 })
whole_writes ds d zeros a some few =
    let all = ds ++ replicate zeros 0 in
    let is : ascii ds ++ replicate zeros 48 ≡ ascii all = ap (λ (l : List ℕ). ascii ds ++ l) (sym (zeros_are zeros)) ∙ sym (map-append (λ (k : ℕ). 48 + k) ds (replicate zeros 0)) in
    let long : length all ≡ length ds + zeros = omega (arith, length-append ds (replicate zeros 0), length-replicate {A = ℕ} zeros 0) in
    let h = whole_digits all (omega (arith, long, a.some)) (omega (arith, long, a.few)) (All-append IsDigit ds (replicate zeros 0) a.small (all_zeros zeros)) in
    rw is (writes (ascii all) ds d 0 zeros 0 h a some)

-- a dot among the digits, or zeros in front
dotted_writes : (ds : List ℕ) (d behind : ℕ) → AreDigitsOf ds d → 1 ≤ d → behind ≤ 18 → WritesNumber (with_dot (ascii ds) behind) (record { digits = d; exp = pos 0 -ℤ pos behind })
dotted_writes ds d behind a some few =
    let zeros = behind + 1 - length ds in
    let all = replicate zeros 0 ++ ds in
    let long : length all ≡ zeros + length ds = omega (arith, length-append (replicate zeros 0) ds, length-replicate {A = ℕ} zeros 0) in
    let n = length all - behind in
    let same : length (ascii ds) ≡ length ds = length-map ds (λ (k : ℕ). 48 + k) in
    let whole : replicate (behind + 1 - length (ascii ds)) 48 ++ ascii ds ≡ ascii all =
    ap (λ (k : ℕ). replicate (behind + 1 - k) 48 ++ ascii ds) same ∙ ap (λ (l : List ℕ). l ++ ascii ds) (sym (zeros_are zeros)) ∙ sym (map-append (λ (k : ℕ). 48 + k) (replicate zeros 0) ds) in
    let is : with_dot (ascii ds) behind ≡ ascii (take n all) ++ 46 ∷ ascii (drop n all) =
    ap (λ (l : List ℕ). take (length l - behind) l ++ 46 ∷ drop (length l - behind) l) whole
    ∙ ap (λ (k : ℕ). take (k - behind) (ascii all) ++ 46 ∷ drop (k - behind) (ascii all)) (length-map all (λ (k : ℕ). 48 + k))
    ∙ (λ i. take-map (λ (k : ℕ). 48 + k) n all i ++ 46 ∷ drop-map (λ (k : ℕ). 48 + k) n all i) in
    let small = All-append IsDigit (replicate zeros 0) ds (all_zeros zeros) a.small in
    let front : length (take n all) ≡ n = omega (arith, length-take n all, long) in
    let back : length (drop n all) ≡ behind = omega (arith, length-drop n all, long, a.some) in
    let h = dotted_digits (take n all) (drop n all) (omega (arith, front, long)) (omega (arith, front, back, long, a.few)) (All-take IsDigit n all small) (All-drop IsDigit n all small) in
    let digits : take n all ++ drop n all ≡ replicate zeros 0 ++ (ds ++ replicate 0 0) = take-append-drop n all ∙ ap (λ (l : List ℕ). replicate zeros 0 ++ l) (sym (append-nil ds)) in
    let text = ascii (take n all) ++ 46 ∷ ascii (drop n all) in
    let g : HasDigits text (replicate zeros 0 ++ (ds ++ replicate 0 0)) behind = subst (λ (l : List ℕ). HasDigits text l behind) digits (subst (λ (k : ℕ). HasDigits text (take n all ++ drop n all) k) back h) in
    rw is (writes text ds d zeros 0 behind g a some)

pub value_writes : (v : DecimalNumber) → IsElementValue v → WritesNumber (value_text v) v
value_writes v k = by v.exp refl k.low k.high
  where
    a : AreDigitsOf (digits_of 10 v.digits) v.digits
    a = digits_are v.digits k.some k.few k.last

    by : (e : ℤ) → v.exp ≡ e → negsuc 17 ≤ℤ e → e ≤ℤ pos 9 → WritesNumber (value_text v) v
    by (pos zeros) is low high =
        let text : value_text v ≡ ascii (digits_of 10 v.digits) ++ replicate zeros 48 = ap (scaled_digits (decimal v.digits)) is ∙ ap (λ (l : List ℕ). l ++ replicate zeros 48) (ascii_decimal v.digits k.some k.few) in
        let exp : pos zeros -ℤ pos 0 ≡ v.exp = omega (arith, ints) in
        let few : zeros ≤ 9 = omega (arith, ints, high) in
        let number : record { digits = v.digits; exp = pos zeros -ℤ pos 0 } ≡ v = λ i. record { digits = v.digits; exp = exp i } in
        subst (WritesNumber (value_text v)) number (rw text (whole_writes (digits_of 10 v.digits) v.digits zeros a k.some few))
    by (negsuc n) is low high =
        let text : value_text v ≡ with_dot (ascii (digits_of 10 v.digits)) (n + 1) = ap (scaled_digits (decimal v.digits)) is ∙ ap (λ (l : List ℕ). with_dot l (n + 1)) (ascii_decimal v.digits k.some k.few) in
        let exp : pos 0 -ℤ pos (n + 1) ≡ v.exp = omega (arith, ints) in
        let few : n + 1 ≤ 18 = omega (arith, ints, low) in
        let number : record { digits = v.digits; exp = pos 0 -ℤ pos (n + 1) } ≡ v = λ i. record { digits = v.digits; exp = exp i } in
        subst (WritesNumber (value_text v)) number (rw text (dotted_writes (digits_of 10 v.digits) v.digits (n + 1) a k.some few))

-- ---- its value

whole_front : (text : List ℕ) → list_all is_decimal_byte text ≡ true → prefix_len is_decimal_byte text ≡ length text
whole_front [] all = refl
whole_front (b ∷ text) all =
    let parts = and_parts (is_decimal_byte b) (list_all is_decimal_byte text) all in
    let e : prefix_len is_decimal_byte (b ∷ text) ≡ 1 + prefix_len is_decimal_byte text = cond-true _ _ _ parts.0 in
    omega (arith, e, whole_front text parts.1)

exponent_fits : (e : ℤ) → negsuc 17 ≤ℤ e → e ≤ℤ pos 9 → is_exponent e ≡ true
exponent_fits (pos n) low high = le-leb n 9 (omega (arith, ints, high))
exponent_fits (negsuc n) low high = and_from _ _ (le-leb n 17 (omega (arith, ints, low))) refl

pub record IsValueText (text : List ℕ) (v : DecimalNumber) : Type 0 where
  pub good : value_fault text ≡ None
  pub value : value_of text ≡ v

-- the text of a value has this value
pub value_back : (v : DecimalNumber) → IsElementValue v → IsValueText (value_text v) v
value_back v k =
    let text = value_text v in
    let w = value_writes v k in
    let all = whole_front text w.bytes in
    let front : decimal_of text ≡ text = take_all (prefix_len is_decimal_byte text) text (omega (arith, all)) in
    let unit : unit_of text ≡ [] = drop_all (prefix_len is_decimal_byte text) text (omega (arith, all)) in
    let number : number_in (decimal_of text) ≡ v = ap number_in front ∙ w.number in
    let plain : v.exp +ℤ pos 0 ≡ v.exp = omega (arith, ints) in
    let fits : is_exponent (v.exp +ℤ pos 0) ≡ true = ap is_exponent plain ∙ exponent_fits v.exp k.low k.high in
    let some : eqb v.digits 0 ≡ false = ne_eqb v.digits 0 (λ (e : v.digits ≡ 0). omega (arith, k.some)) in
    let scaled : scaled_fault v (Some (pos 0)) ≡ None = cond-false _ _ _ some ∙ cond-true _ _ _ fits in
    record {
      good = cond-true _ _ _ (ap is_decimal front ∙ w.decimal) ∙ (λ i. scaled_fault (number i) (power_of_unit (unit i))) ∙ scaled;
      value = (λ i. record { digits = (number i).digits; exp = (number i).exp +ℤ unwrap_or (power_of_unit (unit i)) (pos 0) }) ∙ (λ i. record { digits = v.digits; exp = plain i });
    }

-- ---- rates

ascii_digits : (ds : List ℕ) → All IsDigit ds → list_all is_ascii_digit (ascii ds) ≡ true
ascii_digits [] small = refl
ascii_digits (d ∷ ds) small = rw (digit d (small 0 d (omega arith))) (ascii_digits ds (All-tail IsDigit d ds small))

pub record IsRateText (text : List ℕ) (n : ℕ) : Type 0 where
  pub good : is_rate_word text ≡ true
  pub number : number_of text ≡ n

-- the digits of a rate have this rate
pub rate_back : (n : ℕ) → 1 ≤ n → n ≤ MAX_RATE → IsRateText (decimal n) n
rate_back n some few =
    let ds = digits_of 10 n in
    let step = digits_of_step 10 n (omega arith) (omega arith) in
    let long : length (ascii ds) ≡ length ds = length-map ds (λ (d : ℕ). 48 + d) in
    let least : 1 ≤ length ds = omega (arith, ap length step, length-append (digits_of 10 (n / 10)) ((n % 10) ∷ [])) in
    let most : length ds ≤ 7 = length-digits_of-le 10 7 n (omega arith) (omega arith) in
    let small = All-from_recursion IsDigit ds (all_below_base_digits_of 10 n (omega arith)) in
    let number : number_of (ascii ds) ≡ n = ap (number_from_digits 10) (bytes_back ds) ∙ number_digits_of 10 n (omega arith) in
    let whole : is_whole (ascii ds) ≡ true =
    and_from _ _ (and_from _ _ (and_from _ _ (le-leb 1 (length (ascii ds)) (omega (arith, long))) (le-leb (length (ascii ds)) 20 (omega (arith, long)))) (ascii_digits ds small))
    (lt-ltb (number_of (ascii ds)) (2 ^ 64) (omega (arith, number))) in
    let good : is_rate_word (ascii ds) ≡ true = and_from _ _ whole (and_from _ _ (le-leb 1 (number_of (ascii ds)) (omega (arith, number))) (le-leb (number_of (ascii ds)) MAX_RATE (omega (arith, number)))) in
    let text : decimal n ≡ ascii ds = decimal-digits_of n (omega arith) (omega arith) in
    rw text (record { good = good; number = number })
