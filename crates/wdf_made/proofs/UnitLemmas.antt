-- A number with the letter of a unit behind it, and its value.
use Rattle.std.proofs.Common.{◌≡◌, ℕ, ℤ, ◌+◌, ◌/◌, ◌%◌, ◌≤◌, ◌+ℤ◌, Bool, true, false, eqb, List, [], ◌∷◌, ◌++◌, length, Some, None, refl, sym, ap, ◌∙◌, subst, arith, append_assoc, append-nil, length-append}
use Rattle.std.specs.Prelude.{◌≤ℤ◌, ◌==◌, pos, negsuc, decimal, unwrap_or}
use Rattle.std.specs.List.{list_all, prefix_len}
use Rattle.std.specs.Int.Digits.{digits_of}
use Rattle.std.proofs.lemmas.Bool.{and_from, and_parts, cond-false, cond-true, le-leb, ne_eqb}
use Rattle.std.proofs.lemmas.Int.{ints}
use Rattle.std.proofs.lemmas.Int.Digits.{digits_of_step, length-digits_of-le}
use Rattle.std.proofs.lemmas.List.{drop_at, length-map, map-append, take_at}
use Rattle.std.proofs.lemmas.List.Elements.{All-push}
use Rattle.wdf_text.specs.DecimalNumber.{DecimalNumber}
use Rattle.wdf_text.specs.Decimals.{is_decimal, is_decimal_byte, number_in}
use Rattle.wdf_netlist.specs.Circuits.{IsElementValue}
use Rattle.wdf_netlist.specs.Values.{decimal_of, is_exponent, power_of_letter, power_of_unit, scaled_fault, unit_of}
use Rattle.wdf_netlist.proofs.LineBackLemmas.{IsPlainByte, IsPlainWord}
use Rattle.wdf_netlist.proofs.PlainLemmas.{plain_rate}
use Rattle.wdf_netlist.proofs.ValueBackLemmas.{IsValueText, WritesNumber, ascii, ascii_decimal, value_writes}
use Rattle.wdf_made.specs.Ladder.{in_one_form}

-- ---- numbers

zero_behind : (n : ℕ) → 10 ≤ n → n ≤ 999 → n % 10 ≡ 0 → decimal n ≡ decimal (n / 10) ++ 48 ∷ []
zero_behind n some few zero =
    ascii_decimal n (omega arith) (omega arith)
    ∙ ap ascii (digits_of_step 10 n (omega arith) (omega arith))
    ∙ map-append (λ (d : ℕ). 48 + d) (digits_of 10 (n / 10)) ((n % 10) ∷ [])
    ∙ (λ i. sym (ascii_decimal (n / 10) (omega arith) (omega arith)) i ++ (48 + zero i) ∷ [])

number_writes : (n : ℕ) → 1 ≤ n → n ≤ 999 → WritesNumber (decimal n) (in_one_form n (pos 0))
number_writes n some few = by (n % 100 == 0) (n % 10 == 0) refl refl
  where
    by : (s t : Bool) → (n % 100 == 0) ≡ s → (n % 10 == 0) ≡ t → WritesNumber (decimal n) (in_one_form n (pos 0))
    by true t e f =
        let v : DecimalNumber = record { digits = n / 100; exp = pos 2 } in
        let k : IsElementValue v = record { some = grind arith; few = grind arith; last = grind arith; low = grind arith; high = grind arith } in
        let tens : n / 10 / 10 ≡ n / 100 = omega arith in
        let text : decimal n ≡ decimal (n / 100) ++ 48 ∷ 48 ∷ [] =
        zero_behind n (grind arith) few (grind arith)
        ∙ ap (λ (l : List ℕ). l ++ 48 ∷ []) (zero_behind (n / 10) (grind arith) (omega arith) (grind arith))
        ∙ append_assoc (decimal (n / 10 / 10)) (48 ∷ []) (48 ∷ [])
        ∙ ap (λ (m : ℕ). decimal m ++ 48 ∷ 48 ∷ []) tens in
        rw e (subst (λ (l : List ℕ). WritesNumber l v) (sym text) (value_writes v k))
    by false true e f =
        let v : DecimalNumber = record { digits = n / 10; exp = pos 1 } in
        let k : IsElementValue v = record { some = grind arith; few = grind arith; last = grind arith; low = grind arith; high = grind arith } in
        let text : decimal n ≡ decimal (n / 10) ++ 48 ∷ [] = zero_behind n (grind arith) few (grind arith) in
        rw (e, f) (subst (λ (l : List ℕ). WritesNumber l v) (sym text) (value_writes v k))
    by false false e f =
        let v : DecimalNumber = record { digits = n; exp = pos 0 } in
        let k : IsElementValue v = record { some = some; few = grind arith; last = grind arith; low = grind arith; high = grind arith } in
        rw (e, f) (subst (λ (l : List ℕ). WritesNumber l v) (append-nil (decimal n)) (value_writes v k))

-- ---- units

decimal_front : (text : List ℕ) (letter : ℕ) → list_all is_decimal_byte text ≡ true → is_decimal_byte letter ≡ false → prefix_len is_decimal_byte (text ++ letter ∷ []) ≡ length text
decimal_front [] letter all none = cond-false _ _ _ none
decimal_front (b ∷ text) letter all none =
    let parts = and_parts (is_decimal_byte b) (list_all is_decimal_byte text) all in
    let e : prefix_len is_decimal_byte (b ∷ (text ++ letter ∷ [])) ≡ 1 + prefix_len is_decimal_byte (text ++ letter ∷ []) = cond-true _ _ _ parts.0 in
    omega (arith, e, decimal_front text letter parts.1 none)

unit_back : (text : List ℕ) (n : DecimalNumber) (letter : ℕ) (power : ℤ) → WritesNumber text n → is_decimal_byte letter ≡ false → power_of_letter letter ≡ Some power → 1 ≤ n.digits → is_exponent (n.exp +ℤ power) ≡ true
    → IsValueText (text ++ letter ∷ []) (record { digits = n.digits; exp = n.exp +ℤ power })
unit_back text n letter power w other is some fits =
    let whole = text ++ letter ∷ [] in
    let long = decimal_front text letter w.bytes other in
    let front : decimal_of whole ≡ text = take_at text (letter ∷ []) (prefix_len is_decimal_byte whole) (sym long) in
    let unit : unit_of whole ≡ letter ∷ [] = drop_at text (letter ∷ []) (prefix_len is_decimal_byte whole) (sym long) in
    let number : number_in (decimal_of whole) ≡ n = ap number_in front ∙ w.number in
    let scale : power_of_unit (unit_of whole) ≡ Some power = ap power_of_unit unit ∙ is in
    let not_zero : eqb n.digits 0 ≡ false = ne_eqb n.digits 0 (λ (e : n.digits ≡ 0). omega arith) in
    let good : scaled_fault n (Some power) ≡ None = cond-false _ _ _ not_zero ∙ cond-true _ _ _ fits in
    record {
      good = cond-true _ _ _ (ap is_decimal front ∙ w.decimal) ∙ (λ i. scaled_fault (number i) (scale i)) ∙ good;
      value = λ i. record { digits = (number i).digits; exp = (number i).exp +ℤ unwrap_or (scale i) (pos 0) };
    }

fits_exponent : (e : ℤ) → negsuc 8 ≤ℤ e → e ≤ℤ pos 2 → is_exponent e ≡ true
fits_exponent (pos n) low high = le-leb n 9 (omega (arith, ints, high))
fits_exponent (negsuc n) low high = and_from _ _ (le-leb n 17 (omega (arith, ints, low))) refl

-- the value of so many units
pub letter_back : (n letter : ℕ) (power : ℤ) → 1 ≤ n → n ≤ 999 → is_decimal_byte letter ≡ false → power_of_letter letter ≡ Some power → negsuc 8 ≤ℤ power → power ≤ℤ pos 0
    → IsValueText (decimal n ++ letter ∷ []) (in_one_form n power)
letter_back n letter power some few other is low high = by (n % 100 == 0) (n % 10 == 0) refl refl (number_writes n some few)
  where
    text : List ℕ
    text = decimal n ++ letter ∷ []

    value : (d k : ℕ) → WritesNumber (decimal n) (record { digits = d; exp = pos k }) → 1 ≤ d → k ≤ 2 → IsValueText text (record { digits = d; exp = pos k +ℤ power })
    value d k w digits small = unit_back (decimal n) (record { digits = d; exp = pos k }) letter power w other is digits (fits_exponent (pos k +ℤ power) (omega (arith, ints, low)) (omega (arith, ints, high, small)))

    by : (s t : Bool) → (n % 100 == 0) ≡ s → (n % 10 == 0) ≡ t → WritesNumber (decimal n) (in_one_form n (pos 0)) → IsValueText text (in_one_form n power)
    by true t e f w =
        let sum : pos 2 +ℤ power ≡ power +ℤ pos 2 = omega (arith, ints) in
        rw e (subst (λ (exp : ℤ). IsValueText text (record { digits = n / 100; exp = exp })) sum (value (n / 100) 2 (rw e at w) (grind arith) (omega arith)))
    by false true e f w =
        let sum : pos 1 +ℤ power ≡ power +ℤ pos 1 = omega (arith, ints) in
        rw (e, f) (subst (λ (exp : ℤ). IsValueText text (record { digits = n / 10; exp = exp })) sum (value (n / 10) 1 (rw (e, f) at w) (grind arith) (omega arith)))
    by false false e f w =
        let sum : pos 0 +ℤ power ≡ power = omega (arith, ints) in
        rw (e, f) (subst (λ (exp : ℤ). IsValueText text (record { digits = n; exp = exp })) sum (value n 0 (rw (e, f) at w) some (omega arith)))

-- the word parts no words
pub plain_letter : (n letter : ℕ) → 1 ≤ n → n ≤ 999 → IsPlainByte letter → IsPlainWord (decimal n ++ letter ∷ [])
plain_letter n letter some few plain =
    let long = ap length (ascii_decimal n some (omega arith)) in
    let same : length (ascii (digits_of 10 n)) ≡ length (digits_of 10 n) = length-map (digits_of 10 n) (λ (d : ℕ). 48 + d) in
    let short = length-digits_of-le 10 3 n (omega arith) (omega arith) in
    record {
      some = omega (arith, length-append (decimal n) (letter ∷ []));
      few = omega (arith, length-append (decimal n) (letter ∷ []), long, same, short);
      bytes = All-push IsPlainByte (decimal n) letter (plain_rate n some (omega arith)).bytes plain;
    }
