-- The digits of a decimal, byte by byte, and the number that they write.
use Rattle.std.proofs.Common.{◌≡◌, ℕ, ◌+◌, ◌-◌, ◌*◌, ◌^◌, ◌<◌, ◌≤◌, pos, ◌+ℤ◌, Bool, true, false, eqb, ltb, ℤ, List, [], ◌∷◌, ◌++◌, length, get_or, take, drop, map, Some, None, position, refl, sym, ap, ◌∙◌, arith, add-one, zero-add, zero-mul, append-nil, drop-cons, take-append-drop}
use Rattle.std.specs.List.{position_or_len}
use Rattle.std.specs.Char.{is_ascii_digit}
use Rattle.std.proofs.lemmas.List.{map-append, take_more, length-drop}
use Rattle.std.proofs.lemmas.List.Elements.{filter-append}
use Rattle.std.proofs.lemmas.Bool.{cond-true, cond-false, ltb-false, eqb-true}
use Rattle.std.proofs.lemmas.Bool.Decides.{nat_tests}
use Rattle.wdf_text.specs.DecimalNumber.{DecimalNumber}
use Rattle.wdf_text.specs.Decimals.{IsValueOf, digit_bytes, is_dot, places}
use Rattle.wdf_text.specs.Numbers.{digits_of_bytes}
use Rattle.wdf_text.specs.Significance.{IsSignificant, significant_count}
use Rattle.wdf_text.proofs.SignificanceLemmas.{significant_more}

-- the digits of a text
abbrev pub digits_in : List ℕ → List ℕ
digits_in text = digits_of_bytes (digit_bytes text)

digits_in-append : (xs ys : List ℕ) → digits_in (xs ++ ys) ≡ digits_in xs ++ digits_in ys
digits_in-append xs ys =
    let f : ℕ → ℕ = λ byte. byte - 48 in
    ap (map f) (filter-append is_ascii_digit xs ys) ∙ map-append f (digit_bytes xs) (digit_bytes ys)

digits_in-digit : (b : ℕ) (ys : List ℕ) → is_ascii_digit b ≡ true → digits_in (b ∷ ys) ≡ (b - 48) ∷ digits_in ys
digits_in-digit b ys is = ap digits_of_bytes (cond-true _ _ _ is)

digits_in-other : (b : ℕ) (ys : List ℕ) → is_ascii_digit b ≡ false → digits_in (b ∷ ys) ≡ digits_in ys
digits_in-other b ys other = ap digits_of_bytes (cond-false _ _ _ other)

-- a digit more
pub digits_more : (text : List ℕ) (i : ℕ) → i < length text → is_ascii_digit (get_or text i 0) ≡ true
    → digits_in (take (i + 1) text) ≡ digits_in (take i text) ++ (get_or text i 0 - 48) ∷ []
digits_more text i within is =
    ap digits_in (take_more text i 0 within) ∙ digits_in-append (take i text) (get_or text i 0 ∷ []) ∙ ap (λ (ds : List ℕ). digits_in (take i text) ++ ds) (digits_in-digit _ [] is)

-- another byte more
pub digits_same : (text : List ℕ) (i : ℕ) → i < length text → is_ascii_digit (get_or text i 0) ≡ false → digits_in (take (i + 1) text) ≡ digits_in (take i text)
digits_same text i within other =
    ap digits_in (take_more text i 0 within) ∙ digits_in-append (take i text) (get_or text i 0 ∷ [])
    ∙ ap (λ (ds : List ℕ). digits_in (take i text) ++ ds) (digits_in-other (get_or text i 0) [] other) ∙ append-nil (digits_in (take i text))

-- all the digits, with that of one byte among them
digits_around : (text : List ℕ) (i : ℕ) → i < length text → is_ascii_digit (get_or text i 0) ≡ true
    → digits_in text ≡ digits_in (take i text) ++ (get_or text i 0 - 48) ∷ digits_in (drop (i + 1) text)
digits_around text i within is =
    ap digits_in (sym (take-append-drop i text) ∙ ap (λ (l : List ℕ). take i text ++ l) (drop-cons text i 0 within ∙ ap (λ (n : ℕ). get_or text i 0 ∷ drop n text) (sym (add-one i))))
    ∙ digits_in-append (take i text) (get_or text i 0 ∷ drop (i + 1) text)
    ∙ ap (λ (ds : List ℕ). digits_in (take i text) ++ ds) (digits_in-digit (get_or text i 0) (drop (i + 1) text) is)

-- they are no more than the bytes
pub length-digits_in-le : (text : List ℕ) → length (digits_in text) ≤ length text
length-digits_in-le [] = omega arith
length-digits_in-le (b ∷ text) = by (is_ascii_digit b) refl (length-digits_in-le text)
  where
    by : (t : Bool) → is_ascii_digit b ≡ t → length (digits_in text) ≤ length text → length (digits_in (b ∷ text)) ≤ length (b ∷ text)
    by true h fewer = omega (arith, ap (length {A = ℕ}) (digits_in-digit b text h))
    by false h fewer = omega (arith, ap (length {A = ℕ}) (digits_in-other b text h))

-- a digit that is not 0 behind more significant digits and zeros than fit
pub too_many : (text : List ℕ) (i digits count trailing : ℕ) → i < length text → is_ascii_digit (get_or text i 0) ≡ true → 0 < get_or text i 0 - 48
    → IsSignificant (digits_in (take i text)) digits count trailing → 9 < count + trailing + 1 → 9 < significant_count (digits_in text)
too_many text i digits count trailing within is some s many =
    let more = significant_more (digits_in (take i text)) (digits_in (drop (i + 1) text)) (get_or text i 0 - 48) some in
    omega (arith, s.all, more, ap significant_count (digits_around text i within is))

-- the zeros behind are no more than the bytes
pub zeros_few : (text : List ℕ) (digits count trailing : ℕ) → IsSignificant (digits_in text) digits count trailing → trailing ≤ length text
zeros_few text digits count trailing s = omega (arith, s.all, length-digits_in-le text)

-- the place of the first dot tells how many bytes are behind it
pub places_some : (text : List ℕ) (at : ℕ) → position is_dot text ≡ Some at → length text - at - 1 ≡ places text
places_some text at e = by (ltb (position_or_len is_dot text) (length text)) refl
  where
    by : (t : Bool) → ltb (position_or_len is_dot text) (length text) ≡ t → length text - at - 1 ≡ places text
    by true h =
        let some : position is_dot text ≡ Some (position_or_len is_dot text) = cond-true _ _ _ h in
        let same : position_or_len is_dot text ≡ at = cc in
        omega (arith, length-drop (position_or_len is_dot text + 1) text)
    by false h = let none : position is_dot text ≡ None = cond-false _ _ _ h in absurd (cc)

pub places_none : (text : List ℕ) → position is_dot text ≡ None → 0 ≡ places text
places_none text e = by (ltb (position_or_len is_dot text) (length text)) refl
  where
    by : (t : Bool) → ltb (position_or_len is_dot text) (length text) ≡ t → 0 ≡ places text
    by true h = let some : position is_dot text ≡ Some (position_or_len is_dot text) = cond-true _ _ _ h in absurd (cc)
    by false h =
        let past : length text ≤ position_or_len is_dot text = ltb-false _ _ h in
        omega (arith, length-drop (position_or_len is_dot text + 1) text)

-- the significant digits with the exponent that the dot gives are the value
pub value_read : (text : List ℕ) (digits count trailing : ℕ) (q : DecimalNumber) → IsSignificant (digits_in text) digits count trailing
    → q.digits ≡ digits → (0 < digits → pos trailing ≡ q.exp +ℤ pos (places text)) → (digits ≡ 0 → q.exp ≡ pos 0) → IsValueOf text q
value_read text digits count trailing q s same exp zero = by (eqb digits 0) refl
  where
    by : (t : Bool) → eqb digits 0 ≡ t → IsValueOf text q
    by true h =
        let none : digits ≡ 0 = eqb-true _ _ h in
        record {
          scale = places text;
          place = ap (λ (n : ℕ). pos n) (sym (zero-add (places text))) ∙ ap (λ (z : ℤ). z +ℤ pos (places text)) (sym (zero none));
          value = s.value ∙ ap (λ (n : ℕ). n * 10 ^ trailing) none ∙ zero-mul (10 ^ trailing) ∙ sym (zero-mul (10 ^ places text)) ∙ ap (λ (n : ℕ). n * 10 ^ places text) (sym (same ∙ none));
        }
    by false h = record {
      scale = trailing;
      place = exp (grind (arith, h, nat_tests));
      value = s.value ∙ ap (λ (n : ℕ). n * 10 ^ trailing) (sym same);
    }
