-- Tokens that are taken and tokens that are missed, by what stands at an offset.
use Rattle.std.proofs.Common.{◌≡◌, ℕ, ◌+◌, ◌-◌, ◌*◌, ◌^◌, ◌<◌, ◌≤◌, true, List, [], ◌∷◌, ◌++◌, length, take, drop, get_or, refl, sym, ap, ◌∙◌, arith}
use Rattle.std.specs.Prelude.{decimal}
use Rattle.std.specs.List.{list_all}
use Rattle.std.specs.Char.{is_ascii_digit}
use Rattle.std.proofs.lemmas.List.{take-append-drop, drop-drop, drop_more, length-take-le, length-drop, drop_all, map-append, take_more, get_or-drop}
use Rattle.std.proofs.Math.Nat.{pow-le-pow_right}
use Rattle.std.specs.Int.Digits.{number_from_digits}
use Rattle.std.proofs.lemmas.List.Folds.{list_all_more}
use Rattle.std.proofs.lemmas.Bool.{and_from}
use Rattle.std.proofs.lemmas.Int.Digits.{number_push}
use Rattle.std.proofs.lemmas.Fmt.{length-decimal-le_wide}
use mathlib.Core.Logic.{◌⊎◌, inl, inr}
use Rattle.wdf_text.specs.Numbers.{digits_of_bytes, number_of}
use Rattle.wdf_cert.specs.declared.cert_text_fault.CertTextFault.TheVariants.{Syntax, Range}
use Rattle.wdf_cert.specs.Format.{word, mark, number, is_word_byte, ends_word, Misses}
use Rattle.wdf_cert.specs.Scanning.{Takes}
use Rattle.wdf_cert.proofs.OneToken.{decimal-digits, small-wide, one-word}

-- the text behind an offset, cut at another
cut : (text : List ℕ) (at next : ℕ) → at ≤ next → drop at text ≡ take (next - at) (drop at text) ++ drop next text
cut text at next h =
    let whole : at + (next - at) ≡ next = omega arith in
    sym (take-append-drop (next - at) (drop at text))
    ∙ ap (λ (rest : List ℕ). take (next - at) (drop at text) ++ rest) (drop-drop (next - at) at text ∙ ap (λ (n : ℕ). drop n text) whole)

cut-length : (text : List ℕ) (at next : ℕ) → at ≤ next → next ≤ length text → length (take (next - at) (drop at text)) ≡ next - at
cut-length text at next h k =
    let long = length-drop at text in
    length-take-le (next - at) (drop at text) (omega arith)

-- one byte of a word more
pub word_byte_more : (text : List ℕ) (at end : ℕ) → at ≤ end → end < length text → list_all is_word_byte (take (end - at) (drop at text)) ≡ true → is_word_byte (get_or text end 0) ≡ true
    → list_all is_word_byte (take (end + 1 - at) (drop at text)) ≡ true
word_byte_more text at end order within words one =
    let step : end + 1 - at ≡ end - at + 1 = omega arith in
    let whole : at + (end - at) ≡ end = omega arith in
    let long = length-drop at text in
    let here : get_or (drop at text) (end - at) 0 ≡ get_or text end 0 = get_or-drop at text (end - at) 0 ∙ ap (λ (i : ℕ). get_or text i 0) whole in
    ap (λ (n : ℕ). list_all is_word_byte (take n (drop at text))) step
    ∙ (list_all_more is_word_byte (drop at text) (end - at) 0 (omega arith)
    ∙ and_from (list_all is_word_byte (take (end - at) (drop at text))) (is_word_byte (get_or (drop at text) (end - at) 0)) words (ap is_word_byte here ∙ one))

pub word_taken : (text want : List ℕ) (at next : ℕ) → at ≤ next → next ≤ length text → take (next - at) (drop at text) ≡ want → ends_word (drop next text) ≡ true
    → Takes (word want) 0 text at next
word_taken text want at next h k same ends = record {
  meets = record { begins = (refl, cut text at next h ∙ ap (λ (w : List ℕ). w ++ drop next text) same, ends); range = tt };
  next = (let long = sym (ap length same) ∙ cut-length text at next h k in omega arith);
  within = k;
}

pub word_missed : (text want : List ℕ) (at next : ℕ) → at ≤ next → list_all is_word_byte (take (next - at) (drop at text)) ≡ true → list_all is_word_byte want ≡ true
    → ends_word (drop next text) ≡ true → (take (next - at) (drop at text) ≡ want → ⊥) → Misses (word want) (drop at text) at (Syntax at)
word_missed text want at next h bytes words ends other =
    inl (λ v rest b. other (one-word (take (next - at) (drop at text)) want (drop next text) rest bytes words ends b.2 (sym (cut text at next h) ∙ b.1)).0, refl)

pub mark_taken : (text : List ℕ) (at byte : ℕ) → at < length text → get_or text at 0 ≡ byte → Takes (mark byte) 0 text at (at + 1)
mark_taken text at byte h same = record {
  meets = record { begins = (refl, drop_more text at 0 h ∙ ap (λ (b : ℕ). b ∷ drop (at + 1) text) same); range = tt };
  next = refl;
  within = omega arith;
}

pub mark_missed : (text : List ℕ) (at byte : ℕ) → at < length text → (get_or text at 0 ≡ byte → ⊥) → Misses (mark byte) (drop at text) at (Syntax at)
mark_missed text at byte h other =
    inl (
      λ v rest b.
          let whole : get_or text at 0 ∷ drop (at + 1) text ≡ byte ∷ rest = sym (drop_more text at 0 h) ∙ b.1 in
          let same : get_or text at 0 ≡ byte = cc in
          other same,
      refl,
    )

pub mark_past : (text : List ℕ) (at byte : ℕ) → length text ≤ at → Misses (mark byte) (drop at text) at (Syntax at)
mark_past text at byte h =
    inl (
      λ v rest b.
          let whole : [] ≡ byte ∷ rest = sym (drop_all at text h) ∙ b.1 in
          absurd (cc),
      refl,
    )

pub number_taken : (text : List ℕ) (at next low high n : ℕ) → at ≤ next → next ≤ length text → take (next - at) (drop at text) ≡ decimal n → ends_word (drop next text) ≡ true
    → n < 10 ^ 20 → low ≤ n → n ≤ high → Takes (number low high) n text at next
number_taken text at next low high n h k same ends small least most = record {
  meets = record { begins = (small, cut text at next h ∙ ap (λ (w : List ℕ). w ++ drop next text) same, ends); range = (least, most) };
  next = (let long = sym (ap length same) ∙ cut-length text at next h k in omega arith);
  within = k;
}

pub number_out : (text : List ℕ) (at next low high n : ℕ) → at ≤ next → take (next - at) (drop at text) ≡ decimal n → ends_word (drop next text) ≡ true
    → n < 10 ^ 20 → (n < low) ⊎ (high < n) → Misses (number low high) (drop at text) at (Range at)
number_out text at next low high n h same ends small out =
    inr (
      n,
      drop next text,
      (small, cut text at next h ∙ ap (λ (w : List ℕ). w ++ drop next text) same, ends),
      λ range. let low_in = range.0 in let high_in = range.1 in elim out [ inl less ↦ absurd (omega arith) | inr more ↦ absurd (omega arith) ],
      refl,
    )

pub number_missed : (text : List ℕ) (at next low high : ℕ) → at ≤ next → list_all is_word_byte (take (next - at) (drop at text)) ≡ true → ends_word (drop next text) ≡ true
    → ((v : ℕ) → v < 10 ^ 20 → take (next - at) (drop at text) ≡ decimal v → ⊥) → Misses (number low high) (drop at text) at (Syntax at)
number_missed text at next low high h bytes ends none =
    inl (
      λ v rest b.
          none v b.0 (one-word (take (next - at) (drop at text)) (decimal v) (drop next text) rest bytes (decimal-digits v (small-wide v b.0)).bytes ends b.2 (sym (cut text at next h) ∙ b.1)).0,
      refl,
    )

pub ruleset word_tokens = (word_taken, word_missed)

pub ruleset mark_tokens = (mark_taken, mark_missed, mark_past)

pub ruleset number_tokens = (number_taken, number_out, number_missed)

-- ---- the number that digits write

-- no number of at most 20 digits is written so
pub digits_none : (text : List ℕ) → (list_all is_ascii_digit text ≡ true → 20 < length text) → (v : ℕ) → v < 10 ^ 20 → text ≡ decimal v → ⊥
digits_none text long v small same =
    let is = decimal-digits v (small-wide v small) in
    let count : length text ≡ length (decimal v) = ap length same in
    let few = length-decimal-le_wide 20 v (omega arith) small (small-wide v small) in
    let many = long (ap (list_all is_ascii_digit) same ∙ is.digits) in
    absurd (omega arith)

-- 20 digits write a number below 10^20
pub digits_small : (n count : ℕ) → n < 10 ^ count → count ≤ 20 → n < 10 ^ 20
digits_small n count small few =
    let ten : 0 < 10 = omega arith in
    let power : 10 ^ count ≤ 10 ^ 20 = pow-le-pow_right ten few in
    omega arith

-- one digit more
pub number_of_more : (text : List ℕ) (i : ℕ) → i < length text → number_of (take (i + 1) text) ≡ number_of (take i text) * 10 + (get_or text i 0 - 48)
number_of_more text i within =
    ap number_of (take_more text i 0 within)
    ∙ (ap (number_from_digits 10) (map-append (λ (byte : ℕ). byte - 48) (take i text) (get_or text i 0 ∷ []))
    ∙ number_push 10 (digits_of_bytes (take i text)) (get_or text i 0 - 48))

-- only the number that they write may be written so
pub digits_other : (text : List ℕ) (n : ℕ) → n ≡ number_of text → (text ≡ decimal n → ⊥) → (v : ℕ) → v < 10 ^ 20 → text ≡ decimal v → ⊥
digits_other text n is other v small same =
    let value : v ≡ n = sym (decimal-digits v (small-wide v small)).number ∙ (sym (ap number_of same) ∙ sym is) in
    other (same ∙ ap decimal value)

pub ruleset digits_read = (digits_none, digits_other)
