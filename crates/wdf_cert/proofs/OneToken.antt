-- A text begins with a token of a kind in one way at most.
use Rattle.std.proofs.Common.{◌≡◌, ℕ, zero, suc, ◌+◌, ◌-◌, ◌*◌, ◌/◌, ◌%◌, ◌^◌, ◌<◌, ◌≤◌, Bool, true, false, not, ◌&&◌, List, [], ◌∷◌, ◌++◌, length, map, refl, sym, ap, ◌∙◌, subst, arith}
use Rattle.std.specs.Prelude.{decimal}
use Rattle.std.specs.List.{list_all}
use Rattle.std.specs.Char.{is_ascii_digit}
use Rattle.std.specs.Int.Digits.{number_from_digits}
use Rattle.std.proofs.Math.Nat.{mod-lt, mod-add-div}
use Rattle.std.proofs.lemmas.List.{append_cancel_left, map-append, length_push}
use Rattle.std.proofs.lemmas.List.Folds.{list_all-append}
use Rattle.std.proofs.lemmas.Int.Digits.{number_push}
use Rattle.std.proofs.lemmas.Fmt.{decimal_by_steps_wide}
use mathlib.Core.Logic.{inl, inr}
use Rattle.wdf_text.specs.Numbers.{number_of}
use Rattle.wdf_cert.specs.declared.cert_text_fault.CertTextFault.{CertTextFault}
use Rattle.wdf_cert.specs.Format.{Slot, word, mark, number, is_word_byte, ends_word, spelled, Begins, IsInSlot, Meets, Format, token, HasFault}

-- ---- digits

digit : (n : ℕ) → n < 10 → (is_ascii_digit (48 + n) ≡ true) × (is_word_byte (48 + n) ≡ true)
digit zero h = (refl, refl)
digit (suc zero) h = (refl, refl)
digit (suc (suc zero)) h = (refl, refl)
digit (suc (suc (suc zero))) h = (refl, refl)
digit (suc (suc (suc (suc zero)))) h = (refl, refl)
digit (suc (suc (suc (suc (suc zero))))) h = (refl, refl)
digit (suc (suc (suc (suc (suc (suc zero)))))) h = (refl, refl)
digit (suc (suc (suc (suc (suc (suc (suc zero))))))) h = (refl, refl)
digit (suc (suc (suc (suc (suc (suc (suc (suc zero)))))))) h = (refl, refl)
digit (suc (suc (suc (suc (suc (suc (suc (suc (suc zero))))))))) h = (refl, refl)
digit (suc (suc (suc (suc (suc (suc (suc (suc (suc (suc n)))))))))) h = absurd (omega arith)

-- what the decimal digits of a number are
pub record AreDigits (n : ℕ) (ds : List ℕ) : Type 0 where
  pub number : number_of ds ≡ n
  pub digits : list_all is_ascii_digit ds ≡ true
  pub bytes : list_all is_word_byte ds ≡ true
  pub some : 1 ≤ length ds

and-true : (a b : Bool) → a ≡ true → b ≡ true → (a && b) ≡ true
and-true a b p q = ap (λ (c : Bool). c && b) p ∙ q

pub decimal-digits : (n : ℕ) → n < 10 ^ 64 → AreDigits n (decimal n)
decimal-digits = decimal_by_steps_wide AreDigits
    (λ n h. record {
      number = omega arith;
      digits = and-true (is_ascii_digit (48 + n)) true (digit n h).0 refl;
      bytes = and-true (is_word_byte (48 + n)) true (digit n h).1 refl;
      some = omega arith;
    })
    (λ n ds h is.
    let small : n % 10 < 10 = mod-lt n (omega arith) in
    let last = digit (n % 10) small in
    let split : n % 10 + 10 * (n / 10) ≡ n = mod-add-div n 10 in
    let number = is.number in
    let push = ap (number_from_digits 10) (map-append (λ (byte : ℕ). byte - 48) ds ((48 + n % 10) ∷ []))
    ∙ number_push 10 (map (λ (byte : ℕ). byte - 48) ds) (48 + n % 10 - 48) in
    let long = length_push ds (48 + n % 10) in
    record {
      number = push ∙ omega arith;
      digits = list_all-append is_ascii_digit ds ((48 + n % 10) ∷ []) ∙ and-true (list_all is_ascii_digit ds) (is_ascii_digit (48 + n % 10) && true) is.digits
          (and-true (is_ascii_digit (48 + n % 10)) true last.0 refl);
      bytes = list_all-append is_word_byte ds ((48 + n % 10) ∷ []) ∙ and-true (list_all is_word_byte ds) (is_word_byte (48 + n % 10) && true) is.bytes
          (and-true (is_word_byte (48 + n % 10)) true last.1 refl);
      some = omega arith;
    })

pub small-wide : (n : ℕ) → n < 10 ^ 20 → n < 10 ^ 64
small-wide n h = omega arith

pub decimal-one : (m n : ℕ) → m < 10 ^ 20 → n < 10 ^ 20 → decimal m ≡ decimal n → m ≡ n
decimal-one m n h k e =
    sym (decimal-digits m (small-wide m h)).number ∙ (ap number_of e ∙ (decimal-digits n (small-wide n k)).number)

-- ---- words

not-both : (b : ℕ) → is_word_byte b ≡ true → not (is_word_byte b) ≡ true → ⊥
not-both b p q = absurd (cc (sym q ∙ ap not p))

first-true : (a b : Bool) → (a && b) ≡ true → (a ≡ true) × (b ≡ true)
first-true true b h = (refl, h)
first-true false b h = absurd (cc)

-- a text has one word at its front
pub one-word : (a b r s : List ℕ) → list_all is_word_byte a ≡ true → list_all is_word_byte b ≡ true → ends_word r ≡ true → ends_word s ≡ true
    → a ++ r ≡ b ++ s → (a ≡ b) × (r ≡ s)
one-word [] [] r s pa pb er es e = (refl, e)
one-word [] (y ∷ b) [] s pa pb er es e = absurd (cc)
one-word [] (y ∷ b) (x ∷ r) s pa pb er es e =
    let same : x ≡ y = cc in
    absurd (not-both x (subst (λ (c : ℕ). is_word_byte c ≡ true) (sym same) (first-true (is_word_byte y) (list_all is_word_byte b) pb).0) er)
one-word (x ∷ a) [] r [] pa pb er es e = absurd (cc)
one-word (x ∷ a) [] r (y ∷ s) pa pb er es e =
    let same : x ≡ y = cc in
    absurd (not-both y (subst (λ (c : ℕ). is_word_byte c ≡ true) same (first-true (is_word_byte x) (list_all is_word_byte a) pa).0) es)
one-word (x ∷ a) (y ∷ b) r s pa pb er es e =
    let same : x ≡ y = cc in
    let tail : a ++ r ≡ b ++ s = cc in
    let rest = one-word a b r s (first-true (is_word_byte x) (list_all is_word_byte a) pa).1 (first-true (is_word_byte y) (list_all is_word_byte b) pb).1 er es tail in
    ((λ i. same i ∷ rest.0 i), rest.1)

-- ---- tokens

pub one-token : (slot : Slot) (v w : ℕ) (text r s : List ℕ) → Begins slot v text r → Begins slot w text s → (v ≡ w) × (r ≡ s)
one-token (word bytes) v w text r s b c = (b.0 ∙ sym c.0, append_cancel_left bytes r s (sym b.1 ∙ c.1))
one-token (mark byte) v w text r s b c =
    let whole : byte ∷ r ≡ byte ∷ s = sym b.1 ∙ c.1 in
    (b.0 ∙ sym c.0, cc)
one-token (number low high) v w text r s b c =
    let first = decimal-digits v (small-wide v b.0) in
    let second = decimal-digits w (small-wide w c.0) in
    let parts = one-word (decimal v) (decimal w) r s first.bytes second.bytes b.2 c.2 (sym b.1 ∙ c.1) in
    (decimal-one v w b.0 c.0 parts.0, parts.1)

-- where the token is there, what is wrong is wrong behind it
pub past : (slot : Slot) (rest : ℕ → Format) (v : ℕ) (text behind : List ℕ) (at : ℕ) (fault : CertTextFault) → Meets slot v text behind
    → HasFault (token slot rest) text at fault → HasFault (rest v) behind (at + length (spelled slot v)) fault
past slot rest v text behind at fault meets (inl (inl none)) = absurd (none.0 v behind meets.begins)
past slot rest v text behind at fault meets (inl (inr out)) =
    absurd (out.3 (subst (IsInSlot slot) (one-token slot v out.0 text behind out.1 meets.begins out.2).0 meets.range))
past slot rest v text behind at fault meets (inr found) =
    let same = one-token slot v found.0 text behind found.1 meets.begins found.2.begins in
    subst (λ (w : ℕ). HasFault (rest w) behind (at + length (spelled slot w)) fault) (sym same.0)
    (subst (λ (b : List ℕ). HasFault (rest found.0) b (at + length (spelled slot found.0)) fault) (sym same.1) found.3)
