-- Formats: texts that are read token by token, and the first token that is not the expected one. A word is the longest
-- run of bytes without space and LF.
use Rattle.std.specs.Prelude.{◌≡◌, ◌⊎◌, ℕ, ◌+◌, ◌^◌, ◌<◌, ◌≤◌, Bool, true, not, ◌||◌, ◌==◌, List, [], ◌∷◌, ◌++◌, length, decimal}
use Rattle.wdf_cert.specs.declared.cert_text_fault.CertTextFault.{CertTextFault}
use Rattle.wdf_cert.specs.declared.cert_text_fault.CertTextFault.TheVariants.{Syntax, Range}

-- what is expected: this word, this byte between words, or a number in this range
pub data Slot : Type 0 where
  word : (bytes : List ℕ) → Slot
  mark : (byte : ℕ) → Slot
  number : (low high : ℕ) → Slot

-- what is expected of a text: that it ends here; that it ends here or goes on; a token, and then what its number says
pub data Format : Type 0 where
  finish : Format
  finish_or : (more : Format) → Format
  token : (slot : Slot) (rest : ℕ → Format) → Format

-- a byte of a word
abbrev pub is_word_byte : ℕ → Bool
is_word_byte b = not (b == 32 || b == 10)

-- a word ends before this text
abbrev pub ends_word : List ℕ → Bool
ends_word [] = true
ends_word (b ∷ rest) = not (is_word_byte b)

-- the bytes of a token; v is its number, and 0 where it is none
abbrev pub spelled : Slot → ℕ → List ℕ
spelled (word bytes) v = bytes
spelled (mark byte) v = byte ∷ []
spelled (number low high) v = decimal v

-- the text begins with a token of this kind, whose number has at most 20 digits, and `rest` stands behind it
abbrev pub Begins : Slot → ℕ → List ℕ → List ℕ → Type 0
Begins (word bytes) v text rest = (v ≡ 0) × (text ≡ bytes ++ rest) × (ends_word rest ≡ true)
Begins (mark byte) v text rest = (v ≡ 0) × (text ≡ byte ∷ rest)
Begins (number low high) v text rest = (v < 10 ^ 20) × (text ≡ decimal v ++ rest) × (ends_word rest ≡ true)

-- a number is in its range
abbrev pub IsInSlot : Slot → ℕ → Type 0
IsInSlot (word bytes) v = Unit {0}
IsInSlot (mark byte) v = Unit {0}
IsInSlot (number low high) v = (low ≤ v) × (v ≤ high)

-- the token is there, with this number in its range
pub record Meets (slot : Slot) (v : ℕ) (text rest : List ℕ) : Type 0 where
  pub begins : Begins slot v text rest
  pub range : IsInSlot slot v

-- the text at this offset does not begin with the token: it is another, or its number is out of range
abbrev pub Misses : Slot → List ℕ → ℕ → CertTextFault → Type 0
Misses slot text at fault =
    (((v : ℕ) (rest : List ℕ) → Begins slot v text rest → ⊥) × (fault ≡ Syntax at))
    ⊎ ((v : ℕ) × (rest : List ℕ) × Begins slot v text rest × (IsInSlot slot v → ⊥) × (fault ≡ Range at))

-- the first token of a text, at this offset of the whole, that is not the expected one, has this fault; the end of the text
-- counts as such a place
abbrev pub HasFault : Format → List ℕ → ℕ → CertTextFault → Type 0
HasFault finish text at fault = (text ≡ [] → ⊥) × (fault ≡ Syntax at)
HasFault (finish_or more) text at fault = (text ≡ [] → ⊥) × HasFault more text at fault
HasFault (token slot rest) text at fault =
    Misses slot text at fault
    ⊎ ((v : ℕ) × (behind : List ℕ) × Meets slot v text behind × HasFault (rest v) behind (at + length (spelled slot v)) fault)
