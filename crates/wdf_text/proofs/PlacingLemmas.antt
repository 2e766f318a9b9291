-- The words behind a place, one byte further.
use Rattle.std.proofs.Common.{◌≡◌, ℕ, ◌+◌, ◌<◌, ◌≤◌, Bool, true, false, not, List, [], ◌∷◌, ◌++◌, length, get_or, drop, refl, sym, ap, ◌∙◌, inl, inr, arith, add-one, add-zero, drop-cons}
use Rattle.std.proofs.lemmas.Bool.{cond-true, cond-false, eq-eqb, ne_eqb, not-true, not-false, and_cases, and_parts, false≢true}
use Rattle.wdf_text.specs.declared.word.Word.{Word}
use Rattle.wdf_text.specs.Words.{is_line_end, word_here}
use Rattle.wdf_text.specs.Placing.{is_between, is_word_byte, words_after}

-- the three steps
pub step_line : (b : ℕ) (rest : List ℕ) (line start column len : ℕ) → is_line_end b ≡ true
    → words_after (b ∷ rest) line start column len ≡ word_here line start column len ++ words_after rest (line + 1) (start + len + 1) 1 0
step_line b rest line start column len end = cond-true _ _ _ end

pub step_between : (b : ℕ) (rest : List ℕ) (line start column len : ℕ) → is_line_end b ≡ false → is_between b rest ≡ true
    → words_after (b ∷ rest) line start column len ≡ word_here line start column len ++ words_after rest line (start + len + 1) (column + len + 1) 0
step_between b rest line start column len inside between = cond-false _ _ _ inside ∙ cond-true _ _ _ between

pub step_word : (b : ℕ) (rest : List ℕ) (line start column len : ℕ) → is_line_end b ≡ false → is_between b rest ≡ false
    → words_after (b ∷ rest) line start column len ≡ words_after rest line start column (len + 1)
step_word b rest line start column len inside word = cond-false _ _ _ inside ∙ cond-false _ _ _ word

-- a word's byte is no line end and is not between words
pub of_word : (b : ℕ) (rest : List ℕ) → is_word_byte b rest ≡ true → (is_line_end b ≡ false) × (is_between b rest ≡ false)
of_word b rest here = let parts = and_parts (not (is_line_end b)) (not (is_between b rest)) here in (not-true _ parts.0, not-true _ parts.1)

-- another byte that ends no line is between words
pub of_between : (b : ℕ) (rest : List ℕ) → is_word_byte b rest ≡ false → is_line_end b ≡ false → is_between b rest ≡ true
of_between b rest other inside =
    elim (and_cases (not (is_line_end b)) (not (is_between b rest)) other) [
      | inl h ↦ absurd (false≢true (sym inside ∙ not-false _ h))
      | inr h ↦ not-false _ h
    ]

-- what is behind an offset is its byte and what is behind that
pub behind : (text : List ℕ) (at : ℕ) → at < length text → drop at text ≡ get_or text at 0 ∷ drop (at + 1) text
behind text at within = drop-cons text at 0 within ∙ ap (λ (n : ℕ). get_or text at 0 ∷ drop n text) (sym (add-one at))

-- over a line end, where no word is begun
pub over_line : (text : List ℕ) (line at column : ℕ) → at < length text → get_or text at 0 ≡ 10
    → words_after (drop (at + 1) text) (line + 1) (at + 1) 1 0 ≡ words_after (drop at text) line at column 0
over_line text line at column within end =
    sym (ap (λ (l : List ℕ). words_after l line at column 0) (behind text at within)
    ∙ step_line (get_or text at 0) (drop (at + 1) text) line at column 0 (eq-eqb _ 10 end)
    ∙ ap (λ (n : ℕ). words_after (drop (at + 1) text) (line + 1) (n + 1) 1 0) (add-zero at))

-- over a byte between words
pub over_between : (text : List ℕ) (line at column : ℕ) → at < length text → (get_or text at 0 ≡ 10 → ⊥) → is_word_byte (get_or text at 0) (drop (at + 1) text) ≡ false
    → words_after (drop (at + 1) text) line (at + 1) (column + 1) 0 ≡ words_after (drop at text) line at column 0
over_between text line at column within inside other =
    let same = ne_eqb (get_or text at 0) 10 inside in
    sym (ap (λ (l : List ℕ). words_after l line at column 0) (behind text at within)
    ∙ step_between (get_or text at 0) (drop (at + 1) text) line at column 0 same (of_between (get_or text at 0) (drop (at + 1) text) other same)
    ∙ (λ i. words_after (drop (at + 1) text) line (add-zero at i + 1) (add-zero column i + 1) 0))

-- over a byte of a word
pub over_word : (text : List ℕ) (line start column len at : ℕ) → at < length text → is_word_byte (get_or text at 0) (drop (at + 1) text) ≡ true
    → words_after (drop at text) line start column len ≡ words_after (drop (at + 1) text) line start column (len + 1)
over_word text line start column len at within here =
    let word = of_word (get_or text at 0) (drop (at + 1) text) here in
    ap (λ (l : List ℕ). words_after l line start column len) (behind text at within) ∙ step_word (get_or text at 0) (drop (at + 1) text) line start column len word.0 word.1

-- some bytes make a word
pub word_here_some : (line start column len : ℕ) → 1 ≤ len → word_here line start column len ≡ record { start = start; len = len; line = line; column = column } ∷ []
word_here_some line start column len some = cond-false _ _ _ (ne_eqb len 0 (λ (e : len ≡ 0). omega arith))

-- no byte of a word follows
abbrev pub EndsWord : List ℕ → Type 0
EndsWord [] = Unit {0}
EndsWord (b ∷ rest) = is_word_byte b rest ≡ false

-- the bytes of a word that ends make the first of the words
pub word_ends : (rest : List ℕ) (line start column len : ℕ) → 1 ≤ len → EndsWord rest
    → words_after rest line start column len ≡ record { start = start; len = len; line = line; column = column } ∷ words_after rest line (start + len) (column + len) 0
word_ends [] line start column len some end = word_here_some line start column len some
word_ends (b ∷ rest) line start column len some end = by (is_line_end b) refl
  where
    by : (t : Bool) → is_line_end b ≡ t
        → words_after (b ∷ rest) line start column len ≡ record { start = start; len = len; line = line; column = column } ∷ words_after (b ∷ rest) line (start + len) (column + len) 0
    by true h =
        step_line b rest line start column len h
        ∙ (λ i. word_here_some line start column len some i ++ words_after rest (line + 1) (start + len + 1) 1 0)
        ∙ ap (λ (ws : List Word). record { start = start; len = len; line = line; column = column } ∷ ws)
        (sym (step_line b rest line (start + len) (column + len) 0 h ∙ (λ i. words_after rest (line + 1) (add-zero (start + len) i + 1) 1 0)))
    by false h =
        step_between b rest line start column len h (of_between b rest end h)
        ∙ (λ i. word_here_some line start column len some i ++ words_after rest line (start + len + 1) (column + len + 1) 0)
        ∙ ap (λ (ws : List Word). record { start = start; len = len; line = line; column = column } ∷ ws)
        (sym (step_between b rest line (start + len) (column + len) 0 h (of_between b rest end h) ∙ (λ i. words_after rest line (add-zero (start + len) i + 1) (add-zero (column + len) i + 1) 0)))
