-- The words met byte by byte are the words of the text that is cut into lines and parts.
use Rattle.std.proofs.Common.{◌≡◌, ℕ, ◌+◌, ◌-◌, suc, Bool, true, false, cond, ◌&&◌, eqb, List, [], ◌∷◌, ◌++◌, length, get_or, take, refl, sym, ap, ◌∙◌, arith, add-zero, zero-add, append_assoc, append-nil}
use Rattle.std.specs.List.{slice_split, onto_first}
use Rattle.std.specs.Str.Lines.{strip_carriage_return}
use Rattle.std.proofs.lemmas.List.Splits.{slice_split-cons_yes, slice_split-cons_no}
use Rattle.std.proofs.lemmas.Bool.{cond-true, cond-false, ne_eqb, and_parts, or_left, or_right, or_from, false≢true}
use Rattle.wdf_text.specs.declared.word.Word.{Word}
use Rattle.wdf_text.specs.Words.{is_blank, is_line_end, word_here, words_of, words_of_lines, words_of_parts}
use Rattle.wdf_text.specs.Placing.{ends_line, is_between, words_after}
use Rattle.wdf_text.proofs.PlacingLemmas.{step_between, step_line, step_word}

-- the words of the parts of a line, where `len` bytes of a word stand before the first part
abbrev open_words : List (List ℕ) → ℕ → ℕ → ℕ → ℕ → List Word
open_words [] line start column len = []
open_words (part ∷ parts) line start column len =
    word_here line start column (len + length part) ++ words_of_parts parts line (start + (len + length part) + 1) (column + (len + length part) + 1)

-- the words of lines, where `len` bytes of a word stand before the first line
abbrev open_lines : List (List ℕ) → ℕ → ℕ → ℕ → ℕ → List Word
open_lines [] line start column len = []
open_lines (text ∷ texts) line start column len =
    open_words (slice_split is_blank (strip_carriage_return text)) line start column len ++ words_of_lines texts (line + 1) (start + (len + length text) + 1)

open_words_none : (parts : List (List ℕ)) (line start column : ℕ) → open_words parts line start column 0 ≡ words_of_parts parts line start column
open_words_none [] line start column = refl
open_words_none (part ∷ parts) line start column =
    let e = zero-add (length part) in
    λ i. word_here line start column (e i) ++ words_of_parts parts line (start + e i + 1) (column + e i + 1)

open_lines_none : (texts : List (List ℕ)) (line start : ℕ) → open_lines texts line start 1 0 ≡ words_of_lines texts line start
open_lines_none [] line start = refl
open_lines_none (text ∷ texts) line start =
    let e = zero-add (length text) in
    λ i. open_words_none (slice_split is_blank (strip_carriage_return text)) line start 1 i ++ words_of_lines texts (line + 1) (start + e i + 1)

-- a cut always gives a first part
split_first : (p : ℕ → Bool) (xs : List ℕ) → (part : List ℕ) × (parts : List (List ℕ)) × (slice_split p xs ≡ part ∷ parts)
split_first p [] = ([], [], refl)
split_first p (x ∷ xs) = by (p x) refl (split_first p xs)
  where
    by : (t : Bool) → p x ≡ t → ((part : List ℕ) × (parts : List (List ℕ)) × (slice_split p xs ≡ part ∷ parts))
        → (part : List ℕ) × (parts : List (List ℕ)) × (slice_split p (x ∷ xs) ≡ part ∷ parts)
    by true h f = ([], slice_split p xs, slice_split-cons_yes p x xs h)
    by false h f = (x ∷ f.0, f.1, slice_split-cons_no p x xs h ∙ ap (onto_first x) f.2)

abbrev front : List (List ℕ) → List ℕ
front [] = []
front (part ∷ _) = part

-- a line ends here exactly where the first part is empty
ends_first : (xs part : List ℕ) (parts : List (List ℕ)) → slice_split is_line_end xs ≡ part ∷ parts → ends_line xs ≡ eqb (length part) 0
ends_first [] part parts e = ap (λ (l : List (List ℕ)). eqb (length (front l)) 0) e
ends_first (x ∷ xs) part parts e = by (is_line_end x) refl (split_first is_line_end xs)
  where
    by : (t : Bool) → is_line_end x ≡ t → ((part' : List ℕ) × (parts' : List (List ℕ)) × (slice_split is_line_end xs ≡ part' ∷ parts')) → is_line_end x ≡ eqb (length part) 0
    by true h f = h ∙ ap (λ (l : List (List ℕ)). eqb (length (front l)) 0) (sym (slice_split-cons_yes is_line_end x xs h) ∙ e)
    by false h f =
        h ∙ sym (ne_eqb (length (x ∷ f.0)) 0 (λ (z : length (x ∷ f.0) ≡ 0). omega arith))
        ∙ ap (λ (l : List (List ℕ)). eqb (length (front l)) 0) (sym (slice_split-cons_no is_line_end x xs h ∙ ap (onto_first x) f.2) ∙ e)

-- a byte before a line, where it is no carriage return at the line's end
abbrev stripped : List ℕ → ℕ → List ℕ
stripped xs k = cond (eqb (get_or xs k 0) 13) (take k xs) xs

strip-cons : (b : ℕ) (part : List ℕ) → (eqb b 13 && eqb (length part) 0) ≡ false → strip_carriage_return (b ∷ part) ≡ b ∷ strip_carriage_return part
strip-cons b [] other = cond-false _ _ _ (by (eqb b 13) other)
  where
    by : (t : Bool) → (t && true) ≡ false → t ≡ false
    by true h = h
    by false h = refl
strip-cons b (x ∷ xs) other =
    let long : length (b ∷ x ∷ xs) - 1 ≡ suc (length xs) = omega arith in
    let short : length (x ∷ xs) - 1 ≡ length xs = omega arith in
    ap (stripped (b ∷ x ∷ xs)) long ∙ by (eqb (get_or (x ∷ xs) (length xs) 0) 13) ∙ ap (λ (k : ℕ). b ∷ stripped (x ∷ xs) k) (sym short)
  where
    by : (t : Bool) → cond t (take (suc (length xs)) (b ∷ x ∷ xs)) (b ∷ x ∷ xs) ≡ b ∷ cond t (take (length xs) (x ∷ xs)) (x ∷ xs)
    by true = refl
    by false = refl

-- what `open_lines` gives at a first line and the others
abbrev Opened : List ℕ → List ℕ → List (List ℕ) → Type 0
Opened rest part parts = (line start column len : ℕ) → words_after rest line start column len ≡ open_lines (part ∷ parts) line start column len

-- a line end before the rest
cut_line : (b : ℕ) (rest : List ℕ) (line start column len : ℕ) → is_line_end b ≡ true
    → words_after rest (line + 1) (start + len + 1) 1 0 ≡ open_lines (slice_split is_line_end rest) (line + 1) (start + len + 1) 1 0
    → words_after (b ∷ rest) line start column len ≡ open_lines (slice_split is_line_end (b ∷ rest)) line start column len
cut_line b rest line start column len end ih =
    let lines = slice_split is_line_end rest in
    let e = sym (add-zero len) in
    step_line b rest line start column len end
    ∙ ap (λ (ws : List Word). word_here line start column len ++ ws) (ih ∙ open_lines_none lines (line + 1) (start + len + 1))
    ∙ (λ i. sym (append-nil (word_here line start column (e i))) i ++ words_of_lines lines (line + 1) (start + e i + 1))
    ∙ ap (λ (ls : List (List ℕ)). open_lines ls line start column len) (sym (slice_split-cons_yes is_line_end b rest end))

-- a blank before the rest
cut_blank : (b : ℕ) (rest part : List ℕ) (parts : List (List ℕ)) (line start column len : ℕ) → is_line_end b ≡ false → is_between b rest ≡ true → is_blank b ≡ true
    → (eqb b 13 && eqb (length part) 0) ≡ false
    → Opened rest part parts
    → words_after (b ∷ rest) line start column len ≡ open_lines ((b ∷ part) ∷ parts) line start column len
cut_blank b rest part parts line start column len inside between blank other ih =
    let ps = slice_split is_blank (strip_carriage_return part) in
    let e = sym (add-zero len) in
    let long : start + len + 1 + (0 + length part) + 1 ≡ start + (len + length (b ∷ part)) + 1 = omega arith in
    let here = word_here line start column in
    step_between b rest line start column len inside between
    ∙ ap (λ (ws : List Word). here len ++ ws) (ih line (start + len + 1) (column + len + 1) 0)
    ∙ (λ i. here (e i) ++ (open_words_none ps line (start + e i + 1) (column + e i + 1) i ++ words_of_lines parts (line + 1) (long i)))
    ∙ sym (append_assoc (here (len + 0)) (words_of_parts ps line (start + (len + 0) + 1) (column + (len + 0) + 1)) (words_of_lines parts (line + 1) (start + (len + length (b ∷ part)) + 1)))
    ∙ ap (λ (qs : List (List ℕ)). open_words qs line start column len ++ words_of_lines parts (line + 1) (start + (len + length (b ∷ part)) + 1))
    (sym (ap (slice_split is_blank) (strip-cons b part other) ∙ slice_split-cons_yes is_blank b (strip_carriage_return part) blank))

-- a carriage return at the end of a line before the rest
cut_return : (b : ℕ) (rest part : List ℕ) (parts : List (List ℕ)) (line start column len : ℕ) → is_line_end b ≡ false → is_between b rest ≡ true → eqb b 13 ≡ true
    → eqb (length part) 0 ≡ true
    → Opened rest part parts
    → words_after (b ∷ rest) line start column len ≡ open_lines ((b ∷ part) ∷ parts) line start column len
cut_return b rest (x ∷ xs) parts line start column len inside between is empty ih =
    absurd (false≢true (sym (ne_eqb (length (x ∷ xs)) 0 (λ (z : length (x ∷ xs) ≡ 0). omega arith)) ∙ empty))
cut_return b rest [] parts line start column len inside between is empty ih =
    let e = sym (add-zero len) in
    let long : start + len + 1 + (0 + 0) + 1 ≡ start + (len + 1) + 1 = omega arith in
    let here = word_here line start column in
    step_between b rest line start column len inside between
    ∙ ap (λ (ws : List Word). here len ++ ws) (ih line (start + len + 1) (column + len + 1) 0)
    ∙ (λ i. sym (append-nil (here (e i))) i ++ words_of_lines parts (line + 1) (long i))
    ∙ ap (λ (qs : List (List ℕ)). open_words qs line start column len ++ words_of_lines parts (line + 1) (start + (len + 1) + 1))
    (sym (ap (slice_split is_blank) (cond-true _ _ _ is)))

-- a byte of a word before the rest
cut_word : (b : ℕ) (rest part : List ℕ) (parts : List (List ℕ)) (line start column len : ℕ) → is_line_end b ≡ false → is_between b rest ≡ false → is_blank b ≡ false
    → (eqb b 13 && eqb (length part) 0) ≡ false
    → Opened rest part parts
    → words_after (b ∷ rest) line start column len ≡ open_lines ((b ∷ part) ∷ parts) line start column len
cut_word b rest part parts line start column len inside word blank other ih =
    let f = split_first is_blank (strip_carriage_return part) in
    let one : len + 1 + length f.0 ≡ len + length (b ∷ f.0) = omega arith in
    let long : len + 1 + length part ≡ len + length (b ∷ part) = omega arith in
    let lines = words_of_lines parts (line + 1) in
    step_word b rest line start column len inside word
    ∙ ih line start column (len + 1)
    ∙ ap (λ (qs : List (List ℕ)). open_words qs line start column (len + 1) ++ lines (start + (len + 1 + length part) + 1)) f.2
    ∙ (λ i. (word_here line start column (one i) ++ words_of_parts f.1 line (start + one i + 1) (column + one i + 1)) ++ lines (start + long i + 1))
    ∙ ap (λ (qs : List (List ℕ)). open_words qs line start column len ++ lines (start + (len + length (b ∷ part)) + 1))
    (sym (ap (slice_split is_blank) (strip-cons b part other) ∙ slice_split-cons_no is_blank b (strip_carriage_return part) blank ∙ ap (onto_first b) f.2))

-- a byte that ends no line before the rest
cut_inside : (b : ℕ) (rest part : List ℕ) (parts : List (List ℕ)) (line start column len : ℕ) → is_line_end b ≡ false → ends_line rest ≡ eqb (length part) 0
    → Opened rest part parts
    → words_after (b ∷ rest) line start column len ≡ open_lines ((b ∷ part) ∷ parts) line start column len
cut_inside b rest part parts line start column len inside ends ih = by (is_blank b) (eqb b 13 && eqb (length part) 0) refl refl
  where
    same : (eqb b 13 && ends_line rest) ≡ (eqb b 13 && eqb (length part) 0)
    same = ap (λ (t : Bool). eqb b 13 && t) ends

    by : (t u : Bool) → is_blank b ≡ t → (eqb b 13 && eqb (length part) 0) ≡ u
        → words_after (b ∷ rest) line start column len ≡ open_lines ((b ∷ part) ∷ parts) line start column len
    by true false h g = cut_blank b rest part parts line start column len inside (or_left _ _ h) h g ih
    by t true h g =
        let both = and_parts (eqb b 13) (eqb (length part) 0) g in
        cut_return b rest part parts line start column len inside (or_right _ _ (same ∙ g)) both.0 both.1 ih
    by false false h g = cut_word b rest part parts line start column len inside (or_from _ _ h (same ∙ g)) h g ih

cut : (text : List ℕ) (line start column len : ℕ) → words_after text line start column len ≡ open_lines (slice_split is_line_end text) line start column len
cut [] line start column len =
    ap (word_here line start column) (sym (add-zero len)) ∙ sym (append-nil (word_here line start column (len + 0))) ∙ sym (append-nil (word_here line start column (len + 0) ++ []))
cut (b ∷ rest) line start column len = by (is_line_end b) refl (cut rest)
  where
    by : (t : Bool) → is_line_end b ≡ t
        → ((line' start' column' len' : ℕ) → words_after rest line' start' column' len' ≡ open_lines (slice_split is_line_end rest) line' start' column' len')
        → words_after (b ∷ rest) line start column len ≡ open_lines (slice_split is_line_end (b ∷ rest)) line start column len
    by true h ih = cut_line b rest line start column len h (ih (line + 1) (start + len + 1) 1 0)
    by false h ih =
        let f = split_first is_line_end rest in
        let opened : Opened rest f.0 f.1 = λ l s k n. ih l s k n ∙ ap (λ (ls : List (List ℕ)). open_lines ls l s k n) f.2 in
        cut_inside b rest f.0 f.1 line start column len h (ends_first rest f.0 f.1 f.2) opened
        ∙ ap (λ (ls : List (List ℕ)). open_lines ls line start column len) (sym (slice_split-cons_no is_line_end b rest h ∙ ap (onto_first b) f.2))

-- from the front of a text on
pub cut_text : (text : List ℕ) → words_after text 1 0 1 0 ≡ words_of text
cut_text text = cut text 1 0 1 0 ∙ open_lines_none (slice_split is_line_end text) 1 0
