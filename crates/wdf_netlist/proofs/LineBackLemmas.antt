-- The lines of a text of lines: what is printed is cut back.
use Rattle.std.proofs.Common.{◌≡◌, ℕ, ◌+◌, ◌-◌, ◌≤◌, true, false, not, eqb, List, [], ◌∷◌, ◌++◌, length, take, drop, get_or, map, filter, refl, sym, ap, ◌∙◌, arith, append_assoc, append-nil, length-append}
use Rattle.std.specs.Prelude.{All, flat_map, slice_range}
use Rattle.std.specs.List.{slice_split}
use Rattle.std.specs.Str.Lines.{strip_carriage_return}
use Rattle.std.proofs.lemmas.Bool.{cond-false, cond-true, eq-eqb, ne_eqb}
use Rattle.std.proofs.lemmas.List.{drop_at, take_at, map-append}
use Rattle.std.proofs.lemmas.List.Elements.{All-append, All-cons, All-tail}
use Rattle.std.proofs.lemmas.List.Splits.{slice_split_at, slice_split_none}
use Rattle.wdf_text.specs.declared.word.Word.{Word}
use Rattle.wdf_text.specs.Words.{is_blank, is_line_end, word_here, words_of_line, words_of_lines, words_of_parts}
use Rattle.wdf_netlist.specs.Canonical.{Words, line_text, lines_text}
use Rattle.wdf_netlist.specs.Lines.{Line, LineWord, before_lines, by_line, is_comment, lines_of, word_in}

-- ---- plain words and lines

-- a byte that parts no words and ends no line
pub record IsPlainByte (b : ℕ) : Type 0 where
  pub no_end : is_line_end b ≡ false
  pub no_blank : is_blank b ≡ false
  pub no_return : eqb b 13 ≡ false

pub record IsPlainWord (w : List ℕ) : Type 0 where
  pub some : 1 ≤ length w
  pub few : length w ≤ 40
  pub bytes : All IsPlainByte w

-- a line of at most five plain words that is no comment
pub record IsPlainLine (l : Words) : Type 0 where
  pub few : length l.rest ≤ 4
  pub first : IsPlainWord l.first
  pub rest : All IsPlainWord l.rest
  pub statement : eqb (get_or l.first 0 0) 42 ≡ false

-- ---- the lines with their places

abbrev pub words_at : List (List ℕ) → ℕ → ℕ → List LineWord
words_at [] line column = []
words_at (w ∷ ws) line column = record { bytes = w; line = line; column = column } ∷ words_at ws line (column + length w + 1)

-- the line with this number
abbrev pub line_at : Words → ℕ → Line
line_at l line = record { first = record { bytes = l.first; line = line; column = 1 }; rest = words_at l.rest line (1 + length l.first + 1) }

abbrev pub lines_at : List Words → ℕ → List Line
lines_at [] line = []
lines_at (l ∷ ls) line = line_at l line ∷ lines_at ls (line + 1)

-- the words of the lines with their places
abbrev all_words_at : List Words → ℕ → List LineWord
all_words_at [] line = []
all_words_at (l ∷ ls) line = words_at (l.first ∷ l.rest) line 1 ++ all_words_at ls (line + 1)

-- ---- cutting

abbrev spaced : List (List ℕ) → List ℕ
spaced ws = flat_map (λ (word : List ℕ). 32 ∷ word) ws

-- a line without its end
abbrev body : Words → List ℕ
body l = l.first ++ spaced l.rest

-- the bytes of words, blanks between them
abbrev IsInner : ℕ → Type 0
IsInner b = (is_line_end b ≡ false) × (eqb b 13 ≡ false)

inner_word : (w : List ℕ) → IsPlainWord w → All IsInner w
inner_word w p k d within = ((p.bytes k d within).no_end, (p.bytes k d within).no_return)

inner_words : (ws : List (List ℕ)) → All IsPlainWord ws → All IsInner (spaced ws)
inner_words [] plain = λ k d within. absurd (omega arith)
inner_words (w ∷ ws) plain =
    All-append IsInner (32 ∷ w) (spaced ws) (All-cons IsInner 32 w (refl, refl) (inner_word w (plain 0 w (omega arith)))) (inner_words ws (All-tail IsPlainWord w ws plain))

inner_line : (l : Words) → IsPlainLine l → All IsInner (body l)
inner_line l p = All-append IsInner l.first (spaced l.rest) (inner_word l.first p.first) (inner_words l.rest p.rest)

-- at the line ends
split_lines : (ls : List Words) → All IsPlainLine ls → slice_split is_line_end (lines_text ls) ≡ map body ls ++ [] ∷ []
split_lines [] plain = refl
split_lines (l ∷ ls) plain =
    let inner = inner_line l (plain 0 l (omega arith)) in
    ap (slice_split is_line_end) (append_assoc (body l) (10 ∷ []) (lines_text ls))
    ∙ slice_split_at is_line_end (body l) 10 (lines_text ls) (λ k d within. (inner k d within).0) refl
    ∙ ap (λ (parts : List (List ℕ)). body l ∷ parts) (split_lines ls (All-tail IsPlainLine l ls plain))

-- at the blanks
split_words : (first : List ℕ) (rest : List (List ℕ)) → IsPlainWord first → All IsPlainWord rest → slice_split is_blank (first ++ spaced rest) ≡ first ∷ rest
split_words first [] p ps = ap (slice_split is_blank) (append-nil first) ∙ slice_split_none is_blank first (λ k d within. (p.bytes k d within).no_blank)
split_words first (w ∷ ws) p ps =
    slice_split_at is_blank first 32 (w ++ spaced ws) (λ k d within. (p.bytes k d within).no_blank) refl
    ∙ ap (λ (parts : List (List ℕ)). first ∷ parts) (split_words w ws (ps 0 w (omega arith)) (All-tail IsPlainWord w ws ps))

-- no carriage return is dropped
no_return : (bytes : List ℕ) → 1 ≤ length bytes → All IsInner bytes → strip_carriage_return bytes ≡ bytes
no_return bytes some inner = cond-false _ _ _ (inner (length bytes - 1) 0 (omega arith)).1

-- ---- places

-- words behind one another
abbrev placed : List (List ℕ) → ℕ → ℕ → ℕ → List Word
placed [] line start column = []
placed (w ∷ ws) line start column = record { start = start; len = length w; line = line; column = column } ∷ placed ws line (start + length w + 1) (column + length w + 1)

placed_words : (ws : List (List ℕ)) (line start column : ℕ) → All IsPlainWord ws → words_of_parts ws line start column ≡ placed ws line start column
placed_words [] line start column plain = refl
placed_words (w ∷ ws) line start column plain =
    let some : 1 ≤ length w = (plain 0 w (omega arith)).some in
    let here : word_here line start column (length w) ≡ record { start = start; len = length w; line = line; column = column } ∷ [] = cond-false _ _ _ (ne_eqb (length w) 0 (λ (e : length w ≡ 0). omega arith)) in
    ap (λ (l : List Word). l ++ words_of_parts ws line (start + length w + 1) (column + length w + 1)) here
    ∙ ap (λ (l : List Word). record { start = start; len = length w; line = line; column = column } ∷ l) (placed_words ws line (start + length w + 1) (column + length w + 1) (All-tail IsPlainWord w ws plain))

placed_line : (l : Words) (line start : ℕ) → IsPlainLine l → words_of_line (body l) line start ≡ placed (l.first ∷ l.rest) line start 1
placed_line l line start p =
    let some : 1 ≤ length (body l) = omega (arith, length-append l.first (spaced l.rest), p.first.some) in
    ap (λ (bytes : List ℕ). words_of_parts (slice_split is_blank bytes) line start 1) (no_return (body l) some (inner_line l p))
    ∙ ap (λ (parts : List (List ℕ)). words_of_parts parts line start 1) (split_words l.first l.rest p.first p.rest)
    ∙ placed_words (l.first ∷ l.rest) line start 1 (All-cons IsPlainWord l.first l.rest p.first p.rest)

-- a word of the text
word_at : (text pre w post : List ℕ) (line start column : ℕ) → text ≡ pre ++ (w ++ post) → start ≡ length pre
    → word_in text (record { start = start; len = length w; line = line; column = column }) ≡ record { bytes = w; line = line; column = column }
word_at text pre w post line start column is at =
    let long : start + length w - start ≡ length w = omega arith in
    let bytes : slice_range text start (start + length w) ≡ w =
    ap (λ (n : ℕ). take n (drop start text)) long
    ∙ ap (λ (l : List ℕ). take (length w) (drop start l)) is
    ∙ ap (take (length w)) (drop_at pre (w ++ post) start (sym at))
    ∙ take_at w post (length w) refl in
    λ i. record { bytes = bytes i; line = line; column = column }

words_are : (text pre first : List ℕ) (rest : List (List ℕ)) (post : List ℕ) (line start column : ℕ) → text ≡ pre ++ ((first ++ spaced rest) ++ post) → start ≡ length pre
    → map (word_in text) (placed (first ∷ rest) line start column) ≡ words_at (first ∷ rest) line column
words_are text pre first [] post line start column is at =
    let e : text ≡ pre ++ (first ++ post) = is ∙ ap (λ (l : List ℕ). pre ++ (l ++ post)) (append-nil first) in
    ap (λ (w : LineWord). w ∷ []) (word_at text pre first post line start column e at)
words_are text pre first (w ∷ ws) post line start column is at =
    let tail = (w ++ spaced ws) ++ post in
    let e : text ≡ pre ++ (first ++ 32 ∷ tail) = is ∙ ap (λ (l : List ℕ). pre ++ l) (append_assoc first (32 ∷ (w ++ spaced ws)) post) in
    let next : text ≡ (pre ++ (first ++ 32 ∷ [])) ++ tail =
    e ∙ ap (λ (l : List ℕ). pre ++ l) (sym (append_assoc first (32 ∷ []) tail)) ∙ sym (append_assoc pre (first ++ 32 ∷ []) tail) in
    let further : start + length first + 1 ≡ length (pre ++ (first ++ 32 ∷ [])) = omega (arith, at, length-append pre (first ++ 32 ∷ []), length-append first (32 ∷ [])) in
    ap (λ (v : LineWord). v ∷ map (word_in text) (placed (w ∷ ws) line (start + length first + 1) (column + length first + 1))) (word_at text pre first (32 ∷ tail) line start column e at)
    ∙ ap (λ (l : List LineWord). record { bytes = first; line = line; column = column } ∷ l) (words_are text (pre ++ (first ++ 32 ∷ [])) w ws post line (start + length first + 1) (column + length first + 1) next further)

all_words : (text pre : List ℕ) (ls : List Words) (line start : ℕ) → text ≡ pre ++ lines_text ls → start ≡ length pre → All IsPlainLine ls
    → map (word_in text) (words_of_lines (map body ls ++ [] ∷ []) line start) ≡ all_words_at ls line
all_words text pre [] line start is at plain = refl
all_words text pre (l ∷ ls) line start is at plain =
    let p : IsPlainLine l = plain 0 l (omega arith) in
    let later = words_of_lines (map body ls ++ [] ∷ []) (line + 1) (start + length (body l) + 1) in
    let e : text ≡ pre ++ (body l ++ 10 ∷ lines_text ls) = is ∙ ap (λ (t : List ℕ). pre ++ t) (append_assoc (body l) (10 ∷ []) (lines_text ls)) in
    let next : text ≡ (pre ++ line_text l) ++ lines_text ls = is ∙ sym (append_assoc pre (line_text l) (lines_text ls)) in
    let further : start + length (body l) + 1 ≡ length (pre ++ line_text l) = omega (arith, at, length-append pre (line_text l), length-append (body l) (10 ∷ [])) in
    ap (λ (ws : List Word). map (word_in text) (ws ++ later)) (placed_line l line start p)
    ∙ map-append (word_in text) (placed (l.first ∷ l.rest) line start 1) later
    ∙ ap (λ (ws : List LineWord). ws ++ map (word_in text) later) (words_are text pre l.first l.rest (10 ∷ lines_text ls) line start 1 e at)
    ∙ ap (λ (ws : List LineWord). words_at (l.first ∷ l.rest) line 1 ++ ws) (all_words text (pre ++ line_text l) ls (line + 1) (start + length (body l) + 1) next further (All-tail IsPlainLine l ls plain))

-- ---- words of one line together

-- a word before lines of higher numbers is a line of its own
before_others : (w : LineWord) (ls : List Words) → before_lines w (lines_at ls (w.line + 1)) ≡ record { first = w; rest = [] } ∷ lines_at ls (w.line + 1)
before_others w [] = refl
before_others w (l ∷ ls) = cond-false _ _ _ (ne_eqb w.line (w.line + 1) (λ (e : w.line ≡ w.line + 1). omega arith))

line_together : (first : List ℕ) (rest : List (List ℕ)) (ls : List Words) (more : List LineWord) (line column : ℕ) → by_line more ≡ lines_at ls (line + 1)
    → by_line (words_at (first ∷ rest) line column ++ more) ≡ record { first = record { bytes = first; line = line; column = column }; rest = words_at rest line (column + length first + 1) } ∷ lines_at ls (line + 1)
line_together first [] ls more line column behind =
    let w : LineWord = record { bytes = first; line = line; column = column } in
    ap (before_lines w) behind ∙ before_others w ls
line_together first (v ∷ vs) ls more line column behind =
    let w : LineWord = record { bytes = first; line = line; column = column } in
    ap (before_lines w) (line_together v vs ls more line (column + length first + 1) behind) ∙ cond-true _ _ _ (eq-eqb line line refl)

lines_together : (ls : List Words) (line : ℕ) → by_line (all_words_at ls line) ≡ lines_at ls line
lines_together [] line = refl
lines_together (l ∷ ls) line = line_together l.first l.rest ls (all_words_at ls (line + 1)) line 1 (lines_together ls (line + 1))

-- no line is a comment
no_comments : (ls : List Words) (line : ℕ) → All IsPlainLine ls → filter (λ (l : Line). not (is_comment l)) (lines_at ls line) ≡ lines_at ls line
no_comments [] line plain = refl
no_comments (l ∷ ls) line plain =
    let here : not (eqb (get_or l.first 0 0) 42) ≡ true = ap not (plain 0 l (omega arith)).statement in
    cond-true _ _ _ here ∙ ap (λ (rest : List Line). line_at l line ∷ rest) (no_comments ls (line + 1) (All-tail IsPlainLine l ls plain))

-- the lines of a text of plain lines are these lines
pub lines_back : (ls : List Words) → All IsPlainLine ls → lines_of (lines_text ls) ≡ lines_at ls 1
lines_back ls plain =
    let text = lines_text ls in
    ap (λ (parts : List (List ℕ)). filter (λ (l : Line). not (is_comment l)) (by_line (map (word_in text) (words_of_lines parts 1 0)))) (split_lines ls plain)
    ∙ ap (λ (ws : List LineWord). filter (λ (l : Line). not (is_comment l)) (by_line ws)) (all_words text [] ls 1 0 refl refl plain)
    ∙ ap (filter (λ (l : Line). not (is_comment l))) (lines_together ls 1)
    ∙ no_comments ls 1 plain
