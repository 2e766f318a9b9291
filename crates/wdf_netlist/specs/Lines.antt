-- The lines of a netlist's text: its words, those of one line together, without empty lines and comments.
use Rattle.std.specs.Prelude.{ℕ, ◌+◌, Bool, not, ◌==◌, if◌then◌else◌, List, [], ◌∷◌, map, filter, slice_range, slice_index_or}
use Rattle.wdf_text.specs.declared.word.Word.{Word}
use Rattle.wdf_text.specs.Words.{words_of}

-- a word with its place
pub record LineWord : Type 0 where
  pub bytes : List ℕ
  pub line : ℕ
  pub column : ℕ

-- a line with words: the first, and those behind it
pub record Line : Type 0 where
  pub first : LineWord
  pub rest : List LineWord

abbrev pub word_in : List ℕ → Word → LineWord
word_in text w = record { bytes = slice_range text w.start (w.start + w.len); line = w.line; column = w.column }

-- a word before lines: in the first of them, where that is its line
abbrev pub before_lines : LineWord → List Line → List Line
before_lines w [] = record { first = w; rest = [] } ∷ []
before_lines w (l ∷ ls) =
    if w.line == l.first.line then record { first = w; rest = l.first ∷ l.rest } ∷ ls else record { first = w; rest = [] } ∷ l ∷ ls

-- words of one line together
abbrev pub by_line : List LineWord → List Line
by_line [] = []
by_line (w ∷ ws) = before_lines w (by_line ws)

-- a line whose first word begins with `*`
abbrev pub is_comment : Line → Bool
is_comment l = slice_index_or l.first.bytes 0 0 == 42

abbrev pub lines_of : List ℕ → List Line
lines_of text = filter (λ (l : Line). not (is_comment l)) (by_line (map (word_in text) (words_of text)))
