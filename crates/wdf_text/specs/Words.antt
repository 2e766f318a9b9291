-- The words of a text. The text is cut into lines at each LF, one CR at the end of a line is dropped,
-- and what is left is cut at each space and tab; the parts that are not empty are the words.
use Rattle.std.specs.Prelude.{ℕ, ◌+◌, Bool, ◌||◌, ◌==◌, if◌then◌else◌, List, [], ◌∷◌, ◌++◌, length}
use Rattle.std.specs.List.{slice_split}
use Rattle.std.specs.Str.Lines.{strip_carriage_return}
use Rattle.wdf_text.specs.declared.word.Word.{Word}

-- LF
abbrev pub is_line_end : ℕ → Bool
is_line_end b = b == 10

-- a space or a tab
abbrev pub is_blank : ℕ → Bool
is_blank b = b == 32 || b == 9

-- the word of `len` bytes that begins here; none where len is 0
abbrev pub word_here : ℕ → ℕ → ℕ → ℕ → List Word
word_here line start column len =
    if len == 0 then [] else record { start = start; len = len; line = line; column = column } ∷ []

-- the words among the parts of a line, each part one byte behind the part before it; the first begins
-- `start` bytes behind the front of the text, at this column
abbrev pub words_of_parts : List (List ℕ) → ℕ → ℕ → ℕ → List Word
words_of_parts [] line start column = []
words_of_parts (part ∷ parts) line start column =
    word_here line start column (length part) ++ words_of_parts parts line (start + length part + 1) (column + length part + 1)

-- the words of a line that begins `start` bytes behind the front of the text
abbrev pub words_of_line : List ℕ → ℕ → ℕ → List Word
words_of_line text line start = words_of_parts (slice_split is_blank (strip_carriage_return text)) line start 1

-- the words of lines, of which the first has this number
abbrev pub words_of_lines : List (List ℕ) → ℕ → ℕ → List Word
words_of_lines [] line start = []
words_of_lines (text ∷ texts) line start =
    words_of_line text line start ++ words_of_lines texts (line + 1) (start + length text + 1)

-- the words of a text; lines and columns count from 1
abbrev pub words_of : List ℕ → List Word
words_of text = words_of_lines (slice_split is_line_end text) 1 0
