-- The words behind a place of a text, byte by byte: how a cursor's place stands for the words left.
use Rattle.std.specs.Prelude.{ℕ, ◌+◌, ◌≤◌, Bool, true, not, ◌&&◌, ◌||◌, ◌==◌, if◌then◌else◌, List, [], ◌∷◌, ◌++◌, length}
use Rattle.wdf_text.specs.declared.cursor.TheConstants.{MAX_TEXT}
use Rattle.wdf_text.specs.declared.word.Word.{Word}
use Rattle.wdf_text.specs.declared.place.Place.{Place}
use Rattle.wdf_text.specs.Words.{is_blank, is_line_end, word_here}

-- a line ends before this text
abbrev pub ends_line : List ℕ → Bool
ends_line [] = true
ends_line (b ∷ _) = is_line_end b

-- the byte parts words within a line, or it is the CR that ends the line before `rest`
abbrev pub is_between : ℕ → List ℕ → Bool
is_between b rest = is_blank b || (b == 13 && ends_line rest)

-- the byte is a word's
abbrev pub is_word_byte : ℕ → List ℕ → Bool
is_word_byte b rest = not (is_line_end b) && not (is_between b rest)

-- the words of a text behind the `len` bytes of a word that begins at `start`, in this line and column
abbrev pub words_after : List ℕ → ℕ → ℕ → ℕ → ℕ → List Word
words_after [] line start column len = word_here line start column len
words_after (b ∷ rest) line start column len =
    if is_line_end b then word_here line start column len ++ words_after rest (line + 1) (start + len + 1) 1 0
    else (if is_between b rest then word_here line start column len ++ words_after rest line (start + len + 1) (column + len + 1) 0
    else words_after rest line start column (len + 1))

-- a place is in the text, and its line and column are no further than its offset
pub record IsPlaced (text : List ℕ) (place : Place) : Type 0 where
  pub within : place.at ≤ length text
  pub line : place.line ≤ place.at + 1
  pub column : place.column ≤ place.at + 1

-- what a cursor keeps
pub record IsKept (text : List ℕ) (place : Place) : Type 0 where
  pub short : length text ≤ MAX_TEXT
  pub placed : IsPlaced text place
