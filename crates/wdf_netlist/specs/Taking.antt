-- How the words of a text are taken line by line.
use Rattle.std.specs.Prelude.{◌≡◌, ◌≢◌, ℕ, not, List, [], ◌∷◌, ◌++◌, map, filter, Option, Some, None, IfNone, IfSome, All, Result, Ok, Err}
use Rattle.wdf_text.specs.declared.word.Word.{Word}
use Rattle.wdf_netlist.specs.declared.draft.Draft.{Draft}
use Rattle.wdf_netlist.specs.declared.net_fault.NetFault.{NetFault}
use Rattle.wdf_netlist.specs.declared.read_error.ReadError.{ReadError}
use Rattle.wdf_netlist.specs.Drafts.{Fails, Reflects}
use Rattle.wdf_netlist.specs.Lines.{Line, by_line, is_comment, lines_of, word_in}
use Rattle.wdf_netlist.specs.NetlistText.{all_said}
use Rattle.wdf_netlist.specs.Places.{IsWordIn}
use Rattle.wdf_netlist.specs.Statements.{Statement}

-- the word that is read ahead
abbrev pub ahead_words : Option Word → List Word
ahead_words None = []
ahead_words (Some w) = w ∷ []

-- the word behind a line is of another line, or there is none
abbrev pub IsBehindLine : ℕ → Option Word → List Word → Type 0
IsBehindLine line None behind = behind ≡ []
IsBehindLine line (Some w) behind = w.line ≢ line

-- the words of a line behind its first, and what is left
pub record IsLineTaken (first : Word) (before rest : List Word) (ahead : Option Word) (behind : List Word) : Type 0 where
  pub words : before ≡ rest ++ (ahead_words ahead ++ behind)
  pub same : All (λ (w : Word). w.line ≡ first.line) rest
  pub next : IsBehindLine first.line ahead behind

-- the lines of these words of a text, without comments
abbrev pub lines_from : List ℕ → List Word → List Line
lines_from text words = filter (λ (l : Line). not (is_comment l)) (by_line (map (word_in text) words))

-- a draft of what is said by all lines but those of these words
pub record IsBehind (d : Draft) (text : List ℕ) (ahead : Option Word) (words : List Word) : Type 0 where
  pub before : List Statement
  pub reflects : Reflects d before
  pub same : all_said before (lines_from text (ahead_words ahead ++ words)) ≡ all_said [] (lines_of text)
  pub within : IfSome ahead (IsWordIn text)
  pub end : IfNone ahead (words ≡ [])

-- a draft of all that is said
abbrev pub DraftOf : Result Draft ReadError → Result (List Statement) NetFault → Type 0
DraftOf (Ok d) said = (ss : List Statement) × (said ≡ Ok ss) × Reflects d ss
DraftOf (Err e) said = Fails e said
