-- What the steps of a line's reader answer, by the rules of a line.
use Rattle.std.specs.Prelude.{◌≡◌, ℕ, ◌+◌, ◌≤◌, true, false, Option, Some, None, List, [], ◌∷◌, length, All, Result, Ok, Err}
use Rattle.wdf_text.specs.Names.{is_name}
use Rattle.wdf_text.specs.Numbers.{number_of}
use Rattle.wdf_text.specs.declared.word.Word.{Word}
use Rattle.wdf_text.specs.declared.cursor.TheConstants.{MAX_TEXT}
use Rattle.wdf_netlist.specs.declared.net_fault.NetFault.{NetFault}
use Rattle.wdf_netlist.specs.declared.net_kind.NetKind.TheVariants as kinds
use Rattle.wdf_netlist.specs.LineRules.{Field, Place, end, fault_at, is_rate_word, missing, next}
use Rattle.wdf_netlist.specs.Statements.{Statement}

-- a word's bytes are in the text, and its column is no further than they are
pub record IsWordIn (text : List ℕ) (w : Word) : Type 0 where
  pub within : w.start + w.len ≤ length text
  pub column : w.column ≤ w.start + 1

pub record AreWordsIn (text : List ℕ) (previous : Word) (rest : List Word) : Type 0 where
  pub short : length text ≤ MAX_TEXT
  pub first : IsWordIn text previous
  pub others : All (IsWordIn text) rest

-- the step to the next word
abbrev pub Takes : {U : Type 0} → Place → Place → Result U NetFault → Type 0
Takes old new (Ok _) = (old.words ≡ new.previous ∷ new.words) × (new.name ≡ old.name)
Takes old new (Err e) = (old.words ≡ []) × (e ≡ missing old)

-- the word before, read as a name
abbrev pub NamesWord : Place → Result (List ℕ) NetFault → Type 0
NamesWord p (Ok n) = (is_name p.previous.bytes ≡ true) × (n ≡ p.previous.bytes)
NamesWord p (Err e) = (is_name p.previous.bytes ≡ false) × (e ≡ fault_at kinds.BadName p.previous p.name)

-- the next word, read as such a field behind these lines
abbrev pub Reads : {A : Type 0} → List Statement → Field → Place → Place → Result A NetFault → Type 0
Reads before field old new (Ok _) = next before field old ≡ Ok new
Reads before field old new (Err e) = next before field old ≡ Err e

-- no word is left over
abbrev pub Ends : {U : Type 0} → Place → Result U NetFault → Type 0
Ends p (Ok _) = end p ≡ Ok tt
Ends p (Err e) = end p ≡ Err e

-- a word, read as a rate
abbrev pub HasRate : List ℕ → Option ℕ → Type 0
HasRate w (Some n) = (is_rate_word w ≡ true) × (n ≡ number_of w)
HasRate w None = is_rate_word w ≡ false
