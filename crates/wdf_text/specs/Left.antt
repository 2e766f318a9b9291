-- What contracts see of a cursor.
use Rattle.std.specs.Prelude.{ℕ, List}
use Rattle.wdf_text.specs.declared.word.Word.{Word}

-- the whole text, and its words that are left
pub record Left : Type 0 where
  pub text : List ℕ
  pub words : List Word
