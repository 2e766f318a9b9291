-- The words of a line, one by one.
use Rattle.std.proofs.Common.{ℕ, suc, List, ◌∷◌, arith}
use Rattle.wdf_text.specs.declared.word.Word.{Word}
use Rattle.wdf_netlist.specs.Places.{AreWordsIn}

pub next_words : (text : List ℕ) (previous word : Word) (rest : List Word) → AreWordsIn text previous (word ∷ rest) → AreWordsIn text word rest
next_words text previous word rest a = record {
  short = a.short;
  first = a.others 0 word (omega arith);
  others = λ k d within. a.others (suc k) d (omega arith);
}
