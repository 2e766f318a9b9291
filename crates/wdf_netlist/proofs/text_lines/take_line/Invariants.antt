use Rattle.std.proofs.Common.{◌≡◌, ◌++◌, length}
use Rattle.std.specs.Prelude.{All}
use Rattle.wdf_text.specs.declared.word.Word.{Word}
use Rattle.wdf_netlist.specs.Places.{IsWordIn}
use Rattle.wdf_netlist.proofs.text_lines.take_line.Given as goal

abbrev pub invariant-loop-word : goal.invariant-loop-word
invariant-loop-word l = record {
  text : l.cursor.text ≡ l.fn.cursor.text;
  words : l.fn.cursor.words ≡ l.rest.items ++ l.cursor.words;
  same : All (λ (w : Word). w.line ≡ l.first.line) l.rest.items;
  within : All (IsWordIn l.fn.cursor.text) l.rest.items;
}

abbrev pub decreases-loop-word : goal.decreases-loop-word
decreases-loop-word l = length l.cursor.words
