use Rattle.std.proofs.Common.{◌≡◌, ◌++◌, length}
use Rattle.wdf_netlist.specs.Taking.{IsBehind, ahead_words}
use Rattle.wdf_netlist.proofs.text_lines.read_lines.Given as goal

abbrev pub invariant-loop-ahead : goal.invariant-loop-ahead
invariant-loop-ahead l = record {
  text : l.cursor.text ≡ l.text;
  behind : IsBehind l.draft l.text l.ahead l.cursor.words;
}

abbrev pub decreases-loop-ahead : goal.decreases-loop-ahead
decreases-loop-ahead l = length (ahead_words l.ahead ++ l.cursor.words)
