use Rattle.std.proofs.Common.{◌≡◌, ◌-◌, ◌≤◌, true, length, take, drop}
use Rattle.std.specs.List.{list_all}
use Rattle.wdf_cert.specs.Format.{is_word_byte}
use Rattle.wdf_cert.proofs.tokens.word_end.Given as goal

abbrev pub invariant-loop-end : goal.invariant-loop-end
invariant-loop-end l = record {
  order : l.at ≤ l.end;
  within : l.end ≤ length l.text;
  bytes : list_all is_word_byte (take (l.end - l.at) (drop l.at l.text)) ≡ true;
}

abbrev pub decreases-loop-end : goal.decreases-loop-end
decreases-loop-end l = length l.text - l.end
