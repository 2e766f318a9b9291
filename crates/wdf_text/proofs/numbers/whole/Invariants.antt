use Rattle.std.proofs.Common.{◌≡◌, ◌^◌, ◌<◌, take, true}
use Rattle.std.specs.Char.{is_ascii_digit}
use Rattle.std.specs.List.{list_all}
use Rattle.wdf_text.specs.Numbers.{number_of}
use Rattle.wdf_text.proofs.numbers.whole.Given as goal

abbrev pub invariant-loop-byte : goal.invariant-loop-byte
invariant-loop-byte l = record {
  read : l.value ≡ number_of (take l.byte-index l.text);
  small : l.value < 10 ^ l.byte-index;
  digits : list_all is_ascii_digit (take l.byte-index l.text) ≡ true;
}
