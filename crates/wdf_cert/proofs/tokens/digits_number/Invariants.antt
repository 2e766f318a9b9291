use Rattle.std.proofs.Common.{◌≡◌, ◌<◌, ◌^◌, take}
use Rattle.wdf_text.specs.Numbers.{number_of}
use Rattle.wdf_cert.proofs.tokens.digits_number.Given as goal

abbrev pub invariant-loop-byte : goal.invariant-loop-byte
invariant-loop-byte l = record {
  value : l.n ≡ number_of (take l.byte-index l.word);
  small : l.n < 10 ^ l.byte-index;
}
