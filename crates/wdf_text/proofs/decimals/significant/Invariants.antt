use Rattle.std.proofs.Common.{take}
use Rattle.wdf_text.specs.Decimals.{digit_bytes}
use Rattle.wdf_text.specs.Numbers.{digits_of_bytes}
use Rattle.wdf_text.specs.Significance.{IsSignificant}
use Rattle.wdf_text.proofs.decimals.significant.Given as goal

abbrev pub invariant-loop-byte : goal.invariant-loop-byte
invariant-loop-byte l = IsSignificant (digits_of_bytes (digit_bytes (take l.byte-index l.text))) l.read.digits l.read.count l.read.zeros
