use Rattle.std.proofs.Common.{◌≡◌, ◌+◌, ◌-◌, ◌≤◌, drop, length}
use Rattle.std.specs.List.{prefix_len}
use Rattle.wdf_text.specs.Decimals.{is_decimal_byte}
use Rattle.wdf_netlist.proofs.values.decimal_len.Given as goal

abbrev pub invariant-loop-len : goal.invariant-loop-len
invariant-loop-len l = (l.len ≤ length l.word) × (l.len + prefix_len is_decimal_byte (drop l.len l.word) ≡ prefix_len is_decimal_byte l.word)

abbrev pub decreases-loop-len : goal.decreases-loop-len
decreases-loop-len l = length l.word - l.len
