use Rattle.std.proofs.Common.{◌≡◌, ◌-◌, length}
use Rattle.wdf_words.specs.Orders.{fault_at, first_from, texts}
use Rattle.wdf_words.proofs.reading.first_fault.Given as goal

abbrev pub invariant-loop-at : goal.invariant-loop-at
invariant-loop-at l =
    first_from (fault_at l.command (texts l.words)) l.at (length l.words - l.at) ≡ first_from (fault_at l.command (texts l.words)) 1 (length l.words - 1)
