use Rattle.std.proofs.Common.{◌≡◌, map}
use Rattle.std.specs.Prelude.{filter}
use Rattle.std.specs.List.{range_with_len}
use Rattle.wdf_law.specs.Network.{elements, has_absorbing}
use Rattle.wdf_loop.specs.Parts.{part_at}
use Rattle.wdf_loop.proofs.parts.absorbing_parts.Given as goal

abbrev pub invariant-loop-number : goal.invariant-loop-number
invariant-loop-number l = l.parts.items ≡ map (part_at l.every) (filter (has_absorbing (elements l.net)) (range_with_len 0 l.number))
