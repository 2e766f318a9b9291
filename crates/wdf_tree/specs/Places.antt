-- Lists by the elements' numbers.
use Rattle.std.specs.Prelude.{ℕ, ℤ, pos, List, map, slice_index_or}
use Rattle.wdf_law.specs.Network.{Network, reactances}

-- the number at a place, 0 where there is none
abbrev pub at_place : List ℤ → ℕ → ℤ
at_place xs i = slice_index_or xs i (pos 0)

-- what stands at the numbers of the reactances, in netlist order
abbrev pub gathered : Network → List ℤ → List ℤ
gathered n xs = map (at_place xs) (reactances n)
