use Rattle.std.proofs.Common.{◌≡◌, ℕ, ◌+◌, ◌∷◌, map, codes}
use Rattle.std.specs.List.{range_with_len}
use Rattle.wdf_made.specs.Ladder.{numbered_name}
use Rattle.wdf_made.proofs.elements.ladder_nodes.Given as goal

abbrev pub invariant-loop-j : goal.invariant-loop-j
invariant-loop-j l = l.nodes.items ≡ codes "n0" ∷ codes "0" ∷ map (λ (j : ℕ). numbered_name (codes "n") (j + 1)) (range_with_len 0 l.j)
