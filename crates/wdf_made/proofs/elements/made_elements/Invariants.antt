use Rattle.std.proofs.Common.{◌≡◌, ℕ, ◌∷◌, map}
use Rattle.std.specs.List.{range_with_len}
use Rattle.wdf_made.specs.Generator.{behind_words}
use Rattle.wdf_made.specs.Ladder.{made_value, rung, the_source}
use Rattle.wdf_made.proofs.elements.made_elements.Given as goal

abbrev pub invariant-loop-place : goal.invariant-loop-place
invariant-loop-place l =
    (l.elements.items ≡ the_source ∷ map (λ (place : ℕ). rung place (made_value l.seed place)) (range_with_len 0 l.place))
    × (l.generator ≡ behind_words l.seed l.place)
