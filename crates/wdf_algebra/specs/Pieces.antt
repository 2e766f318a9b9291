-- A list cut into pieces of one size.
use Rattle.std.specs.Prelude.{ℕ, zero, suc, List, [], ◌∷◌, take, drop}

-- the first `count` pieces of xs, each of `size` elements
abbrev pub pieces : {X : Type 0} → ℕ → ℕ → List X → List (List X)
pieces zero size xs = []
pieces (suc count) size xs = take size xs ∷ pieces count size (drop size xs)
