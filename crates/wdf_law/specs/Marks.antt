-- Marks for the numbers below 128, and walks that stop at a place: what the checks of a network work with.
use Rattle.std.specs.Prelude.{ℕ, zero, suc, Bool, true, false, if◌then◌else◌, List, [], ◌∷◌, Option, None, Some, Result, Ok, Err, slice_set, slice_index_or}

-- the first number that is marked already, where each is marked in turn
abbrev pub first_marked : List Bool → List ℕ → Option ℕ
first_marked marks [] = None
first_marked marks (i ∷ is) = if slice_index_or marks i false then Some i else first_marked (slice_set marks i true) is

-- the marks with all these numbers marked
abbrev pub marked : List Bool → List ℕ → List Bool
marked marks [] = marks
marked marks (i ∷ is) = marked (slice_set marks i true) is

-- the number behind skip others, or how many are still to skip
abbrev pub number_behind : ℕ → List ℕ → Result ℕ ℕ
number_behind skip [] = Err skip
number_behind zero (x ∷ xs) = Ok x
number_behind (suc skip) (x ∷ xs) = number_behind skip xs
