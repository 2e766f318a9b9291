-- What several reads or writes moved when one of them failed.
use Rattle.std.specs.Prelude.{◌≡◌, ℕ, ◌<◌, ◌≤◌, List, ◌++◌, length, take, Option}
use Rattle.std.specs.Io.KnownBytes.{Consumes, Appends}

-- some bytes were read, at most limit
abbrev pub ConsumesAtMost : Option (List ℕ) → Option (List ℕ) → ℕ → Type 0
ConsumesAtMost old new limit = (bytes : List ℕ) × Consumes old new bytes × (length bytes ≤ limit)

-- a part of the piece was written from its front on, and not all of it
abbrev pub AppendsPart : Option (List ℕ) → Option (List ℕ) → List ℕ → Type 0
AppendsPart old new piece = (n : ℕ) × (n < length piece) × Appends old new (take n piece)

-- xs stand at the front of ys
pub record IsFront (xs ys : List ℕ) : Type 0 where
  pub behind : List ℕ
  pub whole : ys ≡ xs ++ behind
