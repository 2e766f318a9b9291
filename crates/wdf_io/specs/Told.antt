-- What is said of content that may not be told.
use Rattle.std.specs.Prelude.{Option, Some, None, ⊤}

-- P holds of the content where it is told; nothing is said where it is not
abbrev pub Told : {X : Type 0} → Option X → (X → Type 0) → Type 0
Told None P = ⊤
Told (Some x) P = P x
