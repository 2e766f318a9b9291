-- What the definitions of spanning and of the reduction imply.
use Rattle.std.specs.Prelude.{◌≡◌, ℕ, List, Option, None}
use Rattle.wdf_law.specs.Outline.{Outline}
use Rattle.wdf_law.specs.Reversal.{reversed}
use Rattle.wdf_law.specs.Spans.{Branch, Spans}
use Rattle.wdf_sp.specs.Reduction.{Arc, fully_reduced, next}

-- a reversed network spans the other way round, and reversed again it is as it was
pub record HasReversal : Type 0 where
  pub spans : (circuit : ℕ → Option Branch) (t : Outline) (p q : ℕ) → Spans circuit t p q → Spans circuit (reversed t) q p
  pub twice : (t : Outline) → reversed (reversed t) ≡ t

-- neither rule changes the list where the reduction ends
abbrev pub Ends : Type 0
Ends = (p q : ℕ) (es : List Arc) → next p q (fully_reduced p q es) ≡ None
