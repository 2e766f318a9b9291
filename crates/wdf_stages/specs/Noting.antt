-- What a try to write a line on the note leaves there.
use Rattle.std.specs.Prelude.{ℕ, ◌≤◌, ◌⊎◌, List, Option}
use Rattle.std.specs.Io.KnownBytes.{Appends}
use Rattle.wdf_io.specs.Causes.{Rose}
use Rattle.wdf_io.specs.Moved.{AppendsPart}

-- the note gained the line, or its count of faults rose and it gained a front of the line
pub record GainsLine (noted noted' : Option (List ℕ)) (before now : ℕ) (line : List ℕ) : Type 0 where
  pub later : before ≤ now
  pub gained : Appends noted noted' line ⊎ (Rose before now × AppendsPart noted noted' line)
