-- What a call of the program is given, and what it leaves.
use Rattle.std.specs.Prelude.{ℕ, List, Option}
use Rattle.std.specs.Io.KnownBytes.{Keeps}
use Rattle.wdf_io.specs.Files.{Files}

pub record World : Type 0 where
  -- the words of the command line, as bytes
  pub words : List (List ℕ)
  -- the files of the shelf, where it tells them
  pub files : Option Files
  -- what is left of the input before the call, and after it
  pub left : Option (List ℕ)
  pub left' : Option (List ℕ)
  -- what the output was written before the call, and after it
  pub written : Option (List ℕ)
  pub written' : Option (List ℕ)
  -- what the note was written before the call, and when what the words ask for was done or had stopped: a fault line comes
  -- behind that
  pub noted : Option (List ℕ)
  pub noted' : Option (List ℕ)

abbrev pub world : List (List ℕ) → Option Files → (left left' written written' noted noted' : Option (List ℕ)) → World
world words files left left' written written' noted noted' = record {
  words = words;
  files = files;
  left = left;
  left' = left';
  written = written;
  written' = written';
  noted = noted;
  noted' = noted';
}

-- nothing was read
abbrev pub KeepsInput : World → Type 0
KeepsInput w = Keeps w.left w.left'

-- nothing was written
abbrev pub KeepsOutput : World → Type 0
KeepsOutput w = Keeps w.written w.written'

-- nothing was noted
abbrev pub KeepsNote : World → Type 0
KeepsNote w = Keeps w.noted w.noted'

-- nothing of all that
pub record IsQuiet (w : World) : Type 0 where
  pub input : KeepsInput w
  pub output : KeepsOutput w
  pub note : KeepsNote w
