-- Files by their names, and what a load answers by them.
use Rattle.std.specs.Prelude.{◌≡◌, ℕ, ◌<◌, ◌≤◌, List, [], ◌∷◌, length, Result, Ok, Err, Vec, Option, Some, None, ⊤, if◌then◌else◌}
use Rattle.std.specs.Str.{bytes_eq}
use Rattle.std.specs.declared.alloc.Global.{Global}
use Rattle.wdf_io.specs.declared.load_error.LoadError.{LoadError}
use Rattle.wdf_io.specs.declared.load_error.LoadError.TheVariants.{Missing, TooLarge, Failed, NoMemory}

-- a finite map from names to bytes, as its list of entries: the first entry of a name counts
abbrev pub Files : Type 0
Files = List (List ℕ × List ℕ)

-- the bytes of a file, if there is one of that name
abbrev pub file_of : Files → List ℕ → Option (List ℕ)
file_of [] name = None
file_of (f ∷ fs) name = if bytes_eq f.0 name then Some f.1 else file_of fs name

-- there is a file, and it holds more than limit bytes
abbrev pub IsLarger : Option (List ℕ) → ℕ → Type 0
IsLarger None limit = ⊥
IsLarger (Some bytes) limit = limit < length bytes

-- What a load of a name answers by the files. The cases shut each other out, so each answer comes
-- exactly where it says; only a fault of the shelf and want of memory come whatever the files are.
abbrev pub LoadMeets : Files → List ℕ → ℕ → Result (Vec ℕ Global) LoadError → Type 0
LoadMeets fs name limit (Ok v) = (file_of fs name ≡ Some v.items) × (length v.items ≤ limit)
LoadMeets fs name limit (Err Missing) = file_of fs name ≡ None
LoadMeets fs name limit (Err TooLarge) = IsLarger (file_of fs name) limit
LoadMeets fs name limit (Err Failed) = ⊤
LoadMeets fs name limit (Err NoMemory) = ⊤
