-- A file of the shelf, loaded by its name.
use Rattle.std.specs.Prelude.{◌≡◌, ℕ, ◌≤◌, List, length, Option, None, Some, ⊤}
use Rattle.wdf_io.specs.Files.{Files, file_of, IsLarger}
use Rattle.wdf_io.specs.Told.{Told}
use Rattle.wdf_stages.specs.declared.file_stop.FileStop.{FileStop}
use Rattle.wdf_stages.specs.declared.file_stop.FileStop.TheVariants.{Missing, FileTooLarge, LoadFault, NoMemory}
use Rattle.wdf_stages.specs.declared.files.TheConstants.{MAX_FILE}

-- these are the bytes of the file of this name, where files are told, and there are not too many of them
pub record IsFile (files : Option Files) (name bytes : List ℕ) : Type 0 where
  pub found : Told files (λ fs. file_of fs name ≡ Some bytes)
  pub small : length bytes ≤ MAX_FILE

-- why no file of the name, which stands in this word, was loaded
abbrev pub FileRefuses : Option Files → (word : ℕ) → (name : List ℕ) → FileStop → Type 0
FileRefuses files word name (Missing at) = (at ≡ word) × Told files (λ fs. file_of fs name ≡ None)
FileRefuses files word name (FileTooLarge at) = (at ≡ word) × Told files (λ fs. IsLarger (file_of fs name) MAX_FILE)
FileRefuses files word name LoadFault = ⊤
FileRefuses files word name NoMemory = ⊤
