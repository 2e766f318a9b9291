use Rattle.std.specs.Prelude.{ℕ, List, [], ◌∷◌, Vec, String, string_bytes}
use Rattle.std.specs.declared.alloc.Global.{Global}
use Rattle.wdf_io.specs.declared.sure_shelf.SureShelf.{SureShelf}
use Rattle.wdf_io.specs.Files.{Files}

-- the files of a list of names and bytes
abbrev pub files_of : List (String Global × Vec ℕ Global) → Files
files_of [] = []
files_of (f ∷ fs) = (string_bytes f.0, f.1.items) ∷ files_of fs

-- the files that the shelf holds
abbrev pub sure_files : SureShelf → Files
sure_files shelf = files_of shelf.files.items
