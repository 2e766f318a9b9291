use Rattle.std.specs.Prelude.{ℕ, Option, None}
use Rattle.wdf_io.specs.Files.{Files}
use Rattle.wdf_io.specs.declared.dir_shelf.DirShelf.{DirShelf}

-- how often a load has failed
abbrev pub dir_faults : {R : Type 0} → DirShelf R → ℕ
dir_faults shelf = shelf.faults.value

-- the system's files are not told
abbrev pub not_told : Option Files
not_told = None
