-- No file so far has the name.
use Rattle.std.proofs.Common.{◌≡◌, drop}
use Rattle.wdf_io.specs.Files.{file_of}
use Rattle.wdf_io.specs.SureShelf.{files_of}
use Rattle.wdf_io.proofs.sure_shelf.SureShelfShelf.load.Given as goal

abbrev pub invariant-loop-file : goal.invariant-loop-file
invariant-loop-file l = file_of (files_of l.file-items) l.name ≡ file_of (files_of (drop l.file-index l.file-items)) l.name
