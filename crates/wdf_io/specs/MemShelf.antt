use Rattle.std.specs.Prelude.{ℕ, Result, Err, Vec}
use Rattle.std.specs.declared.alloc.Global.{Global}
use Rattle.wdf_io.specs.declared.load_error.LoadError.{LoadError}
use Rattle.wdf_io.specs.declared.load_error.LoadError.TheVariants.{Failed}
use Rattle.wdf_io.specs.declared.mem_shelf.MemShelf.{MemShelf}
use Rattle.wdf_io.specs.Calls.{CallState, call_state, after_call, after_fault}
use Rattle.wdf_io.specs.Files.{Files}
use Rattle.wdf_io.specs.SureShelf.{sure_files}

-- all that a shelf in memory is, as its callers see it
pub record ShelfState : Type 0 where
  pub files : Files
  pub calls : CallState

abbrev pub shelf_state : MemShelf → ShelfState
shelf_state shelf = record { files = sure_files shelf.inner; calls = call_state shelf.calls }

-- the state after a load with this answer
abbrev pub after_load : ShelfState → Result (Vec ℕ Global) LoadError → ShelfState
after_load s (Err Failed) = record s { calls = after_fault s.calls }
after_load s _ = record s { calls = after_call s.calls }
