use Rattle.std.specs.Prelude.{ℕ, List, Result, Ok, Err, drop}
use Rattle.wdf_io.specs.declared.failed.Failed.{Failed}
use Rattle.wdf_io.specs.declared.mem_source.MemSource.{MemSource}
use Rattle.wdf_io.specs.Calls.{CallState, call_state, after_call, after_fault}
use Rattle.wdf_io.specs.SureSource.{sure_left}

-- all that a source in memory is, as its callers see it
pub record SourceState : Type 0 where
  -- the bytes that are not yet read
  pub left : List ℕ
  -- the most bytes that one call gives
  pub piece : ℕ
  pub calls : CallState

abbrev pub source_state : MemSource → SourceState
source_state source = record { left = sure_left source.inner; piece = source.piece; calls = call_state source.calls }

-- the state after a read with this answer
abbrev pub after_read : SourceState → Result ℕ Failed → SourceState
after_read s (Ok n) = record s { left = drop n s.left; calls = after_call s.calls }
after_read s (Err e) = record s { calls = after_fault s.calls }
