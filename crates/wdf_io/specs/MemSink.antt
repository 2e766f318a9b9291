use Rattle.std.specs.Prelude.{ℕ, ◌-◌, ◌==◌, ◌&&◌, nat_lt, List, ◌++◌, length, take, Result, Ok, Err, if◌then◌else◌}
use Rattle.wdf_io.specs.declared.failed.Failed.{Failed}
use Rattle.wdf_io.specs.declared.mem_sink.MemSink.{MemSink}
use Rattle.wdf_io.specs.Calls.{CallState, call_state, after_call, after_fault}

-- all that a sink in memory is, as its callers see it
pub record SinkState : Type 0 where
  -- the bytes written so far
  pub written : List ℕ
  -- the most bytes that one call takes
  pub piece : ℕ
  -- how many more bytes it takes in all
  pub room : ℕ
  pub calls : CallState

abbrev pub sink_state : MemSink → SinkState
sink_state sink = record { written = sink.bytes.items; piece = sink.piece; room = sink.room; calls = call_state sink.calls }

-- the calls after one that took n bytes of the piece: to take none of some bytes is a fault
abbrev pub calls_after : CallState → ℕ → List ℕ → CallState
calls_after calls n piece = if n == 0 && nat_lt 0 (length piece) then after_fault calls else after_call calls

-- the state after a write of the piece with this answer
abbrev pub after_write : SinkState → Result ℕ Failed → List ℕ → SinkState
after_write s (Ok n) piece = record s { written = s.written ++ take n piece; room = s.room - n; calls = calls_after s.calls n piece }
after_write s (Err e) piece = record s { calls = after_fault s.calls }
