-- The calls of an object in memory: which fail, and how many did so far.
use Rattle.std.specs.Prelude.{ℕ, List, Contains}
use Rattle.wdf_io.specs.Causes.{next_count}
use Rattle.wdf_io.specs.declared.calls.Calls.{Calls}

pub record CallState : Type 0 where
  -- the numbers of the calls that fail
  pub fails : List ℕ
  -- the number of the next call, counted from 0; calls past number 2^64 - 1 have that number
  pub number : ℕ
  -- the count of faults
  pub faults : ℕ

-- before call number 0, with a count of 0
abbrev pub no_calls : List ℕ → CallState
no_calls fails = record { fails = fails; number = 0; faults = 0 }

-- the next call fails
abbrev pub FailsNext : CallState → Type 0
FailsNext calls = Contains calls.fails calls.number

-- after a call in which the count stayed
abbrev pub after_call : CallState → CallState
after_call calls = record calls { number = next_count calls.number }

-- after a call in which the count rose
abbrev pub after_fault : CallState → CallState
after_fault calls = record calls { number = next_count calls.number; faults = next_count calls.faults }

-- what the object's own record of its calls shows
abbrev pub call_state : Calls → CallState
call_state calls = record { fails = calls.fails.items; number = calls.number.value; faults = calls.faults.value }
