-- The count of an object's faults, and the answers that have to have one as their cause.
use Rattle.std.specs.Prelude.{◌≡◌, ℕ, ◌+◌, ◌-◌, ◌^◌, ◌<◌, ◌≤◌, min, List, length, Result, OnErr, IfOk, IsErrOf, is_err, if◌then◌else◌}
use Rattle.wdf_io.specs.declared.load_error.LoadError.{LoadError}
use Rattle.wdf_io.specs.declared.load_error.LoadError.TheVariants.{Failed}

-- the count after n, which stands still at 2^64 - 1
abbrev pub next_count : ℕ → ℕ
next_count n = min (n + 1) (2 ^ 64 - 1)

-- the count rose: it is larger than before, or it stands at its last value, 2^64 - 1
abbrev pub Rose : ℕ → ℕ → Type 0
Rose before now = next_count before ≤ now

-- the count never falls, and it rose where the call failed
pub record HasCause {T E : Type 0} (before now : ℕ) (result : Result T E) : Type 0 where
  pub later : before ≤ now
  pub failed : OnErr result (Rose before now)

-- a write may also take nothing of a piece that is not empty, only where the count rose
pub record WriteHasCause {E : Type 0} (before now : ℕ) (result : Result ℕ E) (piece : List ℕ) : Type 0 where
  pub later : before ≤ now
  pub failed : OnErr result (Rose before now)
  pub stuck : IfOk result (λ n. n ≡ 0 → 0 < length piece → Rose before now)

-- a load may also be refused by what the files are, whatever the count did
pub record LoadHasCause {T : Type 0} (before now : ℕ) (result : Result T LoadError) : Type 0 where
  pub later : before ≤ now
  pub failed : IsErrOf result Failed → Rose before now

-- the count rises by one at each failure, and at nothing else
abbrev pub CountsFailures : {T E : Type 0} → ℕ → ℕ → Result T E → Type 0
CountsFailures before now result = now ≡ (if is_err result then next_count before else before)
