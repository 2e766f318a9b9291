use Rattle.std.specs.Prelude.{ℕ}
use Rattle.wdf_io.specs.declared.std_source.StdSource.{StdSource}

-- the reader that it reads from
abbrev pub source_reader : {R : Type 0} → StdSource R → R
source_reader source = source.inner

-- how often the reader has failed
abbrev pub source_faults : {R : Type 0} → StdSource R → ℕ
source_faults source = source.faults.value
