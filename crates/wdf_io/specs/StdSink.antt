use Rattle.std.specs.Prelude.{ℕ}
use Rattle.wdf_io.specs.declared.std_sink.StdSink.{StdSink}

-- the writer that it writes to
abbrev pub sink_writer : {W : Type 0} → StdSink W → W
sink_writer sink = sink.inner

-- how often the writer has failed
abbrev pub sink_faults : {W : Type 0} → StdSink W → ℕ
sink_faults sink = sink.faults.value
