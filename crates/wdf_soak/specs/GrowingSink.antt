use Rattle.std.specs.Prelude.{ℕ, List}
use Rattle.wdf_soak.specs.declared.growing_sink.GrowingSink.{GrowingSink}

-- the bytes written so far
abbrev pub held_bytes : GrowingSink → List ℕ
held_bytes sink = sink.bytes.items

-- how often it found no memory
abbrev pub held_faults : GrowingSink → ℕ
held_faults sink = sink.faults
