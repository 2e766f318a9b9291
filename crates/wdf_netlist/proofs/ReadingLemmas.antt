-- What reading answers, and that it is the only reading.
use Rattle.std.proofs.Common.{◌≡◌, ℕ, List, Result, Ok, Err, refl, sym, ap, ◌∙◌}
use Rattle.std.specs.Prelude.{IfOk}
use Rattle.wdf_netlist.specs.declared.net_fault.NetFault.{NetFault}
use Rattle.wdf_netlist.specs.declared.read_error.ReadError.{ReadError}
use Rattle.wdf_netlist.specs.declared.read_error.ReadError.TheVariants as errors
use Rattle.wdf_netlist.specs.Gathering.{Answers}
use Rattle.wdf_netlist.specs.Netlists.{NetlistValue}
use Rattle.wdf_netlist.specs.NetlistText.{HasOneReading, IsFault, IsReading, Stands, meaning}

pub stands_for : (text : List ℕ) (r : Result NetlistValue ReadError) → Answers text r → IfOk r (Stands text)
stands_for text (Ok n) a = a
stands_for text (Err e) a = tt

pub is_fault : (text : List ℕ) (r : Result NetlistValue ReadError) → Answers text r → (fault : NetFault) → r ≡ Err (errors.Fault fault) → IsFault text fault
is_fault text (Ok n) a fault e = absurd (cc)
is_fault text (Err (errors.Fault f)) a fault e = let same : f ≡ fault = cc in a ∙ ap (λ (g : NetFault). Err g) same
is_fault text (Err errors.NoMemory) a fault e = absurd (cc)

is_meaning : (text : List ℕ) (r : Result NetlistValue NetFault) → IsReading text r → r ≡ meaning text
is_meaning text (Ok n) h = sym h
is_meaning text (Err f) h = sym h

pub one_reading : (text : List ℕ) → HasOneReading text
one_reading text = record { reading = meaning text; reads = by (meaning text) refl; only = is_meaning text }
  where
    by : (r : Result NetlistValue NetFault) → meaning text ≡ r → IsReading text r
    by (Ok n) e = e
    by (Err f) e = e
