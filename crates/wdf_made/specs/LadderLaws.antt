-- What holds of every ladder that is made.
use Rattle.std.specs.Prelude.{◌≡◌, Some, length}
use Rattle.wdf_law.specs.Outline.{Outline}
use Rattle.wdf_netlist.specs.Circuits.{CircuitValue, first_source, sources}
use Rattle.wdf_sp.specs.Edges.{branches}
use Rattle.wdf_sp.specs.Reduction.{shape_in}

-- the reduction of the circuit ends at one edge between the ends of its source
abbrev pub HasShape : CircuitValue → Type 0
HasShape c = (t : Outline) × (shape_in (branches c.elements) (first_source c.elements) ≡ Some t)

abbrev pub HasOneSource : CircuitValue → Type 0
HasOneSource c = length (sources c.elements) ≡ 1
