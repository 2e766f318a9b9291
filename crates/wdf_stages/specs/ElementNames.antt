-- The elements of a netlist by the side of their circuit, their number there, and their name.
use Rattle.std.specs.Prelude.{ℕ, List, Option, None, Some, slice_get}
use Rattle.std.specs.Option.{option_map}
use Rattle.wdf_law.specs.declared.side.Side.{Side}
use Rattle.wdf_netlist.specs.declared.element.Element.{Element}
use Rattle.wdf_netlist.specs.declared.form.Form.{Form}
use Rattle.wdf_netlist.specs.Circuits.{CircuitValue}
use Rattle.wdf_design.specs.Realising.{circuit_at}

-- the name of an element of a circuit, where there is one with this number
abbrev pub name_in : Option CircuitValue → ℕ → Option (List ℕ)
name_in None element = None
name_in (Some circuit) element = option_map (λ (e : Element). e.name) (slice_get circuit.elements element)

-- and of the circuit of a side
abbrev pub name_at : Form → Side → ℕ → Option (List ℕ)
name_at form side element = name_in (circuit_at form side) element
