-- Why a netlist has no networks, told with the name of an element.
use Rattle.std.specs.Prelude.{◌≡◌, ℕ, List, Some, Err, ⊤}
use Rattle.wdf_law.specs.declared.side.Side.{Side}
use Rattle.wdf_netlist.specs.Netlists.{NetlistValue}
use Rattle.wdf_design.specs.declared.design_fault.DesignFault.{DesignFault}
use Rattle.wdf_design.specs.declared.design_fault.DesignFault.TheVariants.{Core, Range}
use Rattle.wdf_design.specs.Designs.{design_of}
use Rattle.wdf_stages.specs.declared.design_stop.DesignStop.{DesignStop}
use Rattle.wdf_stages.specs.declared.design_stop.DesignStop.TheVariants.{NotSeriesParallel, PortRange, NoMemory}
use Rattle.wdf_stages.specs.ElementNames.{name_at}

-- the design of the netlist is refused by this fault, which names an element of this name by its number
pub record IsRefused (n : NetlistValue) (k : ℕ) (side : Side) (name : List ℕ) (fault : ℕ → DesignFault) : Type 0 where
  pub element : ℕ
  pub named : name_at n.form side element ≡ Some name
  pub design : design_of n k ≡ Err (fault element)

abbrev pub DesignRefuses : NetlistValue → (k : ℕ) → DesignStop → Type 0
DesignRefuses n k (NotSeriesParallel side name core) = IsRefused n k side name (λ element. Core side element core)
DesignRefuses n k (PortRange side name low) = IsRefused n k side name (λ element. Range side element low)
DesignRefuses n k NoMemory = ⊤
