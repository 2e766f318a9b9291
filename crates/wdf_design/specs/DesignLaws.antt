-- What the definition of a design implies.
use Rattle.std.specs.Prelude.{◌≡◌, ◌≢◌, ℕ, Result, Err}
use Rattle.wdf_netlist.specs.Netlists.{NetlistValue}
use Rattle.wdf_lattice.specs.declared.networks.Networks.{Networks}
use Rattle.wdf_design.specs.declared.design_fault.DesignFault.{DesignFault}
use Rattle.wdf_design.specs.declared.design_fault.DesignFault.TheVariants.{NoMemory}
use Rattle.wdf_design.specs.Designs.{design_of, Designs}

-- each netlist and each width have one answer but for want of memory: that of the definition
pub record HasOneDesign (n : NetlistValue) : Type 0 where
  pub some : (k : ℕ) → Designs n k (design_of n k)
  pub memory : (k : ℕ) → design_of n k ≢ Err NoMemory
  pub only : (k : ℕ) (answer : Result Networks DesignFault) → Designs n k answer → answer ≢ Err NoMemory → answer ≡ design_of n k
