-- What the definition of a report implies.
use Rattle.std.specs.Prelude.{◌≡◌, ℕ, List}
use Rattle.wdf_netlist.specs.Netlists.{NetlistValue}
use Rattle.wdf_bounds.specs.Plans.{PlanOf}
use Rattle.wdf_lattice.specs.declared.networks.Networks.{Networks}
use Rattle.wdf_reporting.specs.Findings.{IsReport}

-- a netlist and its networks have one report under a plan: no network has both a certificate and an obstruction
abbrev pub HasOneReport : Type 0
HasOneReport = (n : NetlistValue) (ns : Networks) (plan : PlanOf) (text other : List ℕ) → IsReport n ns plan text → IsReport n ns plan other → text ≡ other
