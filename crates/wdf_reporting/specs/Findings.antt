-- What a report tells of a network's states: that there is a certificate, or an obstruction.
use Rattle.std.specs.Prelude.{◌≡◌, ℕ, Bool, true, false, List, ◌++◌, Some}
use Rattle.wdf_law.specs.declared.side.Side.{Side}
use Rattle.wdf_law.specs.Network.{Network}
use Rattle.wdf_residue.specs.Elimination.{IsFirstDependence}
use Rattle.wdf_netlist.specs.declared.element.Element.{Element}
use Rattle.wdf_netlist.specs.Netlists.{NetlistValue}
use Rattle.wdf_bounds.specs.Plans.{PlanOf}
use Rattle.wdf_lattice.specs.declared.networks.Networks.{Networks}
use Rattle.wdf_lattice.specs.Sides.{network_at}
use Rattle.wdf_check.specs.Certificate.{Certificate, HasSquareInverse}
use Rattle.wdf_check.specs.Observability.{observability}
use Rattle.wdf_cert.specs.Making.{IsMade}
use Rattle.wdf_reporting.specs.ReportText.{circuit_lines, form_lines, lines_text, report_text}

-- true where the network has a certificate; false where it has an obstruction, a state that depends on those before it
-- and so is seen by no resistor and no source
abbrev pub IsFinding : Network → Bool → Type 0
IsFinding n true = (c : Certificate) × IsMade n c × HasSquareInverse c
IsFinding n false = (state : ℕ) × (v : List ℕ) × IsFirstDependence (observability n) state v

-- that of each network
abbrev pub AreFindings : Networks → (Side → Bool) → Type 0
AreFindings ns certified = (side : Side) (n : Network) → network_at ns side ≡ Some n → IsFinding n (certified side)

-- the report of a netlist and its networks under a plan
pub record IsReport (n : NetlistValue) (ns : Networks) (plan : PlanOf) (text : List ℕ) : Type 0 where
  pub certified : Side → Bool
  pub found : AreFindings ns certified
  pub lines : text ≡ report_text n ns plan certified

-- ---- while it is written

-- the lines of a circuit stand behind a text
pub record AppendsCircuit (side : Side) (rate : ℕ) (plan : PlanOf) (es : List Element) (n : Network) (before after : List ℕ) : Type 0 where
  pub certified : Bool
  pub found : IsFinding n certified
  pub lines : after ≡ before ++ lines_text (circuit_lines side rate plan es n certified)

-- those of all circuits
pub record AppendsCircuits (n : NetlistValue) (ns : Networks) (plan : PlanOf) (before after : List ℕ) : Type 0 where
  pub certified : Side → Bool
  pub found : AreFindings ns certified
  pub lines : after ≡ before ++ lines_text (form_lines n.rate plan n.form ns certified)
