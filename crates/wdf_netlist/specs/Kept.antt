-- What the parts of a circuit keep while its lines are read.
use Rattle.std.specs.Prelude.{◌≡◌, ◌≢◌, ◌≤◌, false, List, [], ◌∷◌, length, Option, Some, None, All, IsTrue}
use Rattle.wdf_text.specs.DecimalNumber.{DecimalNumber}
use Rattle.wdf_text.specs.Names.{IsName, is_name_or_at_sign}
use Rattle.wdf_law.specs.Network.{is_source, is_reactance}
use Rattle.wdf_law.specs.declared.TheConstants.{MAX_SOURCES}
use Rattle.wdf_netlist.specs.declared.TheConstants.{MAX_ELEMENTS, MAX_REACTANCES}
use Rattle.wdf_netlist.specs.declared.part.Part.{Part}
use Rattle.wdf_netlist.specs.Circuits.{AreDistinct, IsElementValue}
use Rattle.wdf_netlist.specs.LineRules.{count_fault, count_parts, is_taken}
use Rattle.wdf_netlist.specs.Statements.{branch_part, names_of}

pub record KeepsParts (parts : List Part) : Type 0 where
  pub most : length parts ≤ MAX_ELEMENTS
  pub most_reactances : count_parts is_reactance parts ≤ MAX_REACTANCES
  pub most_sources : count_parts is_source parts ≤ MAX_SOURCES
  pub named : All (λ (p : Part). IsTrue (is_name_or_at_sign p.name)) parts
  pub distinct : AreDistinct (names_of parts)
  pub ends_differ : All (λ (p : Part). p.from ≢ p.to) parts
  pub from_named : All (λ (p : Part). IsName p.from) parts
  pub to_named : All (λ (p : Part). IsName p.to) parts
  pub values : All (λ (p : Part). IsElementValue p.value) parts

-- a part that may be added
pub record IsNextPart (parts : List Part) (p : Part) : Type 0 where
  pub room : count_fault parts p.kind ≡ None
  pub named : IsTrue (is_name_or_at_sign p.name)
  pub new : is_taken (names_of parts) p.name ≡ false
  pub ends_differ : p.from ≢ p.to
  pub from_named : IsName p.from
  pub to_named : IsName p.to
  pub value : IsElementValue p.value

-- in a ladder every element has a name; a branch begins with its source, and has no other
abbrev pub AreOfForm : Option DecimalNumber → List Part → Type 0
AreOfForm None parts = All (λ (p : Part). IsName p.name) parts
AreOfForm (Some v) [] = Unit {0}
AreOfForm (Some v) (p ∷ ps) = (p ≡ branch_part p.from p.to v) × (All (λ (q : Part). IsName q.name) ps × All (λ (q : Part). is_source q.kind ≡ false) ps)
