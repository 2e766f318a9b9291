-- What is found of each side.
use Rattle.std.proofs.Common.{◌≡◌, ℕ, Bool, List, ◌++◌, Option, None, Some, sym, ap, ◌∙◌, subst}
use Rattle.wdf_law.specs.declared.side.Side.{Side}
use Rattle.wdf_law.specs.declared.side.Side.TheVariants.{Whole, A, B}
use Rattle.wdf_law.specs.Network.{Network}
use Rattle.wdf_lattice.specs.declared.networks.Networks.{Networks}
use Rattle.wdf_lattice.specs.declared.networks.Networks.TheVariants.{Ladder, Lattice}
use Rattle.wdf_netlist.specs.declared.form.Form.{Form}
use Rattle.wdf_netlist.specs.declared.form.Form.TheVariants.{Ladder as One, Lattice as Two}
use Rattle.wdf_netlist.specs.Circuits.{CircuitValue}
use Rattle.wdf_netlist.specs.Netlists.{NetlistValue}
use Rattle.wdf_bounds.specs.Plans.{PlanOf}
use Rattle.wdf_reporting.specs.Findings.{AppendsCircuit, AppendsCircuits, AreFindings, IsFinding}
use Rattle.wdf_reporting.specs.ReportText.{circuit_lines, form_lines, lines_text}
use Rattle.wdf_reporting.proofs.LineLemmas.{both_told}

abbrev pub same_finding : Bool → Side → Bool
same_finding b side = b

abbrev pub either_finding : Bool → Bool → Side → Bool
either_finding a b Whole = a
either_finding a b A = a
either_finding a b B = b

abbrev network_or : Option Network → Network → Network
network_or (Some n) other = n
network_or None other = other

same_network : (m n : Network) → Some m ≡ Some n → m ≡ n
same_network m n h = ap (λ (o : Option Network). network_or o m) h

pub ladder_found : (n : Network) (b : Bool) → IsFinding n b → AreFindings (Ladder n) (same_finding b)
ladder_found n b h Whole m there = subst (λ (x : Network). IsFinding x b) (same_network n m there) h
ladder_found n b h A m there = absurd (cc)
ladder_found n b h B m there = absurd (cc)

pub lattice_found : (m n : Network) (a b : Bool) → IsFinding m a → IsFinding n b → AreFindings (Lattice m n) (either_finding a b)
lattice_found m n a b first second Whole o there = absurd (cc)
lattice_found m n a b first second A o there = subst (λ (x : Network). IsFinding x a) (same_network m o there) first
lattice_found m n a b first second B o there = subst (λ (x : Network). IsFinding x b) (same_network n o there) second

-- ---- the lines of all circuits

ladder_lines : (nl : NetlistValue) (c : CircuitValue) (n : Network) (plan : PlanOf) (before after : List ℕ) → nl.form ≡ One c
    → AppendsCircuit Whole nl.rate plan c.elements n before after → AppendsCircuits nl (Ladder n) plan before after
ladder_lines nl c n plan before after form h = record {
  certified = same_finding h.certified;
  found = ladder_found n h.certified h.found;
  lines = h.lines ∙ ap (λ (f : Form). before ++ lines_text (form_lines nl.rate plan f (Ladder n) (same_finding h.certified))) (sym form);
}

lattice_lines : (nl : NetlistValue) (a b : CircuitValue) (m n : Network) (plan : PlanOf) (before between after : List ℕ) → nl.form ≡ Two a b
    → AppendsCircuit A nl.rate plan a.elements m before between → AppendsCircuit B nl.rate plan b.elements n between after
    → AppendsCircuits nl (Lattice m n) plan before after
lattice_lines nl a b m n plan before between after form g h =
    record {
      certified = either_finding g.certified h.certified;
      found = lattice_found m n g.certified h.certified g.found h.found;
      lines =
          both_told (circuit_lines A nl.rate plan a.elements m g.certified) (circuit_lines B nl.rate plan b.elements n h.certified) before between after g.lines h.lines
          ∙ ap (λ (f : Form). before ++ lines_text (form_lines nl.rate plan f (Lattice m n) (either_finding g.certified h.certified))) (sym form);
    }

pub ladder_appends : (nl : NetlistValue) (ns : Networks) (rate : ℕ) (c : CircuitValue) (n : Network) (plan : PlanOf) (before after : List ℕ) → nl.form ≡ One c → ns ≡ Ladder n → rate ≡ nl.rate
    → AppendsCircuit Whole rate plan c.elements n before after → AppendsCircuits nl ns plan before after
ladder_appends nl ns rate c n plan before after form is same h =
    let here : AppendsCircuit Whole nl.rate plan c.elements n before after = subst (λ (r : ℕ). AppendsCircuit Whole r plan c.elements n before after) same h in
    subst (λ (x : Networks). AppendsCircuits nl x plan before after) (sym is) (ladder_lines nl c n plan before after form here)

pub lattice_appends : (nl : NetlistValue) (ns : Networks) (rate : ℕ) (a b : CircuitValue) (m n : Network) (plan : PlanOf) (before between after : List ℕ) → nl.form ≡ Two a b → ns ≡ Lattice m n
    → rate ≡ nl.rate → AppendsCircuit A rate plan a.elements m before between → AppendsCircuit B rate plan b.elements n between after → AppendsCircuits nl ns plan before after
lattice_appends nl ns rate a b m n plan before between after form is same g h =
    let first : AppendsCircuit A nl.rate plan a.elements m before between = subst (λ (r : ℕ). AppendsCircuit A r plan a.elements m before between) same g in
    let second : AppendsCircuit B nl.rate plan b.elements n between after = subst (λ (r : ℕ). AppendsCircuit B r plan b.elements n between after) same h in
    subst (λ (x : Networks). AppendsCircuits nl x plan before after) (sym is) (lattice_lines nl a b m n plan before between after form first second)
