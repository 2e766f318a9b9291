-- A netlist and its networks have one report: no network has both a certificate and an obstruction.
use Rattle.std.proofs.Common.{◌≡◌, ℕ, Bool, true, false, List, ◌++◌, Some, refl, sym, ap, ◌∙◌}
use Rattle.wdf_law.specs.declared.side.Side.{Side}
use Rattle.wdf_law.specs.declared.side.Side.TheVariants.{Whole, A, B}
use Rattle.wdf_law.specs.Network.{Network}
use Rattle.wdf_netlist.specs.declared.form.Form.{Form}
use Rattle.wdf_netlist.specs.declared.form.Form.TheVariants.{Ladder as One, Lattice as Two}
use Rattle.wdf_bounds.specs.Plans.{PlanOf}
use Rattle.wdf_lattice.specs.declared.networks.Networks.{Networks}
use Rattle.wdf_lattice.specs.declared.networks.Networks.TheVariants.{Ladder, Lattice}
use Rattle.wdf_lattice.specs.Sides.{network_at}
use Rattle.wdf_cert.specs.Laws.{IsOneMaking}
use Rattle.wdf_reporting.specs.Findings.{IsFinding}
use Rattle.wdf_reporting.specs.ReportLaws.{HasOneReport}
use Rattle.wdf_reporting.specs.ReportText.{circuit_lines, form_lines, head_lines, lines_text}

one_finding : (n : Network) (a b : Bool) → IsOneMaking → IsFinding n a → IsFinding n b → a ≡ b
one_finding n true true one h k = refl
one_finding n true false one h k = absurd ((one n).either h.0 k.0 k.1 h.1 h.2 k.2)
one_finding n false true one h k = absurd ((one n).either k.0 h.0 h.1 k.1 k.2 h.2)
one_finding n false false one h k = refl

same_lines : (rate : ℕ) (plan : PlanOf) (form : Form) (ns : Networks) (f g : Side → Bool) → ((side : Side) (m : Network) → network_at ns side ≡ Some m → f side ≡ g side)
    → form_lines rate plan form ns f ≡ form_lines rate plan form ns g
same_lines rate plan (One c) (Ladder n) f g same = ap (circuit_lines Whole rate plan c.elements n) (same Whole n refl)
same_lines rate plan (One c) (Lattice m n) f g same = refl
same_lines rate plan (Two a b) (Ladder n) f g same = refl
same_lines rate plan (Two a b) (Lattice m n) f g same =
    ap (λ (x : Bool). circuit_lines A rate plan a.elements m x ++ circuit_lines B rate plan b.elements n (f B)) (same A m refl)
    ∙ ap (λ (x : Bool). circuit_lines A rate plan a.elements m (g A) ++ circuit_lines B rate plan b.elements n x) (same B n refl)

pub one_report : IsOneMaking → HasOneReport
one_report one n ns plan text other r s =
    let same = same_lines n.rate plan n.form ns r.certified s.certified (λ side m there. one_finding m (r.certified side) (s.certified side) one (r.found side m there) (s.found side m there)) in
    r.lines ∙ ap (λ (ls : List (List ℕ)). lines_text (head_lines n plan ++ ls)) same ∙ sym s.lines
