-- The rules of the whole text, over a draft of all that is said.
use Rattle.std.proofs.Common.{◌≡◌, true, false, eqb, Option, Some, None, refl, sym, ap, ◌∙◌, arith}
use Rattle.std.specs.Prelude.{IfSome, IsSome, List, is_some}
use Rattle.std.proofs.lemmas.Bool.{eq-eqb, false≢true, ne_eqb}
use Rattle.wdf_text.specs.DecimalNumber.{DecimalNumber}
use Rattle.wdf_netlist.specs.declared.circuit_draft.CircuitDraft.{CircuitDraft}
use Rattle.wdf_netlist.specs.declared.draft.Draft.{Draft}
use Rattle.wdf_netlist.specs.Drafts.{IsFirstBranch, IsWholeDraft, KeepsDraft, Reflects}
use Rattle.wdf_netlist.specs.Gathering.{lattice_of}
use Rattle.wdf_netlist.specs.LineRules.{in_lattice}
use Rattle.wdf_netlist.specs.Statements.{Statement, branches}
use Rattle.wdf_netlist.specs.TextRules.{netlist_said}

-- the branches of a lattice that has both
pub whole_branches : (d : Draft) → KeepsDraft d → is_some d.termination ≡ true → IsSome d.first → (v : DecimalNumber) × (IfSome d.first (IsWholeDraft (Some v)) × IsWholeDraft (Some v) d.own)
whole_branches d k is second = by d.termination refl
  where
    by : (o : Option DecimalNumber) → d.termination ≡ o → (v : DecimalNumber) × (IfSome d.first (IsWholeDraft (Some v)) × IsWholeDraft (Some v) d.own)
    by None e = absurd (false≢true (sym (let h : is_some d.termination ≡ false = rw e refl in h) ∙ is))
    by (Some v) e = (v, (rw e at k.first, record { circuit = k.own; form = rw e at k.form; some = k.source (k.second second) }))

pub lattice_is : (d : Draft) (ss : List Statement) → Reflects d ss → is_some d.termination ≡ true → netlist_said ss ≡ lattice_of d.rate d.first d.own
lattice_is d ss r is = by d.first refl r.first
  where
    lattice : in_lattice ss ≡ true
    lattice = ap (is_some {T = DecimalNumber}) r.termination ∙ is

    by : (o : Option CircuitDraft) → d.first ≡ o → IsFirstBranch o ss → netlist_said ss ≡ lattice_of d.rate d.first d.own
    by None e few =
        let one : eqb (branches ss) 2 ≡ false = ne_eqb (branches ss) 2 (λ (h : branches ss ≡ 2). omega arith) in
        let said : netlist_said ss ≡ lattice_of d.rate None d.own = rw (lattice, r.rate, one) refl in
        said ∙ ap (λ (o : Option CircuitDraft). lattice_of d.rate o d.own) (sym e)
    by (Some f) e (two, i) =
        let both : eqb (branches ss) 2 ≡ true = eq-eqb (branches ss) 2 two in
        let said : netlist_said ss ≡ lattice_of d.rate (Some f) d.own = rw (lattice, r.rate, both, i.parts, i.root, r.own.parts, r.own.root) refl in
        said ∙ ap (λ (o : Option CircuitDraft). lattice_of d.rate o d.own) (sym e)
