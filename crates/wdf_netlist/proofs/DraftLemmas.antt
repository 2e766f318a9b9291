-- What a draft holds once it has taken in one statement more.
use Rattle.std.proofs.Common.{◌≡◌, ℕ, suc, ◌+◌, ◌≤◌, ◌≢◌, true, false, List, [], ◌∷◌, ◌++◌, Option, Some, None, refl, sym, ap, subst, ◌∙◌, inl, inr, arith}
use Rattle.std.specs.List.{list_all}
use Rattle.std.specs.Prelude.{IfSome, IsSome, IsTrue}
use Rattle.std.proofs.lemmas.Bool.{false≢true}
use Rattle.std.proofs.lemmas.List.{map-append}
use Rattle.wdf_text.specs.Names.{IsName, is_name_or_at_sign}
use Rattle.wdf_law.specs.Network.{is_source}
use Rattle.wdf_netlist.specs.declared.TheConstants.{MAX_RATE}
use Rattle.wdf_netlist.specs.Circuits.{IsElementValue}
use Rattle.wdf_netlist.specs.LineRules.{count_fault, termination}
use Rattle.wdf_netlist.specs.Kept.{AreOfForm, IsNextPart}
use Rattle.wdf_netlist.proofs.KeptLemmas.{kept_more, kept_none, of_branch, of_ladder}
use Rattle.wdf_text.specs.DecimalNumber.{DecimalNumber}
use Rattle.wdf_netlist.specs.declared.circuit_draft.CircuitDraft.{CircuitDraft}
use Rattle.wdf_netlist.specs.declared.draft.Draft.{Draft}
use Rattle.wdf_netlist.specs.declared.part.Part.{Part}
use Rattle.wdf_netlist.specs.declared.root_line.RootLine.{RootLine}
use Rattle.wdf_netlist.specs.Drafts.{BelongsTo, IsAtName, IsDraftOf, IsEmptyDraft, IsFirstBranch, IsNewPart, IsPushed, IsSourceAlone, IsWholeDraft, KeepsCircuit, KeepsDraft, Reflects}
use Rattle.wdf_netlist.specs.Statements.{Statement, branch, branch_part, branches, element, first_said, is_branch, is_rate, last_circuit, load_said, names_of, part_said, rate_said, root, root_said, termination_said}
use Rattle.wdf_netlist.proofs.NameLemmas.{and_false, and_true}
use Rattle.wdf_netlist.proofs.StandingLemmas.{no_branches}
use Rattle.wdf_netlist.proofs.StatementLemmas.{branches_more, branches_same, first_is_last, first_same, last_begun, last_same, parts_more, parts_same, rates_more, said_new, said_same}

-- ---- the circuit's draft

pub own_same : (d : CircuitDraft) (lines : List Statement) (s : Statement) → IsDraftOf d lines → part_said s ≡ None → root_said s ≡ None → IsDraftOf d (lines ++ s ∷ [])
own_same d lines s o none other = record { parts = parts_same lines s none ∙ o.parts; names = o.names; root = said_same root_said lines s other ∙ o.root }

pub own_part : (d e : CircuitDraft) (lines : List Statement) (p : Part) → IsDraftOf d lines → IsPushed d p e → IsDraftOf e (lines ++ element p ∷ [])
own_part d e lines p o i = record {
  parts = parts_more lines (element p) p refl ∙ ap (λ (l : List Part). l ++ p ∷ []) o.parts ∙ sym i.parts;
  names = i.names ∙ ap (λ (l : List (List ℕ)). l ++ p.name ∷ []) o.names ∙ sym (map-append (λ (q : Part). q.name) d.parts.items (p ∷ [])) ∙ ap names_of (sym i.parts);
  root = said_same root_said lines (element p) refl ∙ o.root ∙ sym i.root;
}

pub own_root : (d e : CircuitDraft) (lines : List Statement) (r : RootLine) → IsDraftOf d lines → first_said root_said lines ≡ None
    → e.parts ≡ d.parts → e.names ≡ d.names → e.root ≡ Some r → IsDraftOf e (lines ++ root r ∷ [])
own_root d e lines r o none parts names is = record {
  parts = parts_same lines (root r) refl ∙ o.parts ∙ sym (ap (λ v. v.items) parts);
  names = names ∙ o.names ∙ sym (ap (λ v. names_of v.items) parts);
  root = said_new root_said lines (root r) r none refl ∙ sym is;
}

-- ---- the whole draft

first_kept : (first : Option CircuitDraft) (before : List Statement) (s : Statement) → is_branch s ≡ false → IsFirstBranch first before → IsFirstBranch first (before ++ s ∷ [])
first_kept None before s other few = omega (arith, branches_same before s other)
first_kept (Some d) before s other (two, o) =
    (branches_same before s other ∙ two, rw (first_same before s (omega arith) (inl (omega arith))) o)

pub rates_kept : (before : List Statement) (s : Statement) → is_rate s ≡ true → list_all is_rate (before ++ s ∷ []) ≡ list_all is_rate before
rates_kept before s is = rates_more before s ∙ rw is (and_true (list_all is_rate before))

pub rates_lost : (before : List Statement) (s : Statement) → is_rate s ≡ false → list_all is_rate (before ++ s ∷ []) ≡ false
rates_lost before s other = rates_more before s ∙ rw other (and_false (list_all is_rate before))

-- a line that begins no branch
pub more : (d e : Draft) (before : List Statement) (s : Statement) → Reflects d before → is_branch s ≡ false
    → first_said rate_said (before ++ s ∷ []) ≡ e.rate → first_said load_said (before ++ s ∷ []) ≡ e.load → first_said termination_said (before ++ s ∷ []) ≡ e.termination
    → list_all is_rate (before ++ s ∷ []) ≡ e.only_rates → e.begun ≡ d.begun → IsDraftOf e.own (last_circuit before ++ s ∷ []) → e.first ≡ d.first → KeepsDraft e → Reflects e (before ++ s ∷ [])
more d e before s r other rate load termination rates begun own first keeps = record {
  rate = rate;
  load = load;
  termination = termination;
  only_rates = rates;
  begun = branches_same before s other ∙ r.begun ∙ sym begun;
  own = rw (last_same before s other) own;
  first = rw first (first_kept d.first before s other r.first);
  keeps = keeps;
}

-- the first branch, once one more is begun
pub first_more : (d : Draft) (before : List Statement) (p : Part) → Reflects d before → d.begun ≡ 1 → IsFirstBranch (Some d.own) (before ++ branch p ∷ [])
first_more d before p r one =
    let count : branches before ≡ 1 = r.begun ∙ one in
    let two : branches (before ++ branch p ∷ []) ≡ 2 = branches_more before (branch p) refl ∙ ap (λ (n : ℕ). suc n) count in
    (two, rw (first_same before (branch p) (omega arith) (inr refl), first_is_last before count) r.own)

pub first_none : (d : Draft) (before : List Statement) (p : Part) → Reflects d before → d.begun ≡ 0 → IsFirstBranch d.first (before ++ branch p ∷ [])
first_none d before p r none = by d.first r.first
  where
    by : (first : Option CircuitDraft) → IsFirstBranch first before → IsFirstBranch first (before ++ branch p ∷ [])
    by None few = omega (arith, branches_more before (branch p) refl, r.begun)
    by (Some o) (two, i) = absurd (omega (arith, r.begun))

-- a branch line
pub begun : (d e : Draft) (before : List Statement) (p : Part) → Reflects d before
    → e.rate ≡ d.rate → e.load ≡ d.load → e.termination ≡ d.termination → e.only_rates ≡ false → e.begun ≡ d.begun + 1
    → e.own.parts.items ≡ p ∷ [] → e.own.names ≡ p.name ∷ [] → e.own.root ≡ None → IsFirstBranch e.first (before ++ branch p ∷ []) → KeepsDraft e → Reflects e (before ++ branch p ∷ [])
begun d e before p r rate load termination rates count parts names none first keeps = record {
  rate = said_same rate_said before (branch p) refl ∙ r.rate ∙ sym rate;
  load = said_same load_said before (branch p) refl ∙ r.load ∙ sym load;
  termination = said_same termination_said before (branch p) refl ∙ r.termination ∙ sym termination;
  only_rates = rates_lost before (branch p) refl ∙ sym rates;
  begun = omega (arith, branches_more before (branch p) refl, r.begun);
  own = rw (last_begun before (branch p) refl) (record { parts = sym parts; names = names ∙ ap names_of (sym parts); root = sym none });
  first = first;
  keeps = keeps;
}

-- ---- what a draft keeps

-- the circuit's parts stay as they are
pub keeps_same : (d e : Draft) → KeepsDraft d → e.own.parts ≡ d.own.parts → e.own.names ≡ d.own.names → e.termination ≡ d.termination → e.begun ≡ d.begun → e.first ≡ d.first
    → (e.only_rates ≡ true → d.only_rates ≡ true) → IfSome e.rate (λ n. (1 ≤ n) × (n ≤ MAX_RATE)) → IfSome e.own.root IsAtName → KeepsDraft e
keeps_same d e k parts names termination count first rates rate chosen = record {
  own = record { names = names ∙ k.own.names ∙ sym (ap (λ v. names_of v.items) parts); parts = rw parts k.own.parts; root = chosen };
  form = rw (termination, parts) k.form;
  source = λ some. rw parts (k.source (let h : 1 ≤ d.begun = omega arith in h));
  none = λ only. ap (λ v. v.items) parts ∙ k.none (rates only);
  first = rw (first, termination) k.first;
  second = λ some. (let h : 1 ≤ d.begun = k.second (rw first at some) in omega arith);
  rate = rate;
  termination = rw termination k.termination;
}

-- a line that is no rate's
pub not_rates : {P : Type 0} → false ≡ true → P
not_rates h = absurd (false≢true h)

pub next_part : (d : CircuitDraft) (p : Part) → KeepsCircuit d → IsNewPart d p → IsNextPart d.parts.items p
next_part d p k n = record {
  room = n.room;
  named = n.named;
  new = rw (← k.names) n.new;
  ends_differ = n.ends_differ;
  from_named = n.from_named;
  to_named = n.to_named;
  value = n.value;
}

keeps_pushed : (d e : CircuitDraft) (p : Part) → KeepsCircuit d → IsPushed d p e → IsNextPart d.parts.items p → KeepsCircuit e
keeps_pushed d e p k i n = record {
  names = i.names ∙ ap (λ (l : List (List ℕ)). l ++ p.name ∷ []) k.names ∙ sym (map-append (λ (q : Part). q.name) d.parts.items (p ∷ [])) ∙ ap names_of (sym i.parts);
  parts = rw i.parts (kept_more d.parts.items p k.parts n);
  root = rw i.root k.root;
}

of_form : (termination : Option DecimalNumber) (parts : List Part) (p : Part) → AreOfForm termination parts → IsName p.name → (IsSome termination → (parts ≢ []) × (is_source p.kind ≡ false))
    → AreOfForm termination (parts ++ p ∷ [])
of_form None parts p form named belongs = of_ladder parts p form named
of_form (Some v) parts p form named belongs = let b = belongs refl in of_branch v parts p form b.0 named b.1

not_empty : (parts : List Part) (p : Part) → parts ++ p ∷ [] ≢ []
not_empty [] p e = absurd (cc)
not_empty (q ∷ parts) p e = absurd (cc)

pub keeps_element : (d e : Draft) (p : Part) → KeepsDraft d → IsPushed d.own p e.own → IsNewPart d.own p → IsName p.name → BelongsTo d p.kind
    → e.termination ≡ d.termination → e.begun ≡ d.begun → e.first ≡ d.first → e.only_rates ≡ false → e.rate ≡ d.rate → KeepsDraft e
keeps_element d e p k i n named b termination count first rates rate = record {
  own = keeps_pushed d.own e.own p k.own i (next_part d.own p k.own n);
  form = rw (termination, i.parts) (of_form d.termination d.own.parts.items p k.form named (λ some. (k.source (b some).0, (b some).1)));
  source = λ some. rw i.parts (not_empty d.own.parts.items p);
  none = λ only. not_rates (sym rates ∙ only);
  first = rw (first, termination) k.first;
  second = λ some. (let h : 1 ≤ d.begun = k.second (rw first at some) in omega arith);
  rate = rw rate k.rate;
  termination = rw termination k.termination;
}

-- a lattice line, behind rates alone
pub keeps_lattice : (d e : Draft) (v : DecimalNumber) → KeepsDraft d → d.only_rates ≡ true → d.first ≡ None → IsElementValue v → e.termination ≡ Some v
    → e.own ≡ d.own → e.begun ≡ d.begun → e.first ≡ d.first → e.only_rates ≡ false → e.rate ≡ d.rate → KeepsDraft e
keeps_lattice d e v k only alone value termination own count first rates rate = record {
  own = rw own k.own;
  form = rw (termination, own, k.none only) tt;
  source = λ some. rw own (k.source (let h : 1 ≤ d.begun = omega arith in h));
  none = λ h. not_rates (sym rates ∙ h);
  first = rw (first, alone) tt;
  second = λ some. not_rates (rw (first, alone) at some);
  rate = rw rate k.rate;
  termination = rw termination value;
}

-- a branch line
pub keeps_branch : (d e : Draft) (p : Part) → KeepsDraft d → IsSourceAlone e.own p → d.termination ≡ Some p.value
    → e.termination ≡ d.termination → IfSome e.first (IsWholeDraft d.termination) → e.only_rates ≡ false → e.rate ≡ d.rate → 1 ≤ e.begun → KeepsDraft e
keeps_branch d e p k alone lattice termination first rates rate one = record {
  own = record { names = alone.names ∙ ap names_of (sym alone.parts); parts = rw alone.parts (kept_more [] p kept_none alone.next); root = rw alone.root tt };
  form = rw (termination, lattice, alone.parts) (alone.source, ((λ i d within. absurd (omega arith)), (λ i d within. absurd (omega arith))));
  source = λ some. rw alone.parts (not_empty [] p);
  none = λ h. not_rates (sym rates ∙ h);
  first = rw termination first;
  second = λ some. one;
  rate = rw rate k.rate;
  termination = rw termination k.termination;
}

-- the first branch is whole once the second is begun
pub whole_branch : (d : Draft) → KeepsDraft d → d.begun ≡ 1 → IfSome (Some d.own) (IsWholeDraft d.termination)
whole_branch d k one = record { circuit = k.own; form = k.form; some = k.source (omega arith) }

pub no_first : (d : Draft) (before : List Statement) → Reflects d before → d.only_rates ≡ true → d.first ≡ None
no_first d before r only = by d.first refl r.first
  where
    none : branches before ≡ 0
    none = no_branches before (r.only_rates ∙ only)

    by : (o : Option CircuitDraft) → d.first ≡ o → IsFirstBranch o before → d.first ≡ None
    by None e few = e
    by (Some f) e (two, i) = absurd (omega (arith, none))

-- the termination that is said
pub termination_is : (before : List Statement) (v : DecimalNumber) → first_said termination_said before ≡ Some v → termination before ≡ v
termination_is before v is = rw is refl

pub source_next : (p : Part) → p ≡ branch_part p.from p.to p.value → p.from ≢ p.to → IsName p.from → IsName p.to → IsElementValue p.value → IsNextPart [] p
source_next p is differ from to value =
    record {
      room = ap (λ (q : Part). count_fault [] q.kind) is;
      named = subst (λ (q : Part). IsTrue (is_name_or_at_sign q.name)) (sym is) refl;
      new = refl;
      ends_differ = differ;
      from_named = from;
      to_named = to;
      value = value;
    }

pub source_alone : (d e : CircuitDraft) (p : Part) → IsEmptyDraft d → IsPushed d p e → p ≡ branch_part p.from p.to p.value → IsNextPart [] p → IsSourceAlone e p
source_alone d e p none i is next = record {
  parts = i.parts ∙ ap (λ (l : List Part). l ++ p ∷ []) none.parts;
  names = i.names ∙ ap (λ (l : List (List ℕ)). l ++ p.name ∷ []) none.names;
  root = i.root ∙ none.root;
  source = is;
  next = next;
}

pub valued : (d : Draft) (v : DecimalNumber) → KeepsDraft d → d.termination ≡ Some v → IsElementValue v
valued d v k is = rw is at k.termination
