-- What is not said yet where a line may stand.
use Rattle.std.proofs.Common.{◌≡◌, Bool, true, false, List, [], ◌∷◌, Option, Some, None, refl, sym, ◌∙◌}
use Rattle.std.specs.Prelude.{is_some}
use Rattle.std.specs.List.{list_all}
use Rattle.std.proofs.lemmas.Bool.{false≢true}
use Rattle.wdf_netlist.specs.declared.keyword.Keyword.{Keyword}
use Rattle.wdf_netlist.specs.declared.keyword.Keyword.TheVariants as keywords
use Rattle.wdf_netlist.specs.declared.net_kind.NetKind.{NetKind}
use Rattle.wdf_netlist.specs.declared.net_kind.NetKind.TheVariants.{Syntax}
use Rattle.wdf_netlist.specs.Statements.{Statement, branch, branches, element, first_said, is_rate, last_circuit, lattice, load, load_said, rate, rate_said, root, root_said, termination_said}
use Rattle.wdf_netlist.specs.LineRules.{double_fault, keyword_fault, may_stand, where_true}

-- a keyword without fault may stand, and is no second one
pub stands : (before : List Statement) (k : Keyword) → keyword_fault before k ≡ None → (may_stand before k ≡ true) × (double_fault before k ≡ None)
stands before k none = by (may_stand before k) refl
  where
    by : (t : Bool) → may_stand before k ≡ t → (may_stand before k ≡ true) × (double_fault before k ≡ None)
    by true e = (e, sym (let f : keyword_fault before k ≡ double_fault before k = rw e refl in f) ∙ none)
    by false e = let f : keyword_fault before k ≡ Some Syntax = rw e refl in absurd (let g : None ≡ Some Syntax = sym none ∙ f in cc)

nothing : {A : Type 0} (o : Option A) (kind : NetKind) → where_true (is_some o) kind ≡ None → o ≡ None
nothing None kind none = refl
nothing (Some x) kind none = absurd (cc)

pub no_rate : (before : List Statement) → keyword_fault before keywords.Rate ≡ None → first_said rate_said before ≡ None
no_rate before none = nothing (first_said rate_said before) _ (stands before keywords.Rate none).1

pub no_load : (before : List Statement) → keyword_fault before keywords.Load ≡ None → first_said load_said before ≡ None
no_load before none = nothing (first_said load_said before) _ (stands before keywords.Load none).1

pub no_root : (before : List Statement) → keyword_fault before keywords.Root ≡ None → first_said root_said (last_circuit before) ≡ None
no_root before none = nothing (first_said root_said (last_circuit before)) _ (stands before keywords.Root none).1

pub no_shallow : (before : List Statement) → keyword_fault before keywords.Shallow ≡ None → first_said root_said (last_circuit before) ≡ None
no_shallow before none = nothing (first_said root_said (last_circuit before)) _ (stands before keywords.Shallow none).1

-- rate lines say no termination
rates_alone : (ss : List Statement) → list_all is_rate ss ≡ true → first_said termination_said ss ≡ None
rates_alone [] all = refl
rates_alone (rate n ∷ ss) all = rates_alone ss all
rates_alone (element p ∷ ss) all = absurd (false≢true all)
rates_alone (load m ∷ ss) all = absurd (false≢true all)
rates_alone (root r ∷ ss) all = absurd (false≢true all)
rates_alone (lattice v ∷ ss) all = absurd (false≢true all)
rates_alone (branch p ∷ ss) all = absurd (false≢true all)

pub no_lattice : (before : List Statement) → keyword_fault before keywords.Lattice ≡ None → first_said termination_said before ≡ None
no_lattice before none = rates_alone before (stands before keywords.Lattice none).0

-- no branch is begun behind rates alone
pub no_branches : (ss : List Statement) → list_all is_rate ss ≡ true → branches ss ≡ 0
no_branches [] all = refl
no_branches (rate n ∷ ss) all = no_branches ss all
no_branches (element p ∷ ss) all = absurd (false≢true all)
no_branches (load m ∷ ss) all = absurd (false≢true all)
no_branches (root r ∷ ss) all = absurd (false≢true all)
no_branches (lattice v ∷ ss) all = absurd (false≢true all)
no_branches (branch p ∷ ss) all = absurd (false≢true all)
