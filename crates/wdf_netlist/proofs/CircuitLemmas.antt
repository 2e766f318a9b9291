-- What allowed parts give is a circuit, and circuits give a netlist.
use Rattle.std.proofs.Common.{◌≡◌, ◌≢◌, ℕ, zero, suc, ◌+◌, ◌<◌, ◌≤◌, Bool, true, false, cond, ◌||◌, eqb, ltb, List, [], ◌∷◌, length, map, flat_map, fold, Option, Some, None, Ok, Err, refl, sym, ap, ◌∙◌, subst, arith}
use Rattle.std.specs.Prelude.{All, IfSome, IsTrue, bytes_eq, option_map, position, slice_get}
use Rattle.std.specs.List.{list_any, position_or_len}
use Rattle.std.proofs.lemmas.Bool.{cond-true, cond-false, false≢true, ltb-true}
use Rattle.std.proofs.lemmas.List.{length-map}
use Rattle.std.proofs.lemmas.List.Sums.{sum_by-cons}
use Rattle.std.proofs.lemmas.Option.{slice_get-map}
use Rattle.wdf_text.specs.DecimalNumber.{DecimalNumber}
use Rattle.wdf_text.specs.Names.{IsName, at_sign, is_name_or_at_sign}
use Rattle.wdf_law.specs.Network.{is_source, is_reactance, is_resistor}
use Rattle.wdf_law.specs.declared.kind.Kind.{Kind}
use Rattle.wdf_law.specs.declared.kind.Kind.TheVariants.{Res, Cap, Ind, Src}
use Rattle.wdf_law.specs.declared.outlet.Outlet.{Outlet}
use Rattle.wdf_law.specs.declared.outlet.Outlet.TheVariants as outlets
use Rattle.wdf_netlist.specs.declared.element.Element.{Element}
use Rattle.wdf_netlist.specs.declared.mention.Mention.{Mention}
use Rattle.wdf_netlist.specs.declared.net_kind.NetKind.TheVariants as kinds
use Rattle.wdf_netlist.specs.declared.part.Part.{Part}
use Rattle.wdf_netlist.specs.declared.root_choice.RootChoice.{RootChoice}
use Rattle.wdf_netlist.specs.declared.root_choice.RootChoice.TheVariants as roots
use Rattle.wdf_netlist.specs.declared.root_line.RootLine.{RootLine}
use Rattle.wdf_netlist.specs.declared.root_line.RootLine.TheVariants.{At, Shallow}
use Rattle.wdf_netlist.specs.Circuits.{HasOutlet, HasRoot, IsCircuit, IsElementValue, count_kind, first_mentions, kind_at, mentions, names, with_new}
use Rattle.wdf_netlist.specs.Drafts.{IsAtName}
use Rattle.wdf_netlist.specs.Kept.{AreOfForm, KeepsParts}
use Rattle.wdf_netlist.specs.LineRules.{count_parts, has_source}
use Rattle.wdf_netlist.specs.Netlists.{IsBranch, IsLadder, branch_source}
use Rattle.wdf_netlist.specs.Statements.{branch_part, names_of}
use Rattle.wdf_netlist.specs.TextRules.{circuit_of, fault_of_name, is_resistor_at, load_number, nodes_of, number_of_name, numbered, place_of, root_choice}
use Rattle.wdf_netlist.proofs.NameLemmas.{differ_bytes, same_bytes, same_name}
use Rattle.wdf_netlist.proofs.NodeLemmas.{apart, grows, in_order, mentioned, new_added, nodes_all, nodes_distinct, placed}
use Rattle.wdf_netlist.proofs.SourceLemmas.{numbers_are, numbers_from}

-- ---- lists

-- what holds of each image
all_map : {A B : Type 0} (f : A → B) (P : B → Type 0) (xs : List A) → All (λ (x : A). P (f x)) xs → All P (map f xs)
all_map f P [] all k d within = absurd (omega arith)
all_map f P (x ∷ xs) all zero d within = all 0 x (omega arith)
all_map f P (x ∷ xs) all (suc k) d within = all_map f P xs (λ j e less. all (suc j) e (omega arith)) k d (omega arith)

-- what holds of each element by its place
each : {A : Type 0} (P : A → Type 0) (xs : List A) (i : ℕ) (x : A) → All P xs → slice_get xs i ≡ Some x → P x
each P [] i x all e = absurd (cc)
each P (y ∷ xs) zero x all e = let same : y ≡ x = cc in subst P same (all 0 y (omega arith))
each P (y ∷ xs) (suc i) x all e = each P xs i x (λ k d less. all (suc k) d (omega arith)) e

all_both : {A : Type 0} (P Q R : A → Type 0) (xs : List A) → All P xs → All Q xs → ((x : A) → P x → Q x → R x) → All R xs
all_both P Q R [] p q both k d within = absurd (omega arith)
all_both P Q R (x ∷ xs) p q both zero d within = both x (p 0 x (omega arith)) (q 0 x (omega arith))
all_both P Q R (x ∷ xs) p q both (suc k) d within = all_both P Q R xs (λ j e less. p (suc j) e (omega arith)) (λ j e less. q (suc j) e (omega arith)) both k d (omega arith)

-- ---- the ends of parts

abbrev pub ends_of : List Part → List (List ℕ)
ends_of parts = flat_map (λ (p : Part). p.from ∷ p.to ∷ []) parts

ends_from : (P : List ℕ → Type 0) (parts : List Part) → All P (ends_of parts) → All (λ (p : Part). P p.from) parts
ends_from P [] all k d within = absurd (omega arith)
ends_from P (p ∷ ps) all zero d within = all 0 p.from (omega arith)
ends_from P (p ∷ ps) all (suc k) d within = ends_from P ps (λ j e less. all (suc (suc j)) e (omega arith)) k d (omega arith)

ends_to : (P : List ℕ → Type 0) (parts : List Part) → All P (ends_of parts) → All (λ (p : Part). P p.to) parts
ends_to P [] all k d within = absurd (omega arith)
ends_to P (p ∷ ps) all zero d within = all 1 p.to (omega arith)
ends_to P (p ∷ ps) all (suc k) d within = ends_to P ps (λ j e less. all (suc (suc j)) e (omega arith)) k d (omega arith)

ends_all : (P : List ℕ → Type 0) (parts : List Part) → All (λ (p : Part). P p.from) parts → All (λ (p : Part). P p.to) parts → All P (ends_of parts)
ends_all P [] a b k d within = absurd (omega arith)
ends_all P (p ∷ ps) a b zero d within = a 0 p (omega arith)
ends_all P (p ∷ ps) a b (suc zero) d within = b 0 p (omega arith)
ends_all P (p ∷ ps) a b (suc (suc k)) d within = ends_all P ps (λ j e less. a (suc j) e (omega arith)) (λ j e less. b (suc j) e (omega arith)) k d (omega arith)

mentions_are : (nodes : List (List ℕ)) (parts : List Part) → mentions (map (numbered nodes) parts) ≡ map (place_of nodes) (ends_of parts)
mentions_are nodes [] = refl
mentions_are nodes (p ∷ ps) = ap (λ (l : List ℕ). place_of nodes p.from ∷ place_of nodes p.to ∷ l) (mentions_are nodes ps)

-- ---- elements

names_same : (nodes : List (List ℕ)) (parts : List Part) → names (map (numbered nodes) parts) ≡ names_of parts
names_same nodes [] = refl
names_same nodes (p ∷ ps) = ap (λ (l : List (List ℕ)). p.name ∷ l) (names_same nodes ps)

kinds_same : (test : Kind → Bool) (nodes : List (List ℕ)) (parts : List Part) → count_kind test (map (numbered nodes) parts) ≡ count_parts test parts
kinds_same test nodes [] = refl
kinds_same test nodes (p ∷ ps) =
    sum_by-cons (λ (e : Element). cond (test e.kind) 1 0) (numbered nodes p) (map (numbered nodes) ps)
    ∙ ap (λ (n : ℕ). cond (test p.kind) 1 0 + n) (kinds_same test nodes ps)
    ∙ sym (sum_by-cons (λ (q : Part). cond (test q.kind) 1 0) p ps)

some_source : (parts : List Part) → has_source parts ≡ true → 1 ≤ count_parts is_source parts
some_source [] is = absurd (false≢true is)
some_source (p ∷ ps) is = by (is_source p.kind) refl (some_source ps)
  where
    count : count_parts is_source (p ∷ ps) ≡ cond (is_source p.kind) 1 0 + count_parts is_source ps
    count = sum_by-cons (λ (q : Part). cond (is_source q.kind) 1 0) p ps

    by : (t : Bool) → is_source p.kind ≡ t → (has_source ps ≡ true → 1 ≤ count_parts is_source ps) → 1 ≤ count_parts is_source (p ∷ ps)
    by true e more = omega (arith, count, cond-true {A = ℕ} (is_source p.kind) 1 0 e)
    by false e more = omega (arith, count, more (sym (let h : has_source (p ∷ ps) ≡ has_source ps = rw e refl in h) ∙ is))

-- what parts give with an outlet and a root
pub circuit_kept : (parts : List Part) (outlet : Outlet) (root : RootChoice) → KeepsParts parts → 2 ≤ length parts → has_source parts ≡ true
    → HasOutlet (map (numbered (nodes_of parts)) parts) outlet → HasRoot (map (numbered (nodes_of parts)) parts) root → IsCircuit (circuit_of parts outlet root)
circuit_kept parts outlet root k two source load chosen =
    let nodes = nodes_of parts in
    let long : length (map (numbered nodes) parts) ≡ length parts = length-map parts (numbered nodes) in
    let there = mentioned (ends_of parts) in
    let from_there = ends_from (λ (x : List ℕ). list_any (bytes_eq x) nodes ≡ true) parts there in
    let to_there = ends_to (λ (x : List ℕ). list_any (bytes_eq x) nodes ≡ true) parts there in
    record {
      fewest = omega (arith, long);
      most = omega (arith, long, k.most);
      most_reactances = omega (arith, kinds_same is_reactance nodes parts, k.most_reactances);
      fewest_sources = omega (arith, kinds_same is_source nodes parts, some_source parts source);
      most_sources = omega (arith, kinds_same is_source nodes parts, k.most_sources);
      named = all_map (numbered nodes) (λ (e : Element). IsTrue (is_name_or_at_sign e.name)) parts k.named;
      distinct = rw (names_same nodes parts) k.distinct;
      ends_differ = all_map (numbered nodes) (λ (e : Element). e.from ≢ e.to) parts
          (all_both (λ (p : Part). (list_any (bytes_eq p.from) nodes ≡ true) × (list_any (bytes_eq p.to) nodes ≡ true)) (λ (p : Part). p.from ≢ p.to) (λ (p : Part). place_of nodes p.from ≢ place_of nodes p.to) parts
          (all_both (λ (p : Part). list_any (bytes_eq p.from) nodes ≡ true) (λ (p : Part). list_any (bytes_eq p.to) nodes ≡ true)
          (λ (p : Part). (list_any (bytes_eq p.from) nodes ≡ true) × (list_any (bytes_eq p.to) nodes ≡ true)) parts from_there to_there (λ p a b. (a, b)))
          k.ends_differ (λ p a b. apart nodes p.from p.to a.0 a.1 b));
      from_node = all_map (numbered nodes) (λ (e : Element). e.from < length nodes) parts
          (all_both (λ (p : Part). list_any (bytes_eq p.from) nodes ≡ true) (λ (p : Part). p.from ≢ p.to) (λ (p : Part). place_of nodes p.from < length nodes) parts from_there k.ends_differ (λ p a b. placed nodes p.from a));
      to_node = all_map (numbered nodes) (λ (e : Element). e.to < length nodes) parts
          (all_both (λ (p : Part). list_any (bytes_eq p.to) nodes ≡ true) (λ (p : Part). p.from ≢ p.to) (λ (p : Part). place_of nodes p.to < length nodes) parts to_there k.ends_differ (λ p a b. placed nodes p.to a));
      values = all_map (numbered nodes) (λ (e : Element). IsElementValue e.value) parts k.values;
      nodes_named = nodes_all IsName (ends_of parts) (ends_all IsName parts k.from_named k.to_named);
      nodes_distinct = nodes_distinct (ends_of parts);
      nodes_in_order = ap (first_mentions eqb) (mentions_are nodes parts) ∙ in_order (ends_of parts);
      outlet = load;
      root = chosen;
    }

-- ---- a load and a root

-- the place that is found
found_at : (test : List ℕ → Bool) (xs : List (List ℕ)) (i : ℕ) → position test xs ≡ Some i → position_or_len test xs ≡ i
found_at test xs i e = by (ltb (position_or_len test xs) (length xs)) refl
  where
    by : (t : Bool) → ltb (position_or_len test xs) (length xs) ≡ t → position_or_len test xs ≡ i
    by true h = let same : Some (position_or_len test xs) ≡ Some i = sym (cond-true _ _ _ h) ∙ e in cc
    by false h = let bad : None ≡ Some i = sym (cond-false _ _ _ h) ∙ e in absurd (cc)

-- a place that is found is one of the list
pub found_within : (parts : List Part) (name : List ℕ) (i : ℕ) → number_of_name parts name ≡ Some i → i < length (names_of parts)
found_within parts name i e = by (ltb (position_or_len (bytes_eq name) (names_of parts)) (length (names_of parts))) refl
  where
    by : (t : Bool) → ltb (position_or_len (bytes_eq name) (names_of parts)) (length (names_of parts)) ≡ t → i < length (names_of parts)
    by true h =
        let some : number_of_name parts name ≡ Some (position_or_len (bytes_eq name) (names_of parts)) = cond-true _ _ _ h in
        let same : Some (position_or_len (bytes_eq name) (names_of parts)) ≡ Some i = sym some ∙ e in
        let is : position_or_len (bytes_eq name) (names_of parts) ≡ i = cc in
        omega (arith, ltb-true _ _ h)
    by false h = let none : number_of_name parts name ≡ None = cond-false _ _ _ h in absurd (let g : None ≡ Some i = sym none ∙ e in cc)

pub load_stands : (parts : List Part) (m : Mention) (i : ℕ) → load_number parts m ≡ Ok i → is_resistor_at parts i ≡ true
load_stands parts m i e = by (number_of_name parts m.name) refl
  where
    tested : (j : ℕ) (t : Bool) → is_resistor_at parts j ≡ t → load_number parts m ≡ (cond (is_resistor_at parts j) (Ok j) (Err (fault_of_name kinds.LoadNotResistor m))) → is_resistor_at parts i ≡ true
    tested j true h g =
        let ok : Ok j ≡ Ok i = sym (g ∙ cond-true _ _ _ h) ∙ e in
        let same : j ≡ i = cc in
        ap (is_resistor_at parts) (sym same) ∙ h
    tested j false h g = absurd (let bad : Err (fault_of_name kinds.LoadNotResistor m) ≡ Ok i = sym (g ∙ cond-false _ _ _ h) ∙ e in cc)

    by : (o : Option ℕ) → number_of_name parts m.name ≡ o → is_resistor_at parts i ≡ true
    by None h = absurd (let bad : Err (fault_of_name kinds.LoadUnknown m) ≡ Ok i = sym (let g : load_number parts m ≡ Err (fault_of_name kinds.LoadUnknown m) = rw h refl in g) ∙ e in cc)
    by (Some j) h = tested j (is_resistor_at parts j) refl (rw h refl)

is_res : (k : Kind) → is_resistor k ≡ true → k ≡ Res
is_res Res h = refl
is_res Cap h = absurd (false≢true h)
is_res Ind h = absurd (false≢true h)
is_res Src h = absurd (false≢true h)

pub has_load : (nodes : List (List ℕ)) (parts : List Part) (i : ℕ) → is_resistor_at parts i ≡ true → HasOutlet (map (numbered nodes) parts) (outlets.Load i)
has_load nodes parts i is = by (slice_get parts i) refl
  where
    by : (o : Option Part) → slice_get parts i ≡ o → kind_at (map (numbered nodes) parts) i ≡ Some Res
    by None e = absurd (false≢true (sym (let h : is_resistor_at parts i ≡ false = rw e refl in h) ∙ is))
    by (Some p) e =
        let kind : is_resistor p.kind ≡ true = sym (let h : is_resistor_at parts i ≡ is_resistor p.kind = rw e refl in h) ∙ is in
        ap (option_map (λ (x : Element). x.kind)) (slice_get-map (numbered nodes) parts i ∙ ap (option_map (numbered nodes)) e) ∙ ap (λ (k : Kind). Some k) (is_res p.kind kind)

-- a source and a resistor are two elements
pub two_elements : (parts : List Part) (i : ℕ) → has_source parts ≡ true → is_resistor_at parts i ≡ true → 2 ≤ length parts
two_elements [] i source load = absurd (false≢true source)
two_elements (p ∷ []) zero source load = absurd (both p.kind source load)
  where
    both : (k : Kind) → (is_source k || false) ≡ true → is_resistor k ≡ true → ⊥
    both Res s l = false≢true s
    both Cap s l = false≢true s
    both Ind s l = false≢true s
    both Src s l = false≢true l
two_elements (p ∷ []) (suc i) source load = absurd (false≢true load)
two_elements (p ∷ q ∷ ps) i source load = omega arith

pub root_stands : (nodes : List (List ℕ)) (parts : List Part) (line : Option RootLine) (root : RootChoice) → root_choice parts line ≡ Ok root → HasRoot (map (numbered nodes) parts) root
root_stands nodes parts None root e = let same : roots.Source ≡ root = cc in subst (HasRoot (map (numbered nodes) parts)) same tt
root_stands nodes parts (Some Shallow) root e = let same : roots.Shallow ≡ root = cc in subst (HasRoot (map (numbered nodes) parts)) same tt
root_stands nodes parts (Some (At m)) root e = by (number_of_name parts m.name) refl
  where
    by : (o : Option ℕ) → number_of_name parts m.name ≡ o → HasRoot (map (numbered nodes) parts) root
    by None h = absurd (let bad : Err (fault_of_name kinds.RootUnknown m) ≡ Ok root = sym (let g : root_choice parts (Some (At m)) ≡ Err (fault_of_name kinds.RootUnknown m) = rw h refl in g) ∙ e in cc)
    by (Some i) h =
        let ok : Ok (roots.Element i) ≡ Ok root = sym (let g : root_choice parts (Some (At m)) ≡ Ok (roots.Element i) = rw h refl in g) ∙ e in
        let same : roots.Element i ≡ root = cc in
        subst (HasRoot (map (numbered nodes) parts)) same (omega (arith, found_within parts m.name i h, length-map parts (λ (p : Part). p.name), length-map parts (numbered nodes)))

-- ---- a ladder

pub ladder_circuit : (parts : List Part) (m : Mention) (i : ℕ) (line : Option RootLine) (root : RootChoice) → KeepsParts parts → has_source parts ≡ true
    → load_number parts m ≡ Ok i → root_choice parts line ≡ Ok root → IsCircuit (circuit_of parts (outlets.Load i) root)
ladder_circuit parts m i line root k source load chosen =
    let is = load_stands parts m i load in
    circuit_kept parts (outlets.Load i) root k (two_elements parts i source is) source (has_load (nodes_of parts) parts i is) (root_stands (nodes_of parts) parts line root chosen)

pub ladder_form : (parts : List Part) (i : ℕ) (root : RootChoice) → AreOfForm None parts → IsLadder (circuit_of parts (outlets.Load i) root)
ladder_form parts i root form = record {
  number = i;
  load = refl;
  named = all_map (numbered (nodes_of parts)) (λ (e : Element). IsName e.name) parts form;
}

-- ---- a branch

-- its first part
pub record BeginsWith (v : DecimalNumber) (parts : List Part) : Type 0 where
  pub source : Part
  pub others : List Part
  pub is : parts ≡ source ∷ others
  pub branch : source ≡ branch_part source.from source.to v
  pub named : All (λ (q : Part). IsName q.name) others
  pub alone : All (λ (q : Part). is_source q.kind ≡ false) others

pub begins : (v : DecimalNumber) (parts : List Part) → AreOfForm (Some v) parts → parts ≢ [] → BeginsWith v parts
begins v [] form some = absurd (some refl)
begins v (p ∷ ps) (branch, (named, alone)) some = record { source = p; others = ps; is = refl; branch = branch; named = named; alone = alone }

branch_has_source : (v : DecimalNumber) (p : Part) (ps : List Part) → p ≡ branch_part p.from p.to v → has_source (p ∷ ps) ≡ true
branch_has_source v p ps is = let kind : is_source p.kind ≡ true = ap (λ (q : Part). is_source q.kind) is in rw kind refl

pub branch_circuit : (v : DecimalNumber) (parts : List Part) (line : Option RootLine) (root : RootChoice) → KeepsParts parts → AreOfForm (Some v) parts → parts ≢ [] → 2 ≤ length parts
    → root_choice parts line ≡ Ok root → IsCircuit (circuit_of parts outlets.Source root)
branch_circuit v parts line root k form some two chosen =
    let b = begins v parts form some in
    let source : has_source parts ≡ true = rw b.is (branch_has_source v b.source b.others b.branch) in
    circuit_kept parts outlets.Source root k two source tt (root_stands (nodes_of parts) parts line root chosen)

no_numbers : (nodes : List (List ℕ)) (n : ℕ) (parts : List Part) → All (λ (q : Part). is_source q.kind ≡ false) parts → numbers_from is_source n (map (numbered nodes) parts) ≡ []
no_numbers nodes n [] none = refl
no_numbers nodes n (p ∷ ps) none =
    let here : is_source p.kind ≡ false = none 0 p (omega arith) in
    rw here (no_numbers nodes (n + 1) ps (λ k d within. none (suc k) d (omega arith)))

-- the first two nodes of a branch are its ends
branch_nodes : (p : Part) (ps : List Part) → p.from ≢ p.to → (place_of (nodes_of (p ∷ ps)) p.from ≡ 0) × (place_of (nodes_of (p ∷ ps)) p.to ≡ 1)
branch_nodes p ps differ =
    let other : bytes_eq p.to p.from ≡ false = differ_bytes p.to p.from (λ (e : p.to ≡ p.from). differ (sym e)) in
    let none : list_any (bytes_eq p.to) (p.from ∷ []) ≡ false = rw other refl in
    let begun : nodes_of (p ∷ ps) ≡ fold (with_new bytes_eq) (p.from ∷ p.to ∷ []) (ends_of ps) = ap (λ (l : List (List ℕ)). fold (with_new bytes_eq) l (ends_of ps)) (new_added bytes_eq (p.from ∷ []) p.to none) in
    let g = grows (p.from ∷ p.to ∷ []) (ends_of ps) in
    let nodes : nodes_of (p ∷ ps) ≡ p.from ∷ p.to ∷ g.more = begun ∙ g.is in (
      ap (λ (l : List (List ℕ)). place_of l p.from) nodes ∙ (let a : place_of (p.from ∷ p.to ∷ g.more) p.from ≡ 0 = rw (same_bytes p.from) refl in a),
      ap (λ (l : List (List ℕ)). place_of l p.to) nodes ∙ (let a : place_of (p.from ∷ p.to ∷ g.more) p.to ≡ 1 = rw (other, same_bytes p.to) refl in a),
    )

-- `@` is no name of a text
not_at : (name : List ℕ) → IsName name → name ≢ at_sign
not_at name n same = let P : List ℕ → Type 0 = λ (x : List ℕ). IsName x in absurd (false≢true ((subst P same n).letters))

-- the number of a name is not that of the source
not_first : (p : Part) (ps : List Part) (name : List ℕ) → p.name ≡ at_sign → IsName name → number_of_name (p ∷ ps) name ≢ Some 0
not_first p ps name at named e = by (bytes_eq name p.name) refl
  where
    whole : List (List ℕ)
    whole = names_of (p ∷ ps)

    by : (t : Bool) → bytes_eq name p.name ≡ t → ⊥
    by true h = not_at name named (same_name name p.name h ∙ at)
    by false h =
        let place : position_or_len (bytes_eq name) (names_of (p ∷ ps)) ≡ 1 + position_or_len (bytes_eq name) (names_of ps) = rw h refl in
        let is : position_or_len (bytes_eq name) (names_of (p ∷ ps)) ≡ 0 = found_at (bytes_eq name) (names_of (p ∷ ps)) 0 e in
        absurd (omega arith)

not_source : (parts : List Part) (p : Part) (ps : List Part) (line : Option RootLine) (root : RootChoice) → parts ≡ p ∷ ps → p.name ≡ at_sign → IfSome line IsAtName → root_choice parts line ≡ Ok root → root ≢ roots.Element 0
not_source parts p ps None root is at named e same = let a : roots.Source ≡ root = cc in let b : roots.Source ≡ roots.Element 0 = a ∙ same in absurd (cc)
not_source parts p ps (Some Shallow) root is at named e same = let a : roots.Shallow ≡ root = cc in let b : roots.Shallow ≡ roots.Element 0 = a ∙ same in absurd (cc)
not_source parts p ps (Some (At m)) root is at named e same = by (number_of_name parts m.name) refl
  where
    by : (o : Option ℕ) → number_of_name parts m.name ≡ o → ⊥
    by None h = absurd (let bad : Err (fault_of_name kinds.RootUnknown m) ≡ Ok root = sym (let g : root_choice parts (Some (At m)) ≡ Err (fault_of_name kinds.RootUnknown m) = rw h refl in g) ∙ e in cc)
    by (Some i) h =
        let ok : Ok (roots.Element i) ≡ Ok root = sym (let g : root_choice parts (Some (At m)) ≡ Ok (roots.Element i) = rw h refl in g) ∙ e in
        let a : roots.Element i ≡ root = cc in
        let b : roots.Element i ≡ roots.Element 0 = a ∙ same in
        let zero_is : i ≡ 0 = cc in
        not_first p ps m.name at named (ap (λ (l : List Part). number_of_name l m.name) (sym is) ∙ h ∙ ap (λ (n : ℕ). Some n) zero_is)

pub branch_form : (v : DecimalNumber) (parts : List Part) (line : Option RootLine) (root : RootChoice) → KeepsParts parts → AreOfForm (Some v) parts → parts ≢ [] → IfSome line IsAtName
    → root_choice parts line ≡ Ok root → IsBranch v (circuit_of parts outlets.Source root)
branch_form v parts line root k form some named chosen = whole parts (begins v parts form some) k chosen
  where
    whole : (all : List Part) → BeginsWith v all → KeepsParts all → root_choice all line ≡ Ok root → IsBranch v (circuit_of all outlets.Source root)
    whole all b kept choice =
        let p = b.source in
        let P : List Part → Type 0 = λ (l : List Part). All (λ (q : Part). q.from ≢ q.to) l in
        let differ : p.from ≢ p.to = (subst P b.is kept.ends_differ) 0 p (omega arith) in
        let ends = branch_nodes p b.others differ in
        let nodes = nodes_of (p ∷ b.others) in
        let element : numbered nodes p ≡ branch_source v = λ i. record { name = (ap (λ (q : Part). q.name) b.branch) i; kind = (ap (λ (q : Part). q.kind) b.branch) i; from = ends.0 i; to = ends.1 i; value = (ap (λ (q : Part). q.value) b.branch) i } in
        let kind : is_source p.kind ≡ true = ap (λ (q : Part). is_source q.kind) b.branch in
        let first : IsBranch v (circuit_of (p ∷ b.others) outlets.Source root) = record {
          source = ap (λ (e : Element). Some e) element;
          one_source = numbers_are is_source (map (numbered nodes) (p ∷ b.others)) ∙ rw kind (ap (λ (l : List ℕ). 0 ∷ l) (no_numbers nodes (0 + 1) b.others b.alone));
          outlet = refl;
          root = not_source all p b.others line root b.is (ap (λ (q : Part). q.name) b.branch) named choice;
        } in
        subst (λ (l : List Part). IsBranch v (circuit_of l outlets.Source root)) (sym b.is) first
