-- A circuit from the names of its nodes: what is printed by names has the same numbers again.
use Rattle.std.proofs.Common.{◌≡◌, ◌≢◌, ℕ, ◌+◌, ◌<◌, Bool, true, false, cond, eqb, List, [], ◌∷◌, ◌++◌, length, get_or, map, flat_map, fold, Some, refl, sym, ap, ◌∙◌, arith, append_assoc, length-append}
use Rattle.std.specs.Prelude.{All, IsTrue, bytes_eq, slice_get}
use Rattle.std.specs.List.{list_any, range_with_len}
use Rattle.std.proofs.lemmas.Bool.{eq-eqb, eqb-true, false≢true}
use Rattle.std.proofs.lemmas.List.{length-map, map-append}
use Rattle.std.proofs.lemmas.List.Elements.{All-cons, All-map, All-push, All-tail}
use Rattle.std.proofs.lemmas.List.Sums.{sum_by-cons}
use Rattle.std.proofs.lemmas.Option.{slice_get-get_or}
use Rattle.wdf_text.specs.Names.{IsName, is_name_or_at_sign}
use Rattle.wdf_law.specs.Network.{is_source, is_reactance}
use Rattle.wdf_law.specs.declared.kind.Kind.{Kind}
use Rattle.wdf_netlist.specs.declared.element.Element.{Element}
use Rattle.wdf_netlist.specs.declared.part.Part.{Part}
use Rattle.wdf_netlist.specs.Canonical.{node_name}
use Rattle.wdf_netlist.specs.Circuits.{AreDistinct, CircuitValue, IsCircuit, IsElementValue, count_kind, first_mentions, mentions, names, with_new}
use Rattle.wdf_netlist.specs.Kept.{KeepsParts}
use Rattle.wdf_netlist.specs.LineRules.{count_parts}
use Rattle.wdf_netlist.specs.Statements.{names_of}
use Rattle.wdf_netlist.specs.TextRules.{circuit_of, nodes_of, numbered, place_of}
use Rattle.wdf_netlist.proofs.KeptLemmas.{taken_at}
use Rattle.wdf_netlist.proofs.NameLemmas.{differ_bytes, same_bytes}
use Rattle.wdf_netlist.proofs.NodeLemmas.{new_added, new_there, place_back}

-- an element with its nodes by their names
abbrev pub named : List (List ℕ) → Element → Part
named nodes e = record { kind = e.kind; name = e.name; from = node_name nodes e.from; to = node_name nodes e.to; value = e.value }

abbrev pub parts_named : CircuitValue → List Part
parts_named c = map (named c.nodes) c.elements

-- ---- names and numbers

-- two nodes have the same name where they have the same number
same_node : (nodes : List (List ℕ)) (i j : ℕ) → AreDistinct nodes → i < length nodes → j < length nodes → node_name nodes i ≡ node_name nodes j → i ≡ j
same_node nodes i j distinct a b same = distinct i j (node_name nodes i) (slice_get-get_or nodes i [] a) (slice_get-get_or nodes j [] b ∙ ap (λ (x : List ℕ). Some x) (sym same))

names_tell : (nodes : List (List ℕ)) (i j : ℕ) → AreDistinct nodes → i < length nodes → j < length nodes → bytes_eq (node_name nodes i) (node_name nodes j) ≡ eqb i j
names_tell nodes i j distinct a b = by (eqb i j) refl
  where
    by : (t : Bool) → eqb i j ≡ t → bytes_eq (node_name nodes i) (node_name nodes j) ≡ t
    by true e = ap (λ (k : ℕ). bytes_eq (node_name nodes i) (node_name nodes k)) (sym (eqb-true i j e)) ∙ same_bytes (node_name nodes i)
    by false e = differ_bytes (node_name nodes i) (node_name nodes j) (λ (same : node_name nodes i ≡ node_name nodes j). false≢true (sym e ∙ eq-eqb i j (same_node nodes i j distinct a b same)))

any_tell : (nodes : List (List ℕ)) (numbers : List ℕ) (i : ℕ) → AreDistinct nodes → All (λ (k : ℕ). k < length nodes) numbers → i < length nodes
    → list_any (bytes_eq (node_name nodes i)) (map (node_name nodes) numbers) ≡ list_any (eqb i) numbers
any_tell nodes [] i distinct within a = refl
any_tell nodes (k ∷ numbers) i distinct within a =
    rw (names_tell nodes i k distinct a (within 0 k (omega arith)), any_tell nodes numbers i distinct (All-tail (λ (j : ℕ). j < length nodes) k numbers within) a) refl

new_named : (nodes : List (List ℕ)) (numbers : List ℕ) (i : ℕ) → AreDistinct nodes → All (λ (k : ℕ). k < length nodes) numbers → i < length nodes
    → with_new bytes_eq (map (node_name nodes) numbers) (node_name nodes i) ≡ map (node_name nodes) (with_new eqb numbers i)
new_named nodes numbers i distinct within a = by (list_any (eqb i) numbers) refl
  where
    by : (t : Bool) → list_any (eqb i) numbers ≡ t → with_new bytes_eq (map (node_name nodes) numbers) (node_name nodes i) ≡ map (node_name nodes) (with_new eqb numbers i)
    by true e =
        new_there bytes_eq (map (node_name nodes) numbers) (node_name nodes i) (any_tell nodes numbers i distinct within a ∙ e)
        ∙ ap (map (node_name nodes)) (sym (new_there eqb numbers i e))
    by false e =
        new_added bytes_eq (map (node_name nodes) numbers) (node_name nodes i) (any_tell nodes numbers i distinct within a ∙ e)
        ∙ sym (map-append (node_name nodes) numbers (i ∷ []))
        ∙ ap (map (node_name nodes)) (sym (new_added eqb numbers i e))

new_within : (n : ℕ) (numbers : List ℕ) (i : ℕ) → All (λ (k : ℕ). k < n) numbers → i < n → All (λ (k : ℕ). k < n) (with_new eqb numbers i)
new_within n numbers i within a = by (list_any (eqb i) numbers) refl
  where
    by : (t : Bool) → list_any (eqb i) numbers ≡ t → All (λ (k : ℕ). k < n) (with_new eqb numbers i)
    by true e = rw (new_there eqb numbers i e) within
    by false e = rw (new_added eqb numbers i e) (All-push (λ (k : ℕ). k < n) numbers i within a)

all_named : (nodes : List (List ℕ)) (before numbers : List ℕ) → AreDistinct nodes → All (λ (k : ℕ). k < length nodes) before → All (λ (k : ℕ). k < length nodes) numbers
    → fold (with_new bytes_eq) (map (node_name nodes) before) (map (node_name nodes) numbers) ≡ map (node_name nodes) (fold (with_new eqb) before numbers)
all_named nodes before [] distinct there within = refl
all_named nodes before (i ∷ numbers) distinct there within =
    let a : i < length nodes = within 0 i (omega arith) in
    ap (λ (l : List (List ℕ)). fold (with_new bytes_eq) l (map (node_name nodes) numbers)) (new_named nodes before i distinct there a)
    ∙ all_named nodes (with_new eqb before i) numbers distinct (new_within (length nodes) before i there a) (All-tail (λ (k : ℕ). k < length nodes) i numbers within)

-- a list by its places
listed : (front xs : List (List ℕ)) → map (node_name (front ++ xs)) (range_with_len (length front) (length xs)) ≡ xs
listed front [] = refl
listed front (x ∷ xs) =
    let here : node_name (front ++ (x ∷ xs)) (length front) ≡ x = at_end front in
    let split : front ++ (x ∷ xs) ≡ (front ++ x ∷ []) ++ xs = sym (append_assoc front (x ∷ []) xs) in
    let long : length front + 1 ≡ length (front ++ x ∷ []) = omega (arith, length-append front (x ∷ [])) in
    let rest : map (node_name (front ++ (x ∷ xs))) (range_with_len (length front + 1) (length xs)) ≡ xs =
    (λ i. map (node_name (split i)) (range_with_len (long i) (length xs))) ∙ listed (front ++ x ∷ []) xs in
    λ i. here i ∷ rest i
  where
    at_end : (ys : List (List ℕ)) → node_name (ys ++ (x ∷ xs)) (length ys) ≡ x
    at_end [] = refl
    at_end (y ∷ ys) = at_end ys

-- ---- elements

ends_within : (n : ℕ) (elements : List Element) → All (λ (e : Element). e.from < n) elements → All (λ (e : Element). e.to < n) elements → All (λ (k : ℕ). k < n) (mentions elements)
ends_within n [] a b = λ k d within. absurd (omega arith)
ends_within n (e ∷ es) a b =
    All-cons (λ (k : ℕ). k < n) e.from (e.to ∷ mentions es) (a 0 e (omega arith)) (All-cons (λ (k : ℕ). k < n) e.to (mentions es) (b 0 e (omega arith))
    (ends_within n es (All-tail (λ (x : Element). x.from < n) e es a) (All-tail (λ (x : Element). x.to < n) e es b)))

ends_named : (nodes : List (List ℕ)) (elements : List Element) → flat_map (λ (p : Part). p.from ∷ p.to ∷ []) (map (named nodes) elements) ≡ map (node_name nodes) (mentions elements)
ends_named nodes [] = refl
ends_named nodes (e ∷ es) = ap (λ (l : List (List ℕ)). node_name nodes e.from ∷ node_name nodes e.to ∷ l) (ends_named nodes es)

-- the nodes of the elements by name are the nodes
nodes_back : (c : CircuitValue) → IsCircuit c → nodes_of (parts_named c) ≡ c.nodes
nodes_back c k =
    ap (first_mentions bytes_eq) (ends_named c.nodes c.elements)
    ∙ all_named c.nodes [] (mentions c.elements) k.nodes_distinct (λ i d within. absurd (omega arith)) (ends_within (length c.nodes) c.elements k.from_node k.to_node)
    ∙ ap (map (node_name c.nodes)) k.nodes_in_order
    ∙ listed [] c.nodes

-- the place of a node's name is its number
pub place_is : (nodes : List (List ℕ)) (i : ℕ) → AreDistinct nodes → i < length nodes → place_of nodes (node_name nodes i) ≡ i
place_is nodes i distinct a =
    let there : slice_get nodes i ≡ Some (node_name nodes i) = slice_get-get_or nodes i [] a in
    distinct (place_of nodes (node_name nodes i)) i (node_name nodes i) (place_back nodes (node_name nodes i) (taken_at nodes (node_name nodes i) i there)) there

element_back : (nodes : List (List ℕ)) (e : Element) → AreDistinct nodes → e.from < length nodes → e.to < length nodes → numbered nodes (named nodes e) ≡ e
element_back nodes e distinct a b = λ i. record { name = e.name; kind = e.kind; from = place_is nodes e.from distinct a i; to = place_is nodes e.to distinct b i; value = e.value }

elements_back : (nodes : List (List ℕ)) (elements : List Element) → AreDistinct nodes → All (λ (e : Element). e.from < length nodes) elements → All (λ (e : Element). e.to < length nodes) elements
    → map (numbered nodes) (map (named nodes) elements) ≡ elements
elements_back nodes [] distinct a b = refl
elements_back nodes (e ∷ es) distinct a b =
    let here = element_back nodes e distinct (a 0 e (omega arith)) (b 0 e (omega arith)) in
    let rest = elements_back nodes es distinct (All-tail (λ (x : Element). x.from < length nodes) e es a) (All-tail (λ (x : Element). x.to < length nodes) e es b) in
    λ i. here i ∷ rest i

-- the circuit of the elements by name is the circuit
pub circuit_back : (c : CircuitValue) → IsCircuit c → circuit_of (parts_named c) c.outlet c.root ≡ c
circuit_back c k =
    let nodes = nodes_back c k in
    let elements = ap (λ (l : List (List ℕ)). map (numbered l) (parts_named c)) nodes ∙ elements_back c.nodes c.elements k.nodes_distinct k.from_node k.to_node in
    λ i. record { elements = elements i; nodes = nodes i; outlet = c.outlet; root = c.root }

-- ---- what the elements by name keep

pub names_named : (nodes : List (List ℕ)) (elements : List Element) → names_of (map (named nodes) elements) ≡ names elements
names_named nodes [] = refl
names_named nodes (e ∷ es) = ap (λ (l : List (List ℕ)). e.name ∷ l) (names_named nodes es)

pub kinds_named : (test : Kind → Bool) (nodes : List (List ℕ)) (elements : List Element) → count_parts test (map (named nodes) elements) ≡ count_kind test elements
kinds_named test nodes [] = refl
kinds_named test nodes (e ∷ es) =
    sum_by-cons (λ (p : Part). cond (test p.kind) 1 0) (named nodes e) (map (named nodes) es)
    ∙ ap (λ (n : ℕ). cond (test e.kind) 1 0 + n) (kinds_named test nodes es)
    ∙ sym (sum_by-cons (λ (x : Element). cond (test x.kind) 1 0) e es)

pub parts_kept : (c : CircuitValue) → IsCircuit c → KeepsParts (parts_named c)
parts_kept c k =
    let nodes = c.nodes in
    let to_part : (P : Part → Type 0) → All (λ (e : Element). P (named nodes e)) c.elements → All P (parts_named c) = λ P all. All-map P (named nodes) c.elements all in
    let node : (i : ℕ) → i < length nodes → IsName (node_name nodes i) = λ i a. k.nodes_named i [] a in
    record {
      most = omega (arith, k.most, length-map c.elements (named nodes));
      most_reactances = omega (arith, k.most_reactances, kinds_named is_reactance nodes c.elements);
      most_sources = omega (arith, k.most_sources, kinds_named is_source nodes c.elements);
      named = to_part (λ (p : Part). IsTrue (is_name_or_at_sign p.name)) k.named;
      distinct = rw (names_named nodes c.elements) k.distinct;
      ends_differ = to_part (λ (p : Part). p.from ≢ p.to)
          (λ i d within same. k.ends_differ i d within (same_node nodes (get_or c.elements i d).from (get_or c.elements i d).to k.nodes_distinct (k.from_node i d within) (k.to_node i d within) same));
      from_named = to_part (λ (p : Part). IsName p.from) (λ i d within. node (get_or c.elements i d).from (k.from_node i d within));
      to_named = to_part (λ (p : Part). IsName p.to) (λ i d within. node (get_or c.elements i d).to (k.to_node i d within));
      values = to_part (λ (p : Part). IsElementValue p.value) k.values;
    }
