-- The ladder of an order keeps the rules of circuits and netlists, and has a shape.
use Rattle.std.proofs.Common.{◌≡◌, ◌≢◌, ℕ, zero, suc, ◌+◌, ◌≤◌, Bool, true, false, not, List, [], ◌∷◌, ◌++◌, length, map, get_or, Option, Some, None, refl, sym, ap, ◌∙◌, subst, arith}
use Rattle.std.specs.Prelude.{◌==◌, nat_eq, nat_lt, bytes_eq, eqb, codes, is_some, slice_get, unwrap_or, option_map, IsTrue, All}
use Rattle.std.specs.List.{list_any, range_with_len}
use Rattle.std.proofs.lemmas.Bool.{and_parts, eq-eqb, eqb-true, leb-true, ltb-true, false≢true}
use Rattle.std.proofs.lemmas.List.Elements.{All-append, All-cons, All-map}
use Rattle.std.proofs.lemmas.List.Sums.{AllPass-from_list_all}
use Rattle.wdf_text.specs.DecimalNumber.{DecimalNumber}
use Rattle.wdf_text.specs.Names.{IsName, is_name, is_name_or_at_sign}
use Rattle.wdf_law.specs.declared.kind.Kind.{Kind}
use Rattle.wdf_law.specs.declared.kind.Kind.TheVariants.{Src, Res, Ind, Cap}
use Rattle.wdf_law.specs.Network.{is_source, is_reactance, is_resistor}
use Rattle.wdf_netlist.specs.declared.element.Element.{Element}
use Rattle.wdf_netlist.specs.Circuits.{AreDistinct, IsCircuit, IsElementValue, count_kind, first_mentions, first_source, kind_at, mentions, names, sources}
use Rattle.wdf_netlist.specs.Netlists.{IsLadder}
use Rattle.wdf_sp.specs.Edges.{branches}
use Rattle.wdf_sp.specs.Reduction.{shape_in}
use Rattle.wdf_made.specs.LadderLaws.{HasOneSource, HasShape}
use Rattle.wdf_made.specs.Ladder.{circuit_with, elements_with, ladder_nodes, numbered_name, rung, the_load, the_source}
use Rattle.wdf_made.proofs.OrderLemmas.{are_apart, elements_named, ends_pass, from_pass, length_passes, load_passes, mentions_pass, names_apart, names_pass, nodes_apart, nodes_named, nodes_pass, of_number, of_order, one_source_passes, reactances_pass, shape_passes, sources_pass, to_pass}
use Rattle.wdf_made.proofs.ValueLemmas.{termination_value}

-- ---- from tests to what they say

same_bytes : (xs : List ℕ) → bytes_eq xs xs ≡ true
same_bytes [] = refl
same_bytes (x ∷ xs) = rw (eq-eqb x x refl, same_bytes xs) refl

from_bytes : (xs ys : List ℕ) → bytes_eq xs ys ≡ true → xs ≡ ys
from_bytes [] [] e = refl
from_bytes [] (y ∷ ys) e = absurd (false≢true e)
from_bytes (x ∷ xs) [] e = absurd (false≢true e)
from_bytes (x ∷ xs) (y ∷ ys) e =
    let parts = and_parts (nat_eq x y) (bytes_eq xs ys) e in
    let head : x ≡ y = eqb-true x y parts.0 in
    let tail = from_bytes xs ys parts.1 in
    λ i. head i ∷ tail i

from_not : (b : Bool) → not b ≡ true → b ≡ false
from_not true e = absurd (false≢true e)
from_not false e = refl

there : (xs : List (List ℕ)) (x : List ℕ) (i : ℕ) → slice_get xs i ≡ Some x → list_any (bytes_eq x) xs ≡ true
there [] x i e = absurd (cc)
there (y ∷ ys) x zero e = let same : y ≡ x = cc in rw (same, same_bytes x) refl
there (y ∷ ys) x (suc i) e = by (bytes_eq x y) refl (there ys x i e)
  where
    by : (t : Bool) → bytes_eq x y ≡ t → list_any (bytes_eq x) ys ≡ true → list_any (bytes_eq x) (y ∷ ys) ≡ true
    by true h more = rw h refl
    by false h more = rw h more

distinct : (xs : List (List ℕ)) → are_apart xs ≡ true → AreDistinct xs
distinct [] apart i j x a b = absurd (cc)
distinct (y ∷ ys) apart zero zero x a b = refl
distinct (y ∷ ys) apart zero (suc j) x a b =
    let same : y ≡ x = cc in
    let none : list_any (bytes_eq x) ys ≡ false = subst (λ (z : List ℕ). list_any (bytes_eq z) ys ≡ false) same (from_not _ (and_parts _ _ apart).0) in
    absurd (false≢true (sym none ∙ there ys x j b))
distinct (y ∷ ys) apart (suc i) zero x a b =
    let same : y ≡ x = cc in
    let none : list_any (bytes_eq x) ys ≡ false = subst (λ (z : List ℕ). list_any (bytes_eq z) ys ≡ false) same (from_not _ (and_parts _ _ apart).0) in
    absurd (false≢true (sym none ∙ there ys x i a))
distinct (y ∷ ys) apart (suc i) (suc j) x a b = ap (λ (n : ℕ). suc n) (distinct ys (and_parts _ _ apart).1 i j x a b)

pub named : (w : List ℕ) → is_name w ≡ true → IsName w
named w e = let p = and_parts _ _ e in let q = and_parts _ _ p.0 in record { some = leb-true _ _ q.0; few = leb-true _ _ q.1; letters = p.1 }

named_or : (w : List ℕ) → is_name w ≡ true → IsTrue (is_name_or_at_sign w)
named_or w e = rw e refl

differ : (x y : ℕ) → not (x == y) ≡ true → x ≢ y
differ x y e same = false≢true (sym (from_not _ e) ∙ eq-eqb x y same)

resistor : (k : Option Kind) → unwrap_or (option_map is_resistor k) false ≡ true → k ≡ Some Res
resistor None e = absurd (false≢true e)
resistor (Some Res) e = refl
resistor (Some Cap) e = absurd (false≢true e)
resistor (Some Ind) e = absurd (false≢true e)
resistor (Some Src) e = absurd (false≢true e)

-- ---- the circuit

all_values : (values : ℕ → DecimalNumber) (order : ℕ) → ((place : ℕ) → IsElementValue (values place)) → All (λ (e : Element). IsElementValue e.value) (elements_with values order)
all_values values order good =
    let P : Element → Type 0 = λ (e : Element). IsElementValue e.value in
    let rungs = map (λ (place : ℕ). rung place (values place)) (range_with_len 0 order) in
    All-cons P the_source (rungs ++ the_load order ∷ []) termination_value
    (All-append P rungs (the_load order ∷ []) (All-map P (λ (place : ℕ). rung place (values place)) (range_with_len 0 order) (λ k d less. good (get_or (range_with_len 0 order) k d)))
    (All-cons P (the_load order) [] termination_value (λ k d less. absurd (omega arith))))

pub is_circuit : (values : ℕ → DecimalNumber) (order : ℕ) → 1 ≤ order → order ≤ 32 → ((place : ℕ) → IsElementValue (values place)) → IsCircuit (circuit_with values order)
is_circuit values order some few good =
    let elements = elements_with values order in
    let nodes = ladder_nodes order in
    let long : length elements ≡ order + 2 = eqb-true (length elements) (order + 2) (of_order _ (length_passes values) order some few) in
    let reactances : count_kind is_reactance elements ≡ order = eqb-true (count_kind is_reactance elements) order (of_order _ (reactances_pass values) order some few) in
    let sources : count_kind is_source elements ≡ 1 = eqb-true (count_kind is_source elements) 1 (of_order _ (sources_pass values) order some few) in
    let names_all = AllPass-from_list_all (λ (e : Element). is_name e.name) elements (of_order _ (names_pass values) order some few) in
    let ends_all = AllPass-from_list_all (λ (e : Element). not (e.from == e.to)) elements (of_order _ (ends_pass values) order some few) in
    let from_all = AllPass-from_list_all (λ (e : Element). nat_lt e.from (length nodes)) elements (of_order _ (from_pass values) order some few) in
    let to_all = AllPass-from_list_all (λ (e : Element). nat_lt e.to (length nodes)) elements (of_order _ (to_pass values) order some few) in
    let nodes_all = AllPass-from_list_all is_name nodes (of_order _ nodes_pass order some few) in
    record {
      fewest = omega arith;
      most = omega arith;
      most_reactances = omega arith;
      fewest_sources = omega arith;
      most_sources = omega arith;
      named = λ k d less. named_or (get_or elements k d).name (names_all k d less);
      distinct = distinct (names elements) (of_order _ (names_apart values) order some few);
      ends_differ = λ k d less. differ (get_or elements k d).from (get_or elements k d).to (ends_all k d less);
      from_node = λ k d less. ltb-true (get_or elements k d).from (length nodes) (from_all k d less);
      to_node = λ k d less. ltb-true (get_or elements k d).to (length nodes) (to_all k d less);
      values = all_values values order good;
      nodes_named = λ k d less. named (get_or nodes k d) (nodes_all k d less);
      nodes_distinct = distinct nodes (of_order _ nodes_apart order some few);
      nodes_in_order = from_bytes (first_mentions eqb (mentions elements)) (range_with_len 0 (length nodes)) (of_order _ (mentions_pass values) order some few);
      outlet = resistor (kind_at elements (order + 1)) (of_order _ (load_passes values) order some few);
      root = tt;
    }

pub is_ladder : (values : ℕ → DecimalNumber) (order : ℕ) → 1 ≤ order → order ≤ 32 → IsLadder (circuit_with values order)
is_ladder values order some few =
    let elements = elements_with values order in
    let names_all = AllPass-from_list_all (λ (e : Element). is_name e.name) elements (of_order _ (names_pass values) order some few) in
    record { number = order + 1; load = refl; named = λ k d less. named (get_or elements k d).name (names_all k d less) }

-- what stands in an option of which there is some
pub held : {A : Type 0} (o : Option A) → is_some o ≡ true → (x : A) × (o ≡ Some x)
held None e = absurd (false≢true e)
held (Some x) e = (x, refl)

pub has_shape : (values : ℕ → DecimalNumber) (order : ℕ) → 1 ≤ order → order ≤ 32 → HasShape (circuit_with values order)
has_shape values order some few = held (shape_in (branches (elements_with values order)) (first_source (elements_with values order))) (of_order _ (shape_passes values) order some few)

pub has_one_source : (values : ℕ → DecimalNumber) (order : ℕ) → 1 ≤ order → order ≤ 32 → HasOneSource (circuit_with values order)
has_one_source values order some few = eqb-true (length (sources (elements_with values order))) 1 (of_order _ (one_source_passes values) order some few)

-- ---- names

pub element_named : (n : ℕ) → n ≤ 33 → IsName (numbered_name (codes "E") n)
element_named n few = named (numbered_name (codes "E") n) (of_number (λ (m : ℕ). is_name (numbered_name (codes "E") m)) elements_named n few)

pub node_named : (n : ℕ) → n ≤ 33 → IsName (numbered_name (codes "n") n)
node_named n few = named (numbered_name (codes "n") n) (of_number (λ (m : ℕ). is_name (numbered_name (codes "n") m)) nodes_named n few)
