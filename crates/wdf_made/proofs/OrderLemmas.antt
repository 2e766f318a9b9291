-- What is computed for every order of a ladder, whatever the values of its elements are.
use Rattle.std.proofs.Common.{◌≡◌, ℕ, zero, suc, ◌+◌, ◌-◌, ◌<◌, ◌≤◌, Bool, true, ◌&&◌, not, List, [], ◌∷◌, length, refl, subst, arith}
use Rattle.std.specs.Prelude.{◌==◌, nat_lt, bytes_eq, codes, eqb, is_some}
use Rattle.std.specs.Fmt.{digits}
use Rattle.std.specs.List.{list_all, list_any, range_with_len}
use Rattle.std.proofs.lemmas.Bool.{and_parts}
use Rattle.wdf_text.specs.DecimalNumber.{DecimalNumber}
use Rattle.wdf_text.specs.Names.{is_name}
use Rattle.wdf_law.specs.Network.{is_source, is_reactance, is_resistor}
use Rattle.wdf_netlist.specs.declared.element.Element.{Element}
use Rattle.wdf_netlist.specs.Circuits.{count_kind, first_mentions, first_source, is_kind_at, mentions, names, sources}
use Rattle.wdf_sp.specs.Edges.{branches}
use Rattle.wdf_sp.specs.Reduction.{shape_in}
use Rattle.wdf_made.specs.Ladder.{elements_with, ladder_nodes, numbered_name}

-- ---- tests of all numbers of a range

passes : (test : ℕ → Bool) (n start : ℕ) → list_all test (range_with_len start n) ≡ true → (k : ℕ) → k < n → test (start + k) ≡ true
passes test zero start all k less = absurd (omega arith)
passes test (suc n) start all zero less = let e : start ≡ start + 0 = omega arith in subst (λ (m : ℕ). test m ≡ true) e (and_parts _ _ all).0
passes test (suc n) start all (suc k) less =
    let e : start + 1 + k ≡ start + suc k = omega arith in subst (λ (m : ℕ). test m ≡ true) e (passes test n (start + 1) (and_parts _ _ all).1 k (omega arith))

-- a test that all orders pass
pub record OfOrders (test : ℕ → Bool) : Type 0 where
  pub all : list_all test (range_with_len 1 32) ≡ true

pub of_order : (test : ℕ → Bool) → OfOrders test → (order : ℕ) → 1 ≤ order → order ≤ 32 → test order ≡ true
of_order test o order some few = let e : 1 + (order - 1) ≡ order = omega arith in subst (λ (m : ℕ). test m ≡ true) e (passes test 32 1 o.all (order - 1) (omega arith))

-- no two names of a list are the same, as a test
abbrev pub are_apart : List (List ℕ) → Bool
are_apart [] = true
are_apart (x ∷ xs) = not (list_any (bytes_eq x) xs) && are_apart xs

-- ---- what all orders pass

pub names_pass : (values : ℕ → DecimalNumber) → OfOrders (λ (order : ℕ). list_all (λ (e : Element). is_name e.name) (elements_with values order))
unfolding digits
names_pass values = record { all = refl }

pub names_apart : (values : ℕ → DecimalNumber) → OfOrders (λ (order : ℕ). are_apart (names (elements_with values order)))
unfolding digits
names_apart values = record { all = refl }

pub ends_pass : (values : ℕ → DecimalNumber) → OfOrders (λ (order : ℕ). list_all (λ (e : Element). not (e.from == e.to)) (elements_with values order))
ends_pass values = record { all = refl }

pub from_pass : (values : ℕ → DecimalNumber) → OfOrders (λ (order : ℕ). list_all (λ (e : Element). nat_lt e.from (length (ladder_nodes order))) (elements_with values order))
from_pass values = record { all = refl }

pub to_pass : (values : ℕ → DecimalNumber) → OfOrders (λ (order : ℕ). list_all (λ (e : Element). nat_lt e.to (length (ladder_nodes order))) (elements_with values order))
to_pass values = record { all = refl }

pub length_passes : (values : ℕ → DecimalNumber) → OfOrders (λ (order : ℕ). length (elements_with values order) == order + 2)
length_passes values = record { all = refl }

pub sources_pass : (values : ℕ → DecimalNumber) → OfOrders (λ (order : ℕ). count_kind is_source (elements_with values order) == 1)
sources_pass values = record { all = refl }

pub reactances_pass : (values : ℕ → DecimalNumber) → OfOrders (λ (order : ℕ). count_kind is_reactance (elements_with values order) == order)
reactances_pass values = record { all = refl }

pub nodes_pass : OfOrders (λ (order : ℕ). list_all is_name (ladder_nodes order))
unfolding digits
nodes_pass = record { all = refl }

pub nodes_apart : OfOrders (λ (order : ℕ). are_apart (ladder_nodes order))
unfolding digits
nodes_apart = record { all = refl }

pub mentions_pass : (values : ℕ → DecimalNumber)
    → OfOrders (λ (order : ℕ). bytes_eq (first_mentions eqb (mentions (elements_with values order))) (range_with_len 0 (length (ladder_nodes order))))
mentions_pass values = record { all = refl }

pub load_passes : (values : ℕ → DecimalNumber) → OfOrders (λ (order : ℕ). is_kind_at is_resistor (elements_with values order) (order + 1))
load_passes values = record { all = refl }

-- the reduction ends at one edge
pub shape_passes : (values : ℕ → DecimalNumber) → OfOrders (λ (order : ℕ). is_some (shape_in (branches (elements_with values order)) (first_source (elements_with values order))))
shape_passes values = record { all = refl }

pub one_source_passes : (values : ℕ → DecimalNumber) → OfOrders (λ (order : ℕ). length (sources (elements_with values order)) == 1)
one_source_passes values = record { all = refl }

-- ---- names

pub elements_named : list_all (λ (n : ℕ). is_name (numbered_name (codes "E") n)) (range_with_len 0 34) ≡ true
unfolding digits
elements_named = refl

pub nodes_named : list_all (λ (n : ℕ). is_name (numbered_name (codes "n") n)) (range_with_len 0 34) ≡ true
unfolding digits
nodes_named = refl

pub of_number : (test : ℕ → Bool) → list_all test (range_with_len 0 34) ≡ true → (n : ℕ) → n ≤ 33 → test n ≡ true
of_number test all n few = let e : 0 + n ≡ n = omega arith in subst (λ (m : ℕ). test m ≡ true) e (passes test 34 0 all n (omega arith))
