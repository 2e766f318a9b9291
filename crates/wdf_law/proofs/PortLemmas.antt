-- The ports of a step are those that the network has at the elements' numbers, and the energies are sums over them.
use Rattle.std.proofs.Common.{◌≡◌, ℕ, ◌*◌, ◌<◌, Bool, true, false, ◌==◌, ◌||◌, cond, if◌then◌else◌, List, [], ◌∷◌, ◌++◌, map, length, refl, ap, sym, ◌∙◌, arith}
use Rattle.std.specs.Prelude.{filter}
use Rattle.std.specs.List.{range_with_len, sum_by}
use Rattle.std.proofs.Math.Nat.{mul-le-mul, mul-le-mul_left}
use Rattle.std.proofs.lemmas.Bool.{eq-eqb}
use Rattle.std.proofs.lemmas.List.{map-append}
use Rattle.std.proofs.lemmas.List.Folds.{list_any-append}
use lib.IntN.{ℤ, pos}
use Rattle.wdf_algebra.specs.Squares.{square}
use Rattle.wdf_law.specs.declared.kind.Kind.{Kind}
use Rattle.wdf_law.specs.Trees.{AdaptorTree, leaf, series, parallel, LeafElement, elements_of}
use Rattle.wdf_law.specs.Network.{Network, IsNetwork, unit_of, elements, is_source, is_reactance, is_absorbing, has_element, has_kind, has_leaf, has_source, source_numbers}
use Rattle.wdf_law.specs.Conductance.{conductance, series_first, series_second, parallel_first, parallel_second, left_factor, right_factor}
use Rattle.wdf_law.specs.Step.{Waves, ends, forks, Follows, Frame, IsStep, sent, sent_in}
use Rattle.wdf_law.specs.Run.{states}
use Rattle.wdf_law.specs.TreeRules.{IsSound, AreDisjoint, HasDistinctLeaves}
use Rattle.wdf_law.specs.Ports.{Port, ports_of, ports, leaf_conductance, conductance_at, leaf_up_wave, port_at}
use Rattle.wdf_law.specs.PortLaws.{HasPorts}
use Rattle.wdf_law.proofs.ConductanceLemmas.{sound_trees, conductance-pos, series_first-pos, series_second-pos, parallel_first-pos, parallel_second-pos, left_factor-pos, right_factor-pos}
use Rattle.wdf_law.proofs.NumberLemmas.{kind_among, numbers_once, numbers_every, disjoint_trees, distinct_left, distinct_right}
use Rattle.wdf_law.proofs.SumLemmas.{over, over-numbers, number_first, number_later, sum-le, sum-times, sum-pos}
use Rattle.wdf_law.proofs.EnergySums.{energy_over, sent_energy_over}

-- ---- the list

-- the port of an element of a tree
abbrev port_of : ℕ → ℕ → AdaptorTree → Waves → LeafElement → Port
port_of q f t w y = record { element = y; conductance = leaf_conductance q y.number f t; up = leaf_up_wave t w y.number; down = sent t w y.number }

-- and of two trees, where it is known whether it is one of the first
abbrev port_if : Bool → ℕ → ℕ → ℕ → AdaptorTree → AdaptorTree → Waves → Waves → LeafElement → Port
port_if b q f1 f2 l r wl wr y = record {
  element = y;
  conductance = if b then leaf_conductance q y.number f1 l else leaf_conductance q y.number f2 r;
  up = if b then leaf_up_wave l wl y.number else leaf_up_wave r wr y.number;
  down = if b then sent l wl y.number else sent r wr y.number;
}

same_map : {A : Type 0} (f g : LeafElement → A) (xs : List LeafElement) → ((y : LeafElement) → has_element xs y.number ≡ true → f y ≡ g y) → map f xs ≡ map g xs
same_map f g [] h = refl
same_map f g (x ∷ xs) h = λ j. h x (number_first x xs) j ∷ same_map f g xs (λ y there. h y (number_later x xs y.number there)) j

-- the ports of two trees, from those of each
ports_among : (q f1 f2 : ℕ) (l r : AdaptorTree) (wl wr : Waves) → AreDisjoint l r
    → ports_of q f1 l wl ≡ map (port_of q f1 l wl) (elements_of l) → ports_of q f2 r wr ≡ map (port_of q f2 r wr) (elements_of r)
    → ports_of q f1 l wl ++ ports_of q f2 r wr ≡ map (λ (y : LeafElement). port_if (has_leaf l y.number) q f1 f2 l r wl wr y) (elements_of l ++ elements_of r)
ports_among q f1 f2 l r wl wr disjoint left right =
    let among : LeafElement → Port = λ y. port_if (has_leaf l y.number) q f1 f2 l r wl wr y in
    let first = left ∙ sym (same_map among (port_of q f1 l wl) (elements_of l) (λ y h. ap (λ (b : Bool). port_if b q f1 f2 l r wl wr y) h)) in
    let second = right ∙ sym (same_map among (port_of q f2 r wr) (elements_of r) (λ y h. ap (λ (b : Bool). port_if b q f1 f2 l r wl wr y) (disjoint y.number h))) in
    (λ j. first j ++ second j) ∙ sym (map-append among (elements_of l) (elements_of r))

ports-are : (q f : ℕ) (x e : ℕ → ℤ) (t : AdaptorTree) (w : Waves) → HasDistinctLeaves t → Follows q x e f t w → ports_of q f t w ≡ map (port_of q f t w) (elements_of t)
ports-are q f x e (leaf i k flip) (ends u d) once h = ap (λ (b : Bool). record {
  element = record { number = i; kind = k; flip = flip };
  conductance = if b then conductance q f (leaf i k flip) else 0;
  up = if b then u else pos 0;
  down = if b then d else pos 0;
} ∷ []) (sym (eq-eqb i i refl))
ports-are q f x e (leaf i k flip) (forks u d b1 b2 b wl wr) once h = absurd h
ports-are q f x e (series m l r) (ends u d) once h = absurd h
ports-are q f x e (series m l r) (forks u d b1 b2 b wl wr) once h =
    ports_among q (series_first q f m r) (series_second q f m l) l r wl wr once.0
    (ports-are q (series_first q f m r) x e l wl once.1 h.2) (ports-are q (series_second q f m l) x e r wr once.2 h.3)
ports-are q f x e (parallel m l r) (ends u d) once h = absurd h
ports-are q f x e (parallel m l r) (forks u d b1 b2 b wl wr) once h =
    ports_among q (parallel_first q f m r) (parallel_second q f m l) l r wl wr once.0
    (ports-are q (parallel_first q f m r) x e l wl once.1 h.2) (ports-are q (parallel_second q f m l) x e r wr once.2 h.3)

all_ports : (n : Network) → IsNetwork n → (x e : ℕ → ℤ) (s : Frame) → IsStep n x e s → ports n s ≡ map (port_at n s) (elements n)
all_ports n rules x e s step =
    let q = unit_of n in
    ports_among q (left_factor n) (right_factor n) n.left n.right s.left s.right (disjoint_trees n rules)
    (ports-are q (left_factor n) x e n.left s.left (distinct_left n rules) step.left)
    (ports-are q (right_factor n) x e n.right s.right (distinct_right n rules) step.right)

port_elements : (n : Network) (s : Frame) (xs : List LeafElement) → map (λ (p : Port). p.element) (map (port_at n s) xs) ≡ xs
port_elements n s [] = refl
port_elements n s (x ∷ xs) = ap (λ (ys : List LeafElement). x ∷ ys) (port_elements n s xs)

-- ---- sums

-- over the numbers of a kind, in netlist order
netlist_sum : (n : Network) → IsNetwork n → (is : Kind → Bool) (f : ℕ → ℕ) → over is f (elements n) ≡ sum_by f (filter (has_kind is (elements n)) (range_with_len 0 (length (elements n))))
netlist_sum n rules is f = over-numbers is f (elements n) (length (elements n)) rules.below (numbers_once n rules)

-- ---- positive

-- at an element of one of two trees, where it is so in each
two_trees : (q f1 f2 i : ℕ) (l r : AdaptorTree) → has_element (elements_of l ++ elements_of r) i ≡ true → (has_leaf l i ≡ true → 0 < leaf_conductance q i f1 l)
    → (has_leaf r i ≡ true → 0 < leaf_conductance q i f2 r) → 0 < cond {A = ℕ} (has_leaf l i) (leaf_conductance q i f1 l) (leaf_conductance q i f2 r)
two_trees q f1 f2 i l r h left right =
    by (has_leaf l i) (sym (list_any-append (λ (y : LeafElement). y.number == i) (elements_of l) (elements_of r)) ∙ h) left
  where
    by : (b : Bool) → (b || has_leaf r i) ≡ true → (b ≡ true → 0 < leaf_conductance q i f1 l) → 0 < cond {A = ℕ} b (leaf_conductance q i f1 l) (leaf_conductance q i f2 r)
    by true e first = first refl
    by false e first = right e

leaf_conductance-pos : (q f i : ℕ) (t : AdaptorTree) → 0 < q → 0 < f → IsSound q t → has_leaf t i ≡ true → 0 < leaf_conductance q i f t
leaf_conductance-pos q f i (leaf j k flip) unit some s h = by (j == i) h
  where
    by : (b : Bool) → (b || false) ≡ true → 0 < cond {A = ℕ} b (conductance q f (leaf j k flip)) 0
    by true e = conductance-pos q f (leaf j k flip) unit some s
    by false e = absurd (cc)
leaf_conductance-pos q f i (series m l r) unit some s h =
    two_trees q (series_first q f m r) (series_second q f m l) i l r h
    (leaf_conductance-pos q (series_first q f m r) i l unit (series_first-pos q f m r unit some s.1 s.3) s.2)
    (leaf_conductance-pos q (series_second q f m l) i r unit (series_second-pos q f m l unit some s.0 s.2) s.3)
leaf_conductance-pos q f i (parallel m l r) unit some s h =
    two_trees q (parallel_first q f m r) (parallel_second q f m l) i l r h
    (leaf_conductance-pos q (parallel_first q f m r) i l unit (parallel_first-pos q f m r unit some s.0 s.3) s.2)
    (leaf_conductance-pos q (parallel_second q f m l) i r unit (parallel_second-pos q f m l unit some s.1 s.2) s.3)

conductance_at-pos : (n : Network) → IsNetwork n → (i : ℕ) → has_element (elements n) i ≡ true → 0 < conductance_at n i
conductance_at-pos n rules i h =
    let s = sound_trees n rules in
    two_trees (unit_of n) (left_factor n) (right_factor n) i n.left n.right h
    (leaf_conductance-pos (unit_of n) (left_factor n) i n.left s.unit (left_factor-pos n s) s.left)
    (leaf_conductance-pos (unit_of n) (right_factor n) i n.right s.unit (right_factor-pos n s) s.right)

pub has_ports : (n : Network) → IsNetwork n → HasPorts n
has_ports n rules = record {
  each = all_ports n rules;
  whose = λ x e s step. ap (map (λ (p : Port). p.element)) (all_ports n rules x e s step) ∙ port_elements n s (elements n);
  positive = λ i h. conductance_at-pos n rules i (numbers_every n rules i h);
  some_source = sum-pos (conductance_at n) (has_source (elements n)) (range_with_len 0 (length (elements n))) rules.some_source
      (λ i h. conductance_at-pos n rules i (kind_among is_source (elements n) i h));
  stored_sum = λ zs. energy_over n rules is_reactance (states n zs) ∙ netlist_sum n rules is_reactance (λ (i : ℕ). conductance_at n i * square (states n zs i));
  incident_sum = λ e. energy_over n rules is_source e ∙ netlist_sum n rules is_source (λ (i : ℕ). conductance_at n i * square (e i));
  absorbed_sum = λ x e s step. sent_energy_over n rules is_absorbing x e s step ∙ netlist_sum n rules is_absorbing (λ (i : ℕ). conductance_at n i * square (sent_in n s i));
  incident_most = λ e c h.
      let all = energy_over n rules is_source e ∙ netlist_sum n rules is_source (λ (i : ℕ). conductance_at n i * square (e i)) in
      let less = sum-le (λ (i : ℕ). conductance_at n i * square (e i)) (λ (i : ℕ). conductance_at n i * (c * c)) (has_source (elements n))
      (range_with_len 0 (length (elements n))) (λ i source. mul-le-mul_left (conductance_at n i) (mul-le-mul (h i source) (h i source))) in
      let product = sum-times (conductance_at n) (c * c) (source_numbers n) in
      omega arith;
}
