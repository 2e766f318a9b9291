-- The numbers of a network's elements: each below their count, each once, so that none stands in both of two trees.
use Rattle.std.proofs.Common.{◌≡◌, ℕ, ◌+◌, ◌<◌, ◌≤◌, Bool, true, false, ◌&&◌, ◌||◌, ◌==◌, cond, List, [], ◌∷◌, ◌++◌, map, length, refl, ap, ◌∙◌, subst, arith}
use Rattle.std.specs.Prelude.{All}
use Rattle.std.proofs.lemmas.Bool.{eqb-true, ne_eqb, cases_lt}
use mathlib.Core.Logic.{◌⊎◌, inl, inr}
use Rattle.std.proofs.lemmas.List.{map-append}
use Rattle.std.proofs.lemmas.List.Elements.{All-head, All-tail}
use Rattle.wdf_law.specs.declared.kind.Kind.{Kind}
use Rattle.wdf_law.specs.Trees.{AdaptorTree, leaf, series, parallel, LeafElement, elements_of}
use Rattle.wdf_law.specs.Network.{Network, IsNetwork, elements, numbers, times_in, has_element, has_kind}
use Rattle.wdf_law.specs.TreeRules.{AreDisjoint, HasDistinctLeaves}

-- ---- lists of elements

abbrev pub number_of : LeafElement → ℕ
number_of x = x.number

pub or_left : (a b : Bool) → a ≡ true → (a || b) ≡ true
or_left a b h = ap (λ (c : Bool). c || b) h

pub or_right : (a b : Bool) → b ≡ true → (a || b) ≡ true
or_right true b h = refl
or_right false b h = h

-- an element of a kind is an element
pub kind_among : (is : Kind → Bool) (xs : List LeafElement) (i : ℕ) → has_kind is xs i ≡ true → has_element xs i ≡ true
kind_among is [] i h = h
kind_among is (x ∷ xs) i h = by (x.number == i) (is x.kind) (kind_among is xs i) h
  where
    by : (a b : Bool) → (has_kind is xs i ≡ true → has_element xs i ≡ true) → ((a && b) || has_kind is xs i) ≡ true → (a || has_element xs i) ≡ true
    by true b rest h = refl
    by false b rest h = rest h

-- a number is among them exactly where it stands there
counted : (xs : List LeafElement) (i : ℕ) → has_element xs i ≡ true → 1 ≤ times_in (map number_of xs) i
counted [] i h = absurd (cc)
counted (x ∷ xs) i h = by (x.number == i) h (counted xs i)
  where
    by : (b : Bool) → (b || has_element xs i) ≡ true → (has_element xs i ≡ true → 1 ≤ times_in (map number_of xs) i) → 1 ≤ cond {A = ℕ} b 1 0 + times_in (map number_of xs) i
    by true h rest = omega arith
    by false h rest = let more = rest h in omega arith

there : (xs : List LeafElement) (i : ℕ) → 1 ≤ times_in (map number_of xs) i → has_element xs i ≡ true
there [] i h = absurd (omega arith)
there (x ∷ xs) i h = by (x.number == i) h (there xs i)
  where
    by : (b : Bool) → 1 ≤ cond {A = ℕ} b 1 0 + times_in (map number_of xs) i → (1 ≤ times_in (map number_of xs) i → has_element xs i ≡ true) → (b || has_element xs i) ≡ true
    by true h rest = refl
    by false h rest = rest (omega arith)

times-append : (xs ys : List ℕ) (i : ℕ) → times_in (xs ++ ys) i ≡ times_in xs i + times_in ys i
times-append [] ys i = omega arith
times-append (x ∷ xs) ys i = let rest = times-append xs ys i in omega arith

-- how often a number stands in two lists
times_both : (xs ys : List LeafElement) (i : ℕ) → times_in (map number_of (xs ++ ys)) i ≡ times_in (map number_of xs) i + times_in (map number_of ys) i
times_both xs ys i = ap (λ (ks : List ℕ). times_in ks i) (map-append number_of xs ys) ∙ times-append (map number_of xs) (map number_of ys) i

-- where no number stands twice, one of the second list is not in the first
pub apart : (xs ys : List LeafElement) (i : ℕ) → times_in (map number_of (xs ++ ys)) i ≤ 1 → has_element ys i ≡ true → has_element xs i ≡ false
apart xs ys i once h = by (has_element xs i) refl
  where
    by : (b : Bool) → has_element xs i ≡ b → b ≡ false
    by true e =
        let first = counted xs i e in
        let second = counted ys i h in
        let both = times_both xs ys i in
        absurd (omega arith)
    by false e = refl

-- an element of a list whose numbers are below a bound
pub below_bound : (xs : List LeafElement) (c i : ℕ) → All (λ (k : ℕ). k < c) (map number_of xs) → has_element xs i ≡ true → i < c
below_bound [] c i h k = absurd (cc)
below_bound (x ∷ xs) c i h k =
    by (x.number == i) refl (below_bound xs c i (All-tail (λ (k : ℕ). k < c) x.number (map number_of xs) h)) k
  where
    by : (b : Bool) → (x.number == i) ≡ b → (has_element xs i ≡ true → i < c) → (b || has_element xs i) ≡ true → i < c
    by true e rest t =
        let same : x.number ≡ i = eqb-true x.number i e in
        subst (λ (j : ℕ). j < c) same (All-head (λ (k : ℕ). k < c) x.number (map number_of xs) h)
    by false e rest t = rest t

-- no number stands twice
most_once : (xs : List ℕ) (c : ℕ) → All (λ (k : ℕ). k < c) xs → ((i : ℕ) → i < c → times_in xs i ≡ 1) → (i : ℕ) → times_in xs i ≤ 1
most_once xs c below once i = by (cases_lt i c)
  where
    none : (xs : List ℕ) → All (λ (k : ℕ). k < c) xs → c ≤ i → times_in xs i ≡ 0
    none [] h k = refl
    none (x ∷ xs) h k =
        let small : x < c = All-head (λ (k : ℕ). k < c) x xs h in
        let first : times_in (x ∷ xs) i ≡ 0 + times_in xs i = ap (λ (b : Bool). cond {A = ℕ} b 1 0 + times_in xs i) (ne_eqb x i (λ same. absurd (omega arith))) in
        let others : times_in xs i ≡ 0 = none xs (All-tail (λ (k : ℕ). k < c) x xs h) k in
        omega arith

    by : (i < c) ⊎ (c ≤ i) → times_in xs i ≤ 1
    by (inl h) = let o = once i h in omega arith
    by (inr h) = let z = none xs below h in omega arith

-- ---- a tree

-- where no number stands twice in two trees, neither does one in a tree
abbrev AreOnce : List LeafElement → Type 0
AreOnce xs = (i : ℕ) → times_in (map number_of xs) i ≤ 1

once_first : (xs ys : List LeafElement) → AreOnce (xs ++ ys) → AreOnce xs
once_first xs ys once i = let both = times_both xs ys i in let o = once i in omega arith

once_second : (xs ys : List LeafElement) → AreOnce (xs ++ ys) → AreOnce ys
once_second xs ys once i = let both = times_both xs ys i in let o = once i in omega arith

distinct : (t : AdaptorTree) → AreOnce (elements_of t) → HasDistinctLeaves t
distinct (leaf i k flip) once = tt
distinct (series m l r) once = (
  λ i h. apart (elements_of l) (elements_of r) i (once i) h,
  distinct l (once_first (elements_of l) (elements_of r) once),
  distinct r (once_second (elements_of l) (elements_of r) once),
)
distinct (parallel m l r) once = (
  λ i h. apart (elements_of l) (elements_of r) i (once i) h,
  distinct l (once_first (elements_of l) (elements_of r) once),
  distinct r (once_second (elements_of l) (elements_of r) once),
)

-- ---- a network

pub numbers_once : (n : Network) → IsNetwork n → (i : ℕ) → times_in (numbers n) i ≤ 1
numbers_once n rules = most_once (numbers n) (length (elements n)) rules.below rules.once

pub numbers_below : (n : Network) → IsNetwork n → (i : ℕ) → has_element (elements n) i ≡ true → i < length (elements n)
numbers_below n rules i h = below_bound (elements n) (length (elements n)) i rules.below h

pub numbers_every : (n : Network) → IsNetwork n → (i : ℕ) → i < length (elements n) → has_element (elements n) i ≡ true
numbers_every n rules i h = let once = rules.once i h in there (elements n) i (omega arith)

pub disjoint_trees : (n : Network) → IsNetwork n → AreDisjoint n.left n.right
disjoint_trees n rules i h = apart (elements_of n.left) (elements_of n.right) i (numbers_once n rules i) h

pub distinct_left : (n : Network) → IsNetwork n → HasDistinctLeaves n.left
distinct_left n rules = distinct n.left (once_first (elements_of n.left) (elements_of n.right) (numbers_once n rules))

pub distinct_right : (n : Network) → IsNetwork n → HasDistinctLeaves n.right
distinct_right n rules = distinct n.right (once_second (elements_of n.left) (elements_of n.right) (numbers_once n rules))
