-- The elements that name the ports of a walk are elements of the network.
use Rattle.std.proofs.Common.{◌≡◌, ℕ, ◌^◌, ◌<◌, Bool, true, false, if◌then◌else◌, List, [], ◌∷◌, ◌++◌, length, map, Option, None, Some, Err, ap, subst}
use Rattle.std.specs.Prelude.{All, nat_le}
use Rattle.std.specs.Option.{option_or}
use Rattle.std.proofs.lemmas.List.Elements.{All-head, All-tail}
use Rattle.wdf_law.specs.Trees.{AdaptorTree, leaf, series, parallel, LeafElement, elements_of, first_of}
use Rattle.wdf_law.specs.Network.{Network, IsNetwork, elements, has_leaf, source_numbers}
use Rattle.wdf_law.specs.declared.side.Side.{Side}
use Rattle.wdf_netlist.specs.declared.form.Form.{Form}
use Rattle.wdf_quant.specs.declared.port_ratio.PortRatio.{PortRatio}
use Rattle.wdf_quant.specs.declared.ratio_fault.RatioFault.TheVariants.{Wide}
use Rattle.wdf_quant.specs.PortBound.{PortNumbers, end, fork, NetworkNumbers, listed, outwards, walk_from, walk_by, walk, ratios_from, port_numbers, first_wide, first_wide_from, wide_of, Encloses}
use Rattle.wdf_bounds.specs.declared.bound_fault.BoundFault.TheVariants.{Word}
use Rattle.wdf_bounds.specs.Plans.{PlanOf}
use Rattle.wdf_bounds.specs.WordBound.{bound, word_limit, first_over, BoundsMeet}
use Rattle.wdf_design.specs.Realising.{IsElementAt}
use Rattle.wdf_stages.specs.BoundStages.{HasElements}

-- ---- numbers below a count

-- the leaves of a tree have numbers below it
abbrev HasLeavesBelow : ℕ → AdaptorTree → Type 0
HasLeavesBelow count (leaf i k flip) = i < count
HasLeavesBelow count (series m l r) = HasLeavesBelow count l × HasLeavesBelow count r
HasLeavesBelow count (parallel m l r) = HasLeavesBelow count l × HasLeavesBelow count r

-- and so have the ports of a list
abbrev AreBelow : ℕ → List PortRatio → Type 0
AreBelow count [] = Unit {0}
AreBelow count (x ∷ xs) = (x.elem < count) × AreBelow count xs

abbrev HaveNumbersBelow : ℕ → List LeafElement → Type 0
HaveNumbersBelow count [] = Unit {0}
HaveNumbersBelow count (x ∷ xs) = (x.number < count) × HaveNumbersBelow count xs

abbrev IsBelow : ℕ → ℕ → Type 0
IsBelow count i = i < count

numbers_below : (count : ℕ) (xs : List LeafElement) → All (IsBelow count) (map (λ (x : LeafElement). x.number) xs) → HaveNumbersBelow count xs
numbers_below count [] h = tt
numbers_below count (x ∷ xs) h =
    let rest = map (λ (y : LeafElement). y.number) xs in
    (All-head (IsBelow count) x.number rest h, numbers_below count xs (All-tail (IsBelow count) x.number rest h))

parts_below : (count : ℕ) (xs ys : List LeafElement) → HaveNumbersBelow count (xs ++ ys) → HaveNumbersBelow count xs × HaveNumbersBelow count ys
parts_below count [] ys h = (tt, h)
parts_below count (x ∷ xs) ys h =
    let rest = parts_below count xs ys h.1 in
    ((h.0, rest.0), rest.1)

leaves_below : (count : ℕ) (t : AdaptorTree) → HaveNumbersBelow count (elements_of t) → HasLeavesBelow count t
leaves_below count (leaf i k flip) h = h.0
leaves_below count (series m l r) h =
    let parts = parts_below count (elements_of l) (elements_of r) h in
    (leaves_below count l parts.0, leaves_below count r parts.1)
leaves_below count (parallel m l r) h =
    let parts = parts_below count (elements_of l) (elements_of r) h in
    (leaves_below count l parts.0, leaves_below count r parts.1)

-- ---- the ports of a walk

first_below : (count : ℕ) (t : AdaptorTree) → HasLeavesBelow count t → first_of t < count
first_below count (leaf i k flip) h = h
first_below count (series m l r) h = first_below count l h.0
first_below count (parallel m l r) h = first_below count l h.0

both_below : (count : ℕ) (xs ys : List PortRatio) → AreBelow count xs → AreBelow count ys → AreBelow count (xs ++ ys)
both_below count [] ys first second = second
both_below count (x ∷ xs) ys first second = (first.0, both_below count xs ys first.1 second)

listed_below : (count : ℕ) (t : AdaptorTree) (w : PortNumbers) → HasLeavesBelow count t → AreBelow count (listed t w)
listed_below count (leaf i k flip) w h = (h, tt)
listed_below count (series m l r) (end p) h = tt
listed_below count (series m l r) (fork p wl wr) h =
    (first_below count l h.0, both_below count (listed l wl) (listed r wr) (listed_below count l wl h.0) (listed_below count r wr h.1))
listed_below count (parallel m l r) (end p) h = tt
listed_below count (parallel m l r) (fork p wl wr) h =
    (first_below count l h.0, both_below count (listed l wl) (listed r wr) (listed_below count l wl h.0) (listed_below count r wr h.1))

either_below : (count : ℕ) (b : Bool) (xs ys : List PortRatio) → AreBelow count xs → AreBelow count ys → AreBelow count (if b then xs else ys)
either_below count true xs ys first second = first
either_below count false xs ys first second = second

outwards_below : (count i : ℕ) (t : AdaptorTree) (w : PortNumbers) (beyond : List PortRatio) → HasLeavesBelow count t → AreBelow count beyond
    → AreBelow count (outwards i t w beyond)
outwards_below count i (leaf j k flip) w beyond h rest = (h, rest)
outwards_below count i (series m l r) (end p) beyond h rest = rest
outwards_below count i (series m l r) (fork p wl wr) beyond h rest =
    let own : PortRatio = record { elem = first_of l; leaf = false; ratio = p } in
    let first = first_below count l h.0 in
    either_below count (has_leaf l i) (outwards i l wl (own ∷ beyond ++ listed r wr)) (outwards i r wr (own ∷ beyond ++ listed l wl))
    (outwards_below count i l wl (own ∷ beyond ++ listed r wr) h.0 (first, both_below count beyond (listed r wr) rest (listed_below count r wr h.1)))
    (outwards_below count i r wr (own ∷ beyond ++ listed l wl) h.1 (first, both_below count beyond (listed l wl) rest (listed_below count l wl h.0)))
outwards_below count i (parallel m l r) (end p) beyond h rest = rest
outwards_below count i (parallel m l r) (fork p wl wr) beyond h rest =
    let own : PortRatio = record { elem = first_of l; leaf = false; ratio = p } in
    let first = first_below count l h.0 in
    either_below count (has_leaf l i) (outwards i l wl (own ∷ beyond ++ listed r wr)) (outwards i r wr (own ∷ beyond ++ listed l wl))
    (outwards_below count i l wl (own ∷ beyond ++ listed r wr) h.0 (first, both_below count beyond (listed r wr) rest (listed_below count r wr h.1)))
    (outwards_below count i r wr (own ∷ beyond ++ listed l wl) h.1 (first, both_below count beyond (listed l wl) rest (listed_below count l wl h.0)))

abbrev HasTreesBelow : ℕ → Network → Type 0
HasTreesBelow count n = HasLeavesBelow count n.left × HasLeavesBelow count n.right

from_below : (count : ℕ) (n : Network) (i : ℕ) (w : NetworkNumbers) → HasTreesBelow count n → AreBelow count (walk_from n i w)
from_below count n i w h =
    either_below count (has_leaf n.left i) (outwards i n.left w.left (listed n.right w.right)) (outwards i n.right w.right (listed n.left w.left))
    (outwards_below count i n.left w.left (listed n.right w.right) h.0 (listed_below count n.right w.right h.1))
    (outwards_below count i n.right w.right (listed n.left w.left) h.1 (listed_below count n.left w.left h.0))

by_below : (count : ℕ) (n : Network) (is : List ℕ) (w : NetworkNumbers) → HasTreesBelow count n → AreBelow count (walk_by n is w)
by_below count n [] w h = tt
by_below count n (i ∷ is) w h = from_below count n i w h

trees_below : (n : Network) → IsNetwork n → HasTreesBelow (length (elements n)) n
trees_below n is =
    let parts = parts_below (length (elements n)) (elements_of n.left) (elements_of n.right) (numbers_below (length (elements n)) (elements n) is.below) in
    (leaves_below (length (elements n)) n.left parts.0, leaves_below (length (elements n)) n.right parts.1)

-- ---- the first port that is too wide

first_wide_below : (count : ℕ) (xs : List PortRatio) (element need : ℕ) → AreBelow count xs → first_wide xs ≡ Some (element, need) → element < count
first_wide_below count [] element need h e = absurd (cc)
first_wide_below count (x ∷ xs) element need h e = by (nat_le x.ratio (2 ^ 62)) (first_wide_below count xs element need h.1) e
  where
    by : (b : Bool) → (first_wide xs ≡ Some (element, need) → element < count) → (if b then first_wide xs else Some (x.elem, x.ratio)) ≡ Some (element, need) → element < count
    by true rest same = rest same
    by false rest same =
        let pair : (x.elem, x.ratio) ≡ (element, need) = cc in
        let name : x.elem ≡ element = ap (λ (p : ℕ × ℕ). p.0) pair in
        subst (λ i. i < count) name h.0

first_over_below : (count : ℕ) (plan : PlanOf) (xs : List PortRatio) (element need : ℕ) → AreBelow count xs → first_over plan xs ≡ Some (element, need)
    → element < count
first_over_below count plan [] element need h e = absurd (cc)
first_over_below count plan (x ∷ xs) element need h e = by (nat_le (bound plan x.ratio) (word_limit plan)) (first_over_below count plan xs element need h.1) e
  where
    by : (b : Bool) → (first_over plan xs ≡ Some (element, need) → element < count) → (if b then first_over plan xs else Some (x.elem, bound plan x.ratio)) ≡ Some (element, need)
        → element < count
    by true rest same = rest same
    by false rest same =
        let pair : (x.elem, bound plan x.ratio) ≡ (element, need) = cc in
        let name : x.elem ≡ element = ap (λ (p : ℕ × ℕ). p.0) pair in
        subst (λ i. i < count) name h.0

abbrev IsNarrow : ℕ → Option (ℕ × ℕ) → Type 0
IsNarrow count first = (element need : ℕ) → first ≡ Some (element, need) → element < count

or_below : (count : ℕ) (p q : Option (ℕ × ℕ)) → IsNarrow count p → IsNarrow count q → IsNarrow count (option_or p q)
or_below count None q first second = second
or_below count (Some x) q first second = first

wide_from_below : (count : ℕ) (n : Network) (is : List ℕ) → HasTreesBelow count n → IsNarrow count (first_wide_from n is)
wide_from_below count n [] h = λ element need e. absurd (cc)
wide_from_below count n (i ∷ is) h =
    or_below count (first_wide (walk_from n i (ratios_from n i))) (first_wide_from n is)
    (λ element need. first_wide_below count (walk_from n i (ratios_from n i)) element need (from_below count n i (ratios_from n i) h))
    (wide_from_below count n is h)

-- the first port whose number is too wide is named by an element of the network
pub wide_element : (n : Network) → IsNetwork n → (element need : ℕ) → wide_of n ≡ Some (element, need) → element < length (elements n)
wide_element n is =
    let below = trees_below n is in
    or_below (length (elements n)) (first_wide_from n (source_numbers n)) (first_wide (walk n))
    (wide_from_below (length (elements n)) n (source_numbers n) below)
    (λ element need. first_wide_below (length (elements n)) (walk n) element need (by_below (length (elements n)) n (source_numbers n) (port_numbers n) below))

-- and so is the first whose bound exceeds the limit of a word
pub over_element : (n : Network) (plan : PlanOf) → IsNetwork n → (element need : ℕ) → first_over plan (walk n) ≡ Some (element, need) → element < length (elements n)
over_element n plan is element need =
    first_over_below (length (elements n)) plan (walk n) element need
    (by_below (length (elements n)) n (source_numbers n) (port_numbers n) (trees_below n is))

-- ---- and of the circuit of its side

pub wide_named : (form : Form) (side : Side) (n : Network) → HasElements form side n → IsNetwork n → (element need : ℕ) → Encloses n (Err (Wide element need))
    → IsElementAt form side element
wide_named form side n has is element need first = has element (wide_element n is element need first)

pub over_named : (form : Form) (side : Side) (n : Network) (plan : PlanOf) → HasElements form side n → IsNetwork n → (element need limit : ℕ)
    → BoundsMeet plan (walk n) (Err (Word element need limit)) → IsElementAt form side element
over_named form side n plan has is element need limit first = has element (over_element n plan is element need first.0)
