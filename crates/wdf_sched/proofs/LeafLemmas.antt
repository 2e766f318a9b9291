-- Leaves of the parts of a tree.
use Rattle.std.proofs.Common.{◌≡◌, ℕ, ◌<◌, Bool, true, false, ◌||◌, ◌==◌, ◌++◌, refl, ap, ◌∙◌}
use Rattle.std.proofs.lemmas.Bool.{eq-eqb}
use Rattle.std.proofs.lemmas.List.Folds.{list_any-append}
use Rattle.wdf_law.specs.Trees.{AdaptorTree, leaf, series, parallel, LeafElement, elements_of}
use Rattle.wdf_law.specs.Network.{has_element, has_leaf}
use Rattle.wdf_sched.specs.Compiled.{IsBelow}

pub leaf_either : (l r : AdaptorTree) (i : ℕ) → has_element (elements_of l ++ elements_of r) i ≡ (has_leaf l i || has_leaf r i)
leaf_either l r i = list_any-append (λ (x : LeafElement). x.number == i) (elements_of l) (elements_of r)

-- a leaf has its own number
pub own_leaf : (i : ℕ) → ((i == i) || false) ≡ true
own_leaf i = ap (λ (b : Bool). b || false) (eq-eqb i i refl)

or_first : (a b : Bool) → a ≡ true → (a || b) ≡ true
or_first a b h = ap (λ (c : Bool). c || b) h

or_second : (a b : Bool) → b ≡ true → (a || b) ≡ true
or_second true b h = refl
or_second false b h = h

-- a leaf of a part is one of the whole
pub in_first : (l r : AdaptorTree) (i : ℕ) → has_leaf l i ≡ true → has_element (elements_of l ++ elements_of r) i ≡ true
in_first l r i h = leaf_either l r i ∙ or_first (has_leaf l i) (has_leaf r i) h

pub in_second : (l r : AdaptorTree) (i : ℕ) → has_leaf r i ≡ true → has_element (elements_of l ++ elements_of r) i ≡ true
in_second l r i h = leaf_either l r i ∙ or_second (has_leaf l i) (has_leaf r i) h

-- every number of a tree is below a count that is above all of them
pub is_below : (count : ℕ) (t : AdaptorTree) → ((i : ℕ) → has_leaf t i ≡ true → i < count) → IsBelow count t
is_below count (leaf i k flip) h = h i (own_leaf i)
is_below count (series m l r) h = (is_below count l (λ i e. h i (in_first l r i e)), is_below count r (λ i e. h i (in_second l r i e)))
is_below count (parallel m l r) h = (is_below count l (λ i e. h i (in_first l r i e)), is_below count r (λ i e. h i (in_second l r i e)))
