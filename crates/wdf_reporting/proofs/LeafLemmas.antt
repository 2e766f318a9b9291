-- The first leaf of a tree, and the words beside the ports of leaves.
use Rattle.std.proofs.Common.{◌≡◌, ℕ, suc, zero, ◌<◌, Bool, true, false, if◌then◌else◌, List, [], ◌∷◌, ◌++◌, length, drop, get_or, Option, None, Some, refl, sym, ap, ◌∙◌, arith}
use Rattle.std.specs.Prelude.{◌||◌, ◌&&◌, ◌==◌}
use Rattle.std.specs.List.{find}
use Rattle.std.specs.Option.{option_map}
use Rattle.std.proofs.Math.Seq.{drop-cons}
use Rattle.std.proofs.lemmas.Bool.{eq-eqb}
use Rattle.std.proofs.lemmas.List.Folds.{list_any-append}
use Rattle.wdf_law.specs.Trees.{AdaptorTree, leaf, series, parallel, LeafElement, elements_of, first_of}
use Rattle.wdf_law.specs.Network.{Network, elements, has_element, has_leaf}
use Rattle.wdf_law.specs.TreeRules.{HasNumbers}
use Rattle.wdf_quant.specs.declared.port_ratio.PortRatio.{PortRatio}
use Rattle.wdf_quant.specs.PortBound.{is_port_of, leaf_in}
use Rattle.wdf_bounds.specs.Plans.{PlanOf}
use Rattle.wdf_bounds.specs.WordBound.{bound, bounds_of}

-- ---- the first leaf

in_first : (l r : List LeafElement) (i : ℕ) → has_element l i ≡ true → has_element (l ++ r) i ≡ true
in_first l r i there =
    list_any-append (λ (x : LeafElement). x.number == i) l r ∙ ap (λ (b : Bool). b || has_element r i) there

first_there : (t : AdaptorTree) → has_leaf t (first_of t) ≡ true
first_there (leaf elem _ _) = ap (λ (b : Bool). b || false) (eq-eqb elem elem refl)
first_there (series m l r) = in_first (elements_of l) (elements_of r) (first_of l) (first_there l)
first_there (parallel m l r) = in_first (elements_of l) (elements_of r) (first_of l) (first_there l)

-- that of the left tree is an element of the network
pub first_below : (n : Network) → HasNumbers n → first_of n.left < length (elements n)
first_below n h = h.below (first_of n.left) (in_first (elements_of n.left) (elements_of n.right) (first_of n.left) (first_there n.left))

-- ---- the words beside the ports

pub word_at : (plan : PlanOf) (ports : List PortRatio) (i : ℕ) (d : PortRatio) → i < length ports → get_or (bounds_of plan ports) i 0 ≡ bound plan (get_or ports i d).ratio
word_at plan [] i d h = absurd (omega (arith, h))
word_at plan (x ∷ xs) zero d h = refl
word_at plan (x ∷ xs) (suc i) d h = word_at plan xs i d (omega (arith, h))

pub length-bounds : (plan : PlanOf) (ports : List PortRatio) → length (bounds_of plan ports) ≡ length ports
length-bounds plan [] = refl
length-bounds plan (x ∷ xs) = ap suc (length-bounds plan xs)

port_is : (x : PortRatio) (elem : ℕ) → x.leaf ≡ true → x.elem ≡ elem → is_port_of elem x ≡ true
port_is x elem at_leaf same = ap (λ (b : Bool). b && (x.elem == elem)) at_leaf ∙ eq-eqb x.elem elem same

-- the word beside the first port of an element
pub word_found : (plan : PlanOf) (ports : List PortRatio) (elem i : ℕ) (d : PortRatio) → i < length ports → (get_or ports i d).leaf ≡ true → (get_or ports i d).elem ≡ elem
    → leaf_in ports elem ≡ leaf_in (drop i ports) elem → option_map (bound plan) (leaf_in ports elem) ≡ Some (get_or (bounds_of plan ports) i 0)
word_found plan ports elem i d within at_leaf number same =
    let is = port_is (get_or ports i d) elem at_leaf number in
    let here : leaf_in (get_or ports i d ∷ drop (suc i) ports) elem ≡ Some (get_or ports i d).ratio =
    ap (λ (b : Bool). option_map (λ (x : PortRatio). x.ratio) (if b then Some (get_or ports i d) else find (is_port_of elem) (drop (suc i) ports))) is in
    let there : leaf_in ports elem ≡ Some (get_or ports i d).ratio = same ∙ ap (λ (xs : List PortRatio). leaf_in xs elem) (drop-cons ports i d within) ∙ here in
    ap (option_map (bound plan)) there ∙ ap Some (sym (word_at plan ports i d within))

-- the bound of the number that an element has
abbrev value_or : Option ℕ → ℕ → ℕ
value_or (Some x) other = x
value_or None other = other

pub bound_found : (plan : PlanOf) (ports : List PortRatio) (elem number word : ℕ) → leaf_in ports elem ≡ Some number → option_map (bound plan) (leaf_in ports elem) ≡ Some word
    → word ≡ bound plan number
bound_found plan ports elem number word there found = ap (λ (o : Option ℕ). value_or o word) (sym found ∙ ap (option_map (bound plan)) there)
