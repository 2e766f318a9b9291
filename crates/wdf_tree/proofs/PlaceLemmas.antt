-- After the walk each element's place has the wave that the element was sent.
use Rattle.std.proofs.Common.{◌≡◌, ◌≢◌, ℕ, ◌-◌, ◌^◌, ◌<◌, Bool, true, false, ◌&&◌, ◌||◌, ◌==◌, if◌then◌else◌, List, ◌++◌, length, refl, ap, sym, ◌∙◌, subst, arith}
use Rattle.std.specs.Prelude.{ℤ, pos, slice_set}
use Rattle.std.proofs.lemmas.Bool.{eqb-true, eqb-false, eq-eqb}
use Rattle.std.proofs.lemmas.List.{get_or-set_same, get_or-set_other, length-set}
use Rattle.std.proofs.lemmas.List.Folds.{list_any-append}
use Rattle.wdf_algebra.specs.JunctionValues.{series_part, parallel_part}
use Rattle.wdf_algebra.specs.Truncation.{trunc}
use Rattle.wdf_law.specs.Trees.{AdaptorTree, leaf, series, parallel, LeafElement, elements_of}
use Rattle.wdf_law.specs.Network.{Network, elements, has_element, has_leaf}
use Rattle.wdf_law.specs.TreeRules.{AreDisjoint, HasDistinctLeaves}
use Rattle.wdf_law.specs.Step.{Waves, ends, forks, sent, sent_in}
use Rattle.wdf_law.specs.Solved.{ups, waves, solved}
use Rattle.wdf_law.specs.OutputRule.{is_flipped}
use Rattle.wdf_tree.specs.Places.{at_place}
use Rattle.wdf_tree.specs.WaveTrees.{IsPlaced}
use Rattle.wdf_tree.specs.Walks.{placed, placed_frame}

-- ---- leaves of the parts of a tree

pub leaf_either : (l r : AdaptorTree) (i : ℕ) → has_element (elements_of l ++ elements_of r) i ≡ (has_leaf l i || has_leaf r i)
leaf_either l r i = list_any-append (λ (x : LeafElement). x.number == i) (elements_of l) (elements_of r)

pub flipped_either : (xs ys : List LeafElement) (i : ℕ) → is_flipped (xs ++ ys) i ≡ (is_flipped xs i || is_flipped ys i)
flipped_either xs ys i = list_any-append (λ (x : LeafElement). (x.number == i) && x.flip) xs ys

neither_first : (a b : Bool) → (a || b) ≡ false → a ≡ false
neither_first true b h = h
neither_first false b h = refl

neither_second : (a b : Bool) → (a || b) ≡ false → b ≡ false
neither_second true b h = absurd (cc)
neither_second false b h = h

or_first : (a b : Bool) → a ≡ true → (a || b) ≡ true
or_first a b h = ap (λ (c : Bool). c || b) h

or_second : (a b : Bool) → b ≡ true → (a || b) ≡ true
or_second true b h = refl
or_second false b h = h

other : (a b : Bool) → (a || b) ≡ true → a ≡ false → b ≡ true
other true b h e = absurd (cc)
other false b h e = h

-- an element of a tree is one of the network's
pub in_left : (n : Network) (i : ℕ) → has_leaf n.left i ≡ true → has_element (elements n) i ≡ true
in_left n i h = leaf_either n.left n.right i ∙ or_first (has_leaf n.left i) (has_leaf n.right i) h

pub in_right : (n : Network) (i : ℕ) → has_leaf n.right i ≡ true → has_element (elements n) i ≡ true
in_right n i h = leaf_either n.left n.right i ∙ or_second (has_leaf n.left i) (has_leaf n.right i) h

-- every number of a tree is below a count that is above all of them
pub placed_below : (count : ℕ) (t : AdaptorTree) → ((i : ℕ) → has_leaf t i ≡ true → i < count) → IsPlaced count t
placed_below count (leaf i k flip) h = h i (own i)
  where
    own : (i : ℕ) → ((i == i) || false) ≡ true
    own i = ap (λ (b : Bool). b || false) (eq-eqb i i refl)
placed_below count (series m l r) h = (
  placed_below count l (λ i e. h i (leaf_either l r i ∙ or_first (has_leaf l i) (has_leaf r i) e)),
  placed_below count r (λ i e. h i (leaf_either l r i ∙ or_second (has_leaf l i) (has_leaf r i) e)),
)
placed_below count (parallel m l r) h = (
  placed_below count l (λ i e. h i (leaf_either l r i ∙ or_first (has_leaf l i) (has_leaf r i) e)),
  placed_below count r (λ i e. h i (leaf_either l r i ∙ or_second (has_leaf l i) (has_leaf r i) e)),
)

-- ---- what the walk writes

pub length-placed : (t : AdaptorTree) (w : Waves) (xs : List ℤ) → length (placed t w xs) ≡ length xs
length-placed (leaf i k flip) (ends u d) xs = length-set xs i d
length-placed (leaf i k flip) (forks u d b1 b2 b wl wr) xs = refl
length-placed (series m l r) (ends u d) xs = refl
length-placed (series m l r) (forks u d b1 b2 b wl wr) xs = length-placed r wr (placed l wl xs) ∙ length-placed l wl xs
length-placed (parallel m l r) (ends u d) xs = refl
length-placed (parallel m l r) (forks u d b1 b2 b wl wr) xs = length-placed r wr (placed l wl xs) ∙ length-placed l wl xs

-- the place of a number that no leaf has stays as it was
pub placed-other : (t : AdaptorTree) (w : Waves) (xs : List ℤ) (i : ℕ) → has_leaf t i ≡ false → at_place (placed t w xs) i ≡ at_place xs i
placed-other (leaf j k flip) (ends u d) xs i h =
    let single : (j == i) ≡ false = neither_first (j == i) false h in
    let apart : i ≢ j = λ e. eqb-false j i single (sym e) in
    get_or-set_other xs j i d (pos 0) apart
placed-other (leaf j k flip) (forks u d b1 b2 b wl wr) xs i h = refl
placed-other (series m l r) (ends u d) xs i h = refl
placed-other (series m l r) (forks u d b1 b2 b wl wr) xs i h =
    let e = sym (leaf_either l r i) ∙ h in
    placed-other r wr (placed l wl xs) i (neither_second (has_leaf l i) (has_leaf r i) e) ∙ placed-other l wl xs i (neither_first (has_leaf l i) (has_leaf r i) e)
placed-other (parallel m l r) (ends u d) xs i h = refl
placed-other (parallel m l r) (forks u d b1 b2 b wl wr) xs i h =
    let e = sym (leaf_either l r i) ∙ h in
    placed-other r wr (placed l wl xs) i (neither_second (has_leaf l i) (has_leaf r i) e) ∙ placed-other l wl xs i (neither_first (has_leaf l i) (has_leaf r i) e)

-- of two trees whose leaves are apart, one after the other
pub part : (q : ℕ) (x e : ℕ → ℤ) (l r : AdaptorTree) (d1 d2 : ℤ) (xs : List ℤ) (i : ℕ) → AreDisjoint l r → i < length xs → (has_leaf l i || has_leaf r i) ≡ true
    → (has_leaf l i ≡ true → at_place (placed l (waves q x e l d1) xs) i ≡ sent l (waves q x e l d1) i)
    → ((ys : List ℤ) → i < length ys → has_leaf r i ≡ true → at_place (placed r (waves q x e r d2) ys) i ≡ sent r (waves q x e r d2) i)
    → at_place (placed r (waves q x e r d2) (placed l (waves q x e l d1) xs)) i ≡ (if has_leaf l i then sent l (waves q x e l d1) i else sent r (waves q x e r d2) i)
part q x e l r d1 d2 xs i apart small h first second = by (has_leaf l i) refl
  where
    not_second : (b : Bool) → has_leaf r i ≡ b → has_leaf l i ≡ true → b ≡ false
    not_second true s f = absurd (cc (apart i s, f))
    not_second false s f = refl

    by : (b : Bool) → has_leaf l i ≡ b
        → at_place (placed r (waves q x e r d2) (placed l (waves q x e l d1) xs)) i ≡ (if b then sent l (waves q x e l d1) i else sent r (waves q x e r d2) i)
    by true f = placed-other r (waves q x e r d2) (placed l (waves q x e l d1) xs) i (not_second (has_leaf r i) refl f) ∙ first f
    by false f =
        let long : length (placed l (waves q x e l d1) xs) ≡ length xs = length-placed l (waves q x e l d1) xs in
        second (placed l (waves q x e l d1) xs) (omega arith) (other (has_leaf l i) (has_leaf r i) h f)

-- the place of a leaf has what the leaf was sent
pub placed-own : (q : ℕ) (x e : ℕ → ℤ) (t : AdaptorTree) (d : ℤ) (xs : List ℤ) (i : ℕ) → HasDistinctLeaves t → i < length xs → has_leaf t i ≡ true
    → at_place (placed t (waves q x e t d) xs) i ≡ sent t (waves q x e t d) i
placed-own q x e (leaf j k flip) d xs i apart small h =
    let single : (j == i) ≡ true = only (j == i) h in
    let same : j ≡ i = eqb-true j i single in
    subst (λ (n : ℕ). at_place (slice_set xs n d) i ≡ (if j == i then d else pos 0)) (sym same)
    (get_or-set_same xs i d (pos 0) small ∙ sym (ap (λ (b : Bool). if b then d else pos 0) single))
  where
    only : (b : Bool) → (b || false) ≡ true → b ≡ true
    only true h = refl
    only false h = h
placed-own q x e (series m l r) d xs i apart small h =
    let u1 = ups q x e l in
    let u2 = ups q x e r in
    part q x e l r (trunc (series_part q m u1 u2 d u1) q) (trunc (series_part q (q - m) u1 u2 d u2) q) xs i (apart.0) small (sym (leaf_either l r i) ∙ h)
    (λ e1. placed-own q x e l (trunc (series_part q m u1 u2 d u1) q) xs i apart.1 small e1)
    (λ ys s2 e2. placed-own q x e r (trunc (series_part q (q - m) u1 u2 d u2) q) ys i apart.2 s2 e2)
placed-own q x e (parallel m l r) d xs i apart small h =
    let u1 = ups q x e l in
    let u2 = ups q x e r in
    part q x e l r (trunc (parallel_part q m (q - m) u1 u2 d u1) q) (trunc (parallel_part q m (q - m) u1 u2 d u2) q) xs i (apart.0) small (sym (leaf_either l r i) ∙ h)
    (λ e1. placed-own q x e l (trunc (parallel_part q m (q - m) u1 u2 d u1) q) xs i apart.1 small e1)
    (λ ys s2 e2. placed-own q x e r (trunc (parallel_part q m (q - m) u1 u2 d u2) q) ys i apart.2 s2 e2)

-- and of an element of the network
pub placed_sent : (n : Network) (x e : ℕ → ℤ) (xs : List ℤ) (i : ℕ) → AreDisjoint n.left n.right → HasDistinctLeaves n.left → HasDistinctLeaves n.right
    → i < length xs → has_element (elements n) i ≡ true → at_place (placed_frame n (solved n x e) xs) i ≡ sent_in n (solved n x e) i
placed_sent n x e xs i apart dl dr small h =
    let q = 2 ^ n.k in
    part q x e n.left n.right _ _ xs i apart small (sym (leaf_either n.left n.right i) ∙ h)
    (λ e1. placed-own q x e n.left _ xs i dl small e1)
    (λ ys s2 e2. placed-own q x e n.right _ ys i dr s2 e2)
