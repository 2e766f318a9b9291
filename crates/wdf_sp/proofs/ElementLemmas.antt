-- The leaves of two trees that meet are the elements of the circuit, each once.
use Rattle.std.proofs.Common.{◌≡◌, ℕ, ◌+◌, Bool, true, false, List, [], ◌∷◌, ◌++◌, map, refl, ap, ◌∙◌, arith}
use Rattle.std.specs.Prelude.{slice_get}
use Rattle.std.specs.List.{All}
use Rattle.std.proofs.lemmas.List.{map-append}
use Rattle.std.proofs.lemmas.List.Elements.{All-nil, All-cons, All-append}
use Rattle.wdf_law.specs.declared.connection.Connection.TheVariants.{Series, Parallel}
use Rattle.wdf_law.specs.Network.{times_in}
use Rattle.wdf_law.specs.Outline.{Outline, single, joined, outline_elements, times}
use Rattle.wdf_law.specs.Spans.{Branch, placed, Spans}
use Rattle.wdf_law.specs.Trees.{LeafElement}
use Rattle.wdf_sp.specs.Structure.{Halves, Meets, IsElementOf, HasElements}

leaf_elements : (bs : List Branch) (t : Outline) (p q : ℕ) → Spans (slice_get bs) t p q → All (IsElementOf bs) (outline_elements t)
leaf_elements bs (single i k f) p q h =
    All-cons (IsElementOf bs) (record { number = i; kind = k; flip = f }) [] (record { branch = placed k f p q; at = h; kind = kind_is f }) (All-nil (IsElementOf bs))
  where
    kind_is : (f : Bool) → (placed k f p q).kind ≡ k
    kind_is false = refl
    kind_is true = refl
leaf_elements bs (joined Series l r) p q h =
    All-append (IsElementOf bs) (outline_elements l) (outline_elements r) (leaf_elements bs l p h.0 h.1) (leaf_elements bs r h.0 q h.2)
leaf_elements bs (joined Parallel l r) p q h =
    All-append (IsElementOf bs) (outline_elements l) (outline_elements r) (leaf_elements bs l p q h.0) (leaf_elements bs r p q h.1)

times_in-append : (xs ys : List ℕ) (i : ℕ) → times_in (xs ++ ys) i ≡ times_in xs i + times_in ys i
times_in-append [] ys i = omega arith
times_in-append (x ∷ xs) ys i = let rest = times_in-append xs ys i in omega arith

numbers-append : (xs ys : List LeafElement) (i : ℕ) → times_in (map (λ (x : LeafElement). x.number) (xs ++ ys)) i ≡ times_in (map (λ (x : LeafElement). x.number) xs) i + times_in (map (λ (x : LeafElement). x.number) ys) i
numbers-append xs ys i =
    ap (λ (ns : List ℕ). times_in ns i) (map-append (λ (x : LeafElement). x.number) xs ys)
    ∙ times_in-append (map (λ (x : LeafElement). x.number) xs) (map (λ (x : LeafElement). x.number) ys) i

times_in-elements : (t : Outline) (i : ℕ) → times_in (map (λ (x : LeafElement). x.number) (outline_elements t)) i ≡ times t i
times_in-elements (single j k f) i = omega arith
times_in-elements (joined c l r) i = omega (arith, numbers-append (outline_elements l) (outline_elements r) i, times_in-elements l i, times_in-elements r i)

pub has_elements : (bs : List Branch) (h : Halves) → Meets bs h → HasElements bs h
has_elements bs h (p, q, m) = record {
  elements = All-append (IsElementOf bs) (outline_elements h.left) (outline_elements h.right) (leaf_elements bs h.left p q m.left) (leaf_elements bs h.right p q m.right);
  once = λ i within.
      let left = times_in-elements h.left i in
      let right = times_in-elements h.right i in
      omega (arith, numbers-append (outline_elements h.left) (outline_elements h.right) i, m.apart i, m.all i within);
}
