-- A step reads the states of the reactances and the inputs of the sources alone.
use Rattle.std.proofs.Common.{◌≡◌, ℕ, ◌-◌, Bool, true, false, ◌&&◌, ◌||◌, ◌==◌, List, ◌++◌, refl, ap, ◌∙◌}
use Rattle.std.specs.Prelude.{ℤ, neg_ℤ}
use Rattle.std.specs.List.{list_any}
use Rattle.std.proofs.lemmas.Bool.{eq-eqb}
use Rattle.std.proofs.lemmas.List.Folds.{list_any-append}
use Rattle.wdf_algebra.specs.JunctionValues.{series_value, series_part, parallel_value, parallel_part, root_value}
use Rattle.wdf_algebra.specs.Truncation.{trunc}
use Rattle.wdf_law.specs.declared.kind.Kind.{Kind}
use Rattle.wdf_law.specs.declared.kind.Kind.TheVariants.{Res, Cap, Ind, Src}
use Rattle.wdf_law.specs.Trees.{AdaptorTree, leaf, series, parallel, LeafElement, elements_of}
use Rattle.wdf_law.specs.Network.{Network, unit_of, elements, is_reactance, is_source, has_reactance, has_source}
use Rattle.wdf_law.specs.Elements.{signed}
use Rattle.wdf_law.specs.Step.{ends, forks}
use Rattle.wdf_law.specs.Solved.{reflected, ups, waves, solved}

-- states and inputs that a tree's leaves cannot tell apart
abbrev pub Agrees : (ℕ → ℤ) → (ℕ → ℤ) → (ℕ → ℤ) → (ℕ → ℤ) → AdaptorTree → Type 0
Agrees x e y f (leaf i k flip) = reflected k flip (x i) (e i) ≡ reflected k flip (y i) (f i)
Agrees x e y f (series m l r) = Agrees x e y f l × Agrees x e y f r
Agrees x e y f (parallel m l r) = Agrees x e y f l × Agrees x e y f r

pub ups_same : (q : ℕ) (x e y f : ℕ → ℤ) (t : AdaptorTree) → Agrees x e y f t → ups q x e t ≡ ups q y f t
ups_same q x e y f (leaf i k flip) h = h
ups_same q x e y f (series m l r) h =
    let u1 = ups_same q x e y f l h.0 in
    let u2 = ups_same q x e y f r h.1 in
    λ j. trunc (series_value q (u1 j) (u2 j)) q
ups_same q x e y f (parallel m l r) h =
    let u1 = ups_same q x e y f l h.0 in
    let u2 = ups_same q x e y f r h.1 in
    λ j. trunc (parallel_value m (q - m) (u1 j) (u2 j)) q

pub waves_same : (q : ℕ) (x e y f : ℕ → ℤ) (t : AdaptorTree) (c d : ℤ) → Agrees x e y f t → c ≡ d → waves q x e t c ≡ waves q y f t d
waves_same q x e y f (leaf i k flip) c d h s = λ j. ends (h j) (s j)
waves_same q x e y f (series m l r) c d h s =
    let u1 = ups_same q x e y f l h.0 in
    let u2 = ups_same q x e y f r h.1 in
    let wl = waves_same q x e y f l _ _ h.0 (λ j. trunc (series_part q m (u1 j) (u2 j) (s j) (u1 j)) q) in
    let wr = waves_same q x e y f r _ _ h.1 (λ j. trunc (series_part q (q - m) (u1 j) (u2 j) (s j) (u2 j)) q) in
    λ j. forks (trunc (series_value q (u1 j) (u2 j)) q) (s j) (series_part q m (u1 j) (u2 j) (s j) (u1 j)) (series_part q (q - m) (u1 j) (u2 j) (s j) (u2 j)) (series_value q (u1 j) (u2 j)) (wl j) (wr j)
waves_same q x e y f (parallel m l r) c d h s =
    let u1 = ups_same q x e y f l h.0 in
    let u2 = ups_same q x e y f r h.1 in
    let wl = waves_same q x e y f l _ _ h.0 (λ j. trunc (parallel_part q m (q - m) (u1 j) (u2 j) (s j) (u1 j)) q) in
    let wr = waves_same q x e y f r _ _ h.1 (λ j. trunc (parallel_part q m (q - m) (u1 j) (u2 j) (s j) (u2 j)) q) in
    λ j. forks (trunc (parallel_value m (q - m) (u1 j) (u2 j)) q) (s j) (parallel_part q m (q - m) (u1 j) (u2 j) (s j) (u1 j)) (parallel_part q m (q - m) (u1 j) (u2 j) (s j) (u2 j)) (parallel_value m (q - m) (u1 j) (u2 j)) (wl j) (wr j)

pub solved_same : (n : Network) (x e y f : ℕ → ℤ) → Agrees x e y f n.left → Agrees x e y f n.right → solved n x e ≡ solved n y f
solved_same n x e y f hl hr =
    let q = unit_of n in
    let u1 = ups_same q x e y f n.left hl in
    let u2 = ups_same q x e y f n.right hr in
    let wl = waves_same q x e y f n.left _ _ hl (λ j. trunc (root_value q n.m (q - n.m) (u1 j) (u2 j) (u1 j)) q) in
    let wr = waves_same q x e y f n.right _ _ hr (λ j. trunc (root_value q n.m (q - n.m) (u1 j) (u2 j) (u2 j)) q) in
    λ j. record { b1 = root_value q n.m (q - n.m) (u1 j) (u2 j) (u1 j); b2 = root_value q n.m (q - n.m) (u1 j) (u2 j) (u2 j); left = wl j; right = wr j }

-- ---- from the elements

or_left : (a b : Bool) → a ≡ true → (a || b) ≡ true
or_left a b h = ap (λ (c : Bool). c || b) h

or_right : (a b : Bool) → b ≡ true → (a || b) ≡ true
or_right true b h = refl
or_right false b h = h

pub first_any : (p : LeafElement → Bool) (xs ys : List LeafElement) → list_any p xs ≡ true → list_any p (xs ++ ys) ≡ true
first_any p xs ys h = list_any-append p xs ys ∙ or_left (list_any p xs) (list_any p ys) h

pub second_any : (p : LeafElement → Bool) (xs ys : List LeafElement) → list_any p ys ≡ true → list_any p (xs ++ ys) ≡ true
second_any p xs ys h = list_any-append p xs ys ∙ or_right (list_any p xs) (list_any p ys) h

-- states that agree at the reactances and inputs that agree at the sources
pub agrees_on : (x e y f : ℕ → ℤ) (t : AdaptorTree) → ((i : ℕ) → has_reactance (elements_of t) i ≡ true → x i ≡ y i)
    → ((i : ℕ) → has_source (elements_of t) i ≡ true → e i ≡ f i) → Agrees x e y f t
agrees_on x e y f (leaf i k flip) states inputs = by k states inputs
  where
    own : ((i == i) && true || false) ≡ true
    own = ap (λ (b : Bool). b && true || false) (eq-eqb i i refl)

    by : (k : Kind) → ((j : ℕ) → has_reactance (elements_of (leaf i k flip)) j ≡ true → x j ≡ y j)
        → ((j : ℕ) → has_source (elements_of (leaf i k flip)) j ≡ true → e j ≡ f j) → Agrees x e y f (leaf i k flip)
    by Res states inputs = refl
    by Src states inputs = ap (signed flip) (inputs i own)
    by Cap states inputs = states i own
    by Ind states inputs = ap neg_ℤ (states i own)
agrees_on x e y f (series m l r) states inputs = (
  agrees_on x e y f l (λ i h. states i (first_any (λ (a : LeafElement). (a.number == i) && is_reactance a.kind) (elements_of l) (elements_of r) h))
      (λ i h. inputs i (first_any (λ (a : LeafElement). (a.number == i) && is_source a.kind) (elements_of l) (elements_of r) h)),
  agrees_on x e y f r (λ i h. states i (second_any (λ (a : LeafElement). (a.number == i) && is_reactance a.kind) (elements_of l) (elements_of r) h))
      (λ i h. inputs i (second_any (λ (a : LeafElement). (a.number == i) && is_source a.kind) (elements_of l) (elements_of r) h)),
)
agrees_on x e y f (parallel m l r) states inputs = (
  agrees_on x e y f l (λ i h. states i (first_any (λ (a : LeafElement). (a.number == i) && is_reactance a.kind) (elements_of l) (elements_of r) h))
      (λ i h. inputs i (first_any (λ (a : LeafElement). (a.number == i) && is_source a.kind) (elements_of l) (elements_of r) h)),
  agrees_on x e y f r (λ i h. states i (second_any (λ (a : LeafElement). (a.number == i) && is_reactance a.kind) (elements_of l) (elements_of r) h))
      (λ i h. inputs i (second_any (λ (a : LeafElement). (a.number == i) && is_source a.kind) (elements_of l) (elements_of r) h)),
)

-- so a network cannot tell them apart
pub solved_alike : (n : Network) (x e y f : ℕ → ℤ) → ((i : ℕ) → has_reactance (elements n) i ≡ true → x i ≡ y i)
    → ((i : ℕ) → has_source (elements n) i ≡ true → e i ≡ f i) → solved n x e ≡ solved n y f
solved_alike n x e y f states inputs =
    solved_same n x e y f
    (agrees_on x e y f n.left (λ i h. states i (first_any (λ (a : LeafElement). (a.number == i) && is_reactance a.kind) (elements_of n.left) (elements_of n.right) h))
    (λ i h. inputs i (first_any (λ (a : LeafElement). (a.number == i) && is_source a.kind) (elements_of n.left) (elements_of n.right) h)))
    (agrees_on x e y f n.right (λ i h. states i (second_any (λ (a : LeafElement). (a.number == i) && is_reactance a.kind) (elements_of n.left) (elements_of n.right) h))
    (λ i h. inputs i (second_any (λ (a : LeafElement). (a.number == i) && is_source a.kind) (elements_of n.left) (elements_of n.right) h)))
