-- Sums over the elements of a kind: along a tree's leaves, and over the numbers in netlist order.
use Rattle.std.proofs.Common.{◌≡◌, ℕ, zero, suc, ◌+◌, ◌*◌, ◌<◌, ◌≤◌, Bool, true, false, ◌&&◌, ◌||◌, ◌==◌, cond, if◌then◌else◌, List, [], ◌∷◌, ◌++◌, map, length, refl, ap, sym, ◌∙◌, subst, arith}
use Rattle.std.specs.Prelude.{filter, All}
use Rattle.std.specs.List.{range_with_len, sum_by}
use Rattle.std.proofs.lemmas.Bool.{eqb-true, ne_eqb, eq-eqb, cases_lt}
use mathlib.Core.Logic.{◌⊎◌, inl, inr}
use Rattle.std.proofs.lemmas.List.Sums.{sum_by-cons}
use Rattle.std.proofs.lemmas.List.Elements.{All-head, All-tail}
use Rattle.wdf_law.specs.declared.kind.Kind.{Kind}
use Rattle.wdf_law.specs.Trees.{LeafElement}
use Rattle.wdf_law.specs.Network.{has_element, has_kind, times_in}
use Rattle.wdf_law.proofs.NumberLemmas.{number_of, or_left, or_right, kind_among, apart}

-- ---- along the leaves

-- the sum of f over the numbers of the elements of a kind
abbrev pub over : (Kind → Bool) → (ℕ → ℕ) → List LeafElement → ℕ
over is f [] = 0
over is f (x ∷ xs) = (if is x.kind then f x.number else 0) + over is f xs

pub over-append : (is : Kind → Bool) (f : ℕ → ℕ) (xs ys : List LeafElement) → over is f (xs ++ ys) ≡ over is f xs + over is f ys
over-append is f [] ys = omega arith
over-append is f (x ∷ xs) ys = let rest = over-append is f xs ys in omega arith

-- an element stands among itself and others, and so do the others
pub number_first : (x : LeafElement) (xs : List LeafElement) → has_element (x ∷ xs) x.number ≡ true
number_first x xs = or_left (x.number == x.number) (has_element xs x.number) (eq-eqb x.number x.number refl)

pub number_later : (x : LeafElement) (xs : List LeafElement) (i : ℕ) → has_element xs i ≡ true → has_element (x ∷ xs) i ≡ true
number_later x xs i h = or_right (x.number == i) (has_element xs i) h

pub over-same : (is : Kind → Bool) (f g : ℕ → ℕ) (xs : List LeafElement) → ((i : ℕ) → has_kind is xs i ≡ true → f i ≡ g i) → over is f xs ≡ over is g xs
over-same is f g [] h = refl
over-same is f g (x ∷ xs) h = λ j.
    by (is x.kind) refl j + over-same is f g xs (λ i there. h i (or_right ((x.number == i) && is x.kind) (has_kind is xs i) there)) j
  where
    by : (b : Bool) → is x.kind ≡ b → cond {A = ℕ} b (f x.number) 0 ≡ cond {A = ℕ} b (g x.number) 0
    by true e = h x.number (or_left _ (has_kind is xs x.number) (λ j. eq-eqb x.number x.number refl j && e j))
    by false e = refl

-- one element's part is at most the whole
pub part-over : (is : Kind → Bool) (f : ℕ → ℕ) (xs : List LeafElement) (j : ℕ) → has_kind is xs j ≡ true → f j ≤ over is f xs
part-over is f [] j h = absurd (cc)
part-over is f (x ∷ xs) j h = by (x.number == j) refl (is x.kind) h (part-over is f xs j)
  where
    by : (a : Bool) → (x.number == j) ≡ a → (b : Bool) → ((a && b) || has_kind is xs j) ≡ true → (has_kind is xs j ≡ true → f j ≤ over is f xs)
        → f j ≤ cond {A = ℕ} b (f x.number) 0 + over is f xs
    by true e true t rest = let same : f x.number ≡ f j = ap f (eqb-true x.number j e) in omega arith
    by true e false t rest = let later = rest t in omega arith
    by false e b t rest = let later = rest t in omega arith

-- ---- over numbers

-- over those that pass one of two tests of which no number passes both
sum-or : (f : ℕ → ℕ) (t u : ℕ → Bool) (ks : List ℕ) → ((i : ℕ) → t i ≡ true → u i ≡ false)
    → sum_by f (filter (λ (i : ℕ). t i || u i) ks) ≡ sum_by f (filter t ks) + sum_by f (filter u ks)
sum-or f t u [] h = refl
sum-or f t u (k ∷ ks) h = by (t k) refl (u k) refl (sum-or f t u ks h)
  where
    by : (a : Bool) → t k ≡ a → (b : Bool) → u k ≡ b → sum_by f (filter (λ (i : ℕ). t i || u i) ks) ≡ sum_by f (filter t ks) + sum_by f (filter u ks)
        → sum_by f (cond (a || b) (k ∷ filter (λ (i : ℕ). t i || u i) ks) (filter (λ (i : ℕ). t i || u i) ks))
        ≡ sum_by f (cond a (k ∷ filter t ks) (filter t ks)) + sum_by f (cond b (k ∷ filter u ks) (filter u ks))
    by true e true d rest = let no_ : u k ≡ false = h k e in absurd (cc)
    by true e false d rest =
        let one = sum_by-cons f k (filter (λ (i : ℕ). t i || u i) ks) in
        let two = sum_by-cons f k (filter t ks) in
        omega arith
    by false e true d rest =
        let one = sum_by-cons f k (filter (λ (i : ℕ). t i || u i) ks) in
        let two = sum_by-cons f k (filter u ks) in
        omega arith
    by false e false d rest = rest

-- over those that pass no test
sum-none : (f : ℕ → ℕ) (ks : List ℕ) → sum_by f (filter (λ (i : ℕ). false) ks) ≡ 0
sum-none f [] = refl
sum-none f (k ∷ ks) = sum-none f ks

-- over one number alone, which stands before the range or in it
sum-before : (f : ℕ → ℕ) (k a n : ℕ) → k < a → sum_by f (filter (λ (i : ℕ). (k == i) && true) (range_with_len a n)) ≡ 0
sum-before f k a zero h = refl
sum-before f k a (suc n) h =
    ap (λ (b : Bool). sum_by f (cond (b && true) (a ∷ filter (λ (i : ℕ). (k == i) && true) (range_with_len (a + 1) n)) (filter (λ (i : ℕ). (k == i) && true) (range_with_len (a + 1) n))))
    (ne_eqb k a (λ same. absurd (omega arith)))
    ∙ sum-before f k (a + 1) n (omega arith)

sum-in : (f : ℕ → ℕ) (k a n : ℕ) → a ≤ k → k < a + n → sum_by f (filter (λ (i : ℕ). (k == i) && true) (range_with_len a n)) ≡ f k
sum-in f k a zero h l = absurd (omega arith)
sum-in f k a (suc n) h l = by (cases_lt a k) (λ less. sum-in f k (a + 1) n (omega arith) (omega arith))
  where
    by : (a < k) ⊎ (k ≤ a) → (a < k → sum_by f (filter (λ (i : ℕ). (k == i) && true) (range_with_len (a + 1) n)) ≡ f k)
        → sum_by f (filter (λ (i : ℕ). (k == i) && true) (range_with_len a (suc n))) ≡ f k
    by (inl less) later =
        ap (λ (b : Bool). sum_by f (cond (b && true) (a ∷ filter (λ (i : ℕ). (k == i) && true) (range_with_len (a + 1) n)) (filter (λ (i : ℕ). (k == i) && true) (range_with_len (a + 1) n))))
        (ne_eqb k a (λ same. absurd (omega arith)))
        ∙ later less
    by (inr most) later =
        let same : k ≡ a = omega arith in
        let cons = sum_by-cons f a (filter (λ (i : ℕ). (k == i) && true) (range_with_len (a + 1) n)) in
        let none = sum-before f k (a + 1) n (omega arith) in
        ap (λ (b : Bool). sum_by f (cond (b && true) (a ∷ filter (λ (i : ℕ). (k == i) && true) (range_with_len (a + 1) n)) (filter (λ (i : ℕ). (k == i) && true) (range_with_len (a + 1) n))))
        (eq-eqb k a same)
        ∙ (cons ∙ (ap (λ (s : ℕ). f a + s) none ∙ (let e : f a + 0 ≡ f a = omega arith in e) ∙ ap f (sym same)))

-- over the number of one element, where it is of the kind
sum-one : (f : ℕ → ℕ) (k n : ℕ) (b : Bool) → k < n → sum_by f (filter (λ (i : ℕ). (k == i) && b) (range_with_len 0 n)) ≡ (if b then f k else 0)
sum-one f k n true h = sum-in f k 0 n (omega arith) (omega arith)
sum-one f k n false h =
    subst (λ (t : ℕ → Bool). sum_by f (filter t (range_with_len 0 n)) ≡ 0) (λ j i. and_false (k == i) j) (sum-none f (range_with_len 0 n))
  where
    and_false : (b : Bool) → false ≡ (b && false)
    and_false true = refl
    and_false false = refl

and_front : (a b : Bool) → (a && b) ≡ true → a ≡ true
and_front true b h = refl
and_front false b h = h

-- the two sums are one, where the numbers are below the bound and each stands once
pub over-numbers : (is : Kind → Bool) (f : ℕ → ℕ) (xs : List LeafElement) (c : ℕ) → All (λ (k : ℕ). k < c) (map number_of xs)
    → ((i : ℕ) → times_in (map number_of xs) i ≤ 1) → over is f xs ≡ sum_by f (filter (has_kind is xs) (range_with_len 0 c))
over-numbers is f [] c below once = sym (sum-none f (range_with_len 0 c))
over-numbers is f (x ∷ xs) c below once =
    let small : x.number < c = All-head (λ (k : ℕ). k < c) x.number (map number_of xs) below in
    let rest = over-numbers is f xs c (All-tail (λ (k : ℕ). k < c) x.number (map number_of xs) below) (λ i. let o = once i in omega arith) in
    let one = sum-one f x.number c (is x.kind) small in
    let all = sum-or f (λ (i : ℕ). (x.number == i) && is x.kind) (has_kind is xs) (range_with_len 0 c) alone in
    (λ j. sym one j + rest j) ∙ sym all
  where
    alone : (i : ℕ) → ((x.number == i) && is x.kind) ≡ true → has_kind is xs i ≡ false
    alone i h = by (has_kind is xs i) refl
      where
        by : (b : Bool) → has_kind is xs i ≡ b → b ≡ false
        by true e =
            let first : (x.number == i) ≡ true = and_front (x.number == i) (is x.kind) h in
            let none = apart (x ∷ []) xs i (once i) (kind_among is xs i e) in
            let some = or_left (x.number == i) false first in
            absurd (cc)
        by false e = refl

-- ---- bounds

pub sum-le : (f g : ℕ → ℕ) (t : ℕ → Bool) (ks : List ℕ) → ((i : ℕ) → t i ≡ true → f i ≤ g i) → sum_by f (filter t ks) ≤ sum_by g (filter t ks)
sum-le f g t [] h = omega arith
sum-le f g t (k ∷ ks) h = by (t k) refl (sum-le f g t ks h)
  where
    by : (b : Bool) → t k ≡ b → sum_by f (filter t ks) ≤ sum_by g (filter t ks) → sum_by f (cond b (k ∷ filter t ks) (filter t ks)) ≤ sum_by g (cond b (k ∷ filter t ks) (filter t ks))
    by true e rest =
        let here = h k e in
        let one = sum_by-cons f k (filter t ks) in
        let two = sum_by-cons g k (filter t ks) in
        omega arith
    by false e rest = rest

pub sum-times : (f : ℕ → ℕ) (c : ℕ) (ks : List ℕ) → sum_by (λ (i : ℕ). f i * c) ks ≡ sum_by f ks * c
sum-times f c [] = omega arith
sum-times f c (k ∷ ks) =
    let rest = sum-times f c ks in
    let one = sum_by-cons (λ (i : ℕ). f i * c) k ks in
    let two : sum_by f (k ∷ ks) * c ≡ (f k + sum_by f ks) * c = ap (λ (s : ℕ). s * c) (sum_by-cons f k ks) in
    omega arith

-- of a list that is not empty, each of whose numbers passes
pub sum-pos : (f : ℕ → ℕ) (t : ℕ → Bool) (ks : List ℕ) → 1 ≤ length (filter t ks) → ((i : ℕ) → t i ≡ true → 0 < f i) → 0 < sum_by f (filter t ks)
sum-pos f t [] some h = absurd (omega arith)
sum-pos f t (k ∷ ks) some h = by (t k) refl some (λ rest. sum-pos f t ks rest h)
  where
    by : (b : Bool) → t k ≡ b → 1 ≤ length (cond b (k ∷ filter t ks) (filter t ks)) → (1 ≤ length (filter t ks) → 0 < sum_by f (filter t ks))
        → 0 < sum_by f (cond b (k ∷ filter t ks) (filter t ks))
    by true e l rest =
        let here = h k e in
        let one = sum_by-cons f k (filter t ks) in
        omega arith
    by false e l rest = rest l
