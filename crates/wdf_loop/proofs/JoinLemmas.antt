-- How junctions that are joined by a stack hang together.
use Rattle.std.proofs.Common.{◌≡◌, ℕ, zero, suc, ◌<◌, ◌≤◌, List, [], ◌∷◌, ◌++◌, length, get_or, refl, ap, sym, ◌∙◌, subst, arith}
use mathlib.Core.Logic.{◌⊎◌, inl, inr}
use Rattle.wdf_sched.specs.Junctions.{Junction, series, Branch, branch, first_part, second_part, own_branch, IsTaken, Join}
use Rattle.wdf_sched.specs.Meaning.{slot_at}

abbrev pub junction_at : List Junction → ℕ → Junction
junction_at ks j = get_or ks j (series 0 0 0 0 0 0 0)

abbrev pub IsLeafBranch : List ℕ → Branch → Type 0
IsLeafBranch slots p = (p.up < length slots) × (p.down ≡ slot_at slots p.up)

-- ---- what a junction takes, with the tree of the junction before on the stack

abbrev pub AreAbove : ℕ → List Branch → Type 0
AreAbove count [] = Unit {0}
AreAbove count (b ∷ bs) = (count ≤ b.up) × AreAbove count bs

abbrev pub Takes : List ℕ → ℕ → Branch → Junction → Type 0
Takes slots count own k =
    (IsLeafBranch slots (second_part k) × (IsLeafBranch slots (first_part k) ⊎ (own ≡ first_part k)))
    ⊎ ((own ≡ second_part k) × (IsLeafBranch slots (first_part k) ⊎ (count ≤ (first_part k).up)))

abbrev top_of : List Branch → Branch
top_of [] = branch 0 0
top_of (b ∷ bs) = b

abbrev rest_of : List Branch → List Branch
rest_of [] = []
rest_of (b ∷ bs) = bs

left_above : (slots : List ℕ) (count : ℕ) (p : Branch) (before behind : List Branch) → IsTaken slots p before behind → AreAbove count before → AreAbove count behind
left_above slots count p before behind (inl h) above = subst (AreAbove count) (sym h.2) above
left_above slots count p before behind (inr h) above =
    let whole : AreAbove count (p ∷ behind) = subst (AreAbove count) h above in whole.1

one : (slots : List ℕ) (count : ℕ) (own : Branch) (rest : List Branch) (k : Junction) (middle behind : List Branch) → AreAbove count rest
    → IsTaken slots (second_part k) (own ∷ rest) middle → IsTaken slots (first_part k) middle behind → Takes slots count own k
one slots count own rest k middle behind above (inl h) (inl f) = inl ((h.0, h.1), inl (f.0, f.1))
one slots count own rest k middle behind above (inl h) (inr f) = inl ((h.0, h.1), inr (ap top_of (sym h.2 ∙ f)))
one slots count own rest k middle behind above (inr h) (inl f) = inr (ap top_of h, inl (f.0, f.1))
one slots count own rest k middle behind above (inr h) (inr f) =
    let same : rest ≡ first_part k ∷ behind = ap rest_of h ∙ f in
    let whole : AreAbove count (first_part k ∷ behind) = subst (AreAbove count) same above in
    inr (ap top_of h, inr whole.0)

pub takes : (slots : List ℕ) (count : ℕ) (ks : List Junction) (s e : List Branch) → AreAbove count s
    → ((i : ℕ) → suc i < length ks → count ≤ (own_branch (junction_at ks i)).up) → Join slots s ks e
    → (j : ℕ) → suc j < length ks → Takes slots count (own_branch (junction_at ks j)) (junction_at ks (suc j))
takes slots count [] s e above owns h j small = absurd (omega arith)
takes slots count (k ∷ []) s e above owns h j small = absurd (omega arith)
takes slots count (k ∷ l ∷ ks) s e above owns h zero small =
    let left = left_above slots count (first_part k) h.0 h.1 h.3 (left_above slots count (second_part k) s h.0 h.2 above) in
    one slots count (own_branch k) h.1 l h.4.0 h.4.1 left h.4.2 h.4.3
takes slots count (k ∷ l ∷ ks) s e above owns h (suc j) small =
    let left = left_above slots count (first_part k) h.0 h.1 h.3 (left_above slots count (second_part k) s h.0 h.2 above) in
    takes slots count (l ∷ ks) (own_branch k ∷ h.1) e (owns zero (omega arith), left) (λ i b. owns (suc i) (omega (arith, b))) h.4 j (omega (arith, small))

-- the first one takes elements
none_left : (p : Branch) (behind : List Branch) → [] ≡ p ∷ behind → ⊥
none_left p behind h = cc

pub takes_first : (slots : List ℕ) (ks : List Junction) (e : List Branch) → Join slots [] ks e → 0 < length ks
    → IsLeafBranch slots (second_part (junction_at ks 0)) × IsLeafBranch slots (first_part (junction_at ks 0))
takes_first slots [] e h small = absurd (omega arith)
takes_first slots (k ∷ ks) e (middle, rest, inl a, inl b, more) small = ((a.0, a.1), (b.0, b.1))
takes_first slots (k ∷ ks) e (middle, rest, inl a, inr b, more) small = absurd (none_left (first_part k) rest (sym a.2 ∙ b))
takes_first slots (k ∷ ks) e (middle, rest, inr a, b, more) small = absurd (none_left (second_part k) middle a)

-- ---- each tree is taken by a later junction, or is left on the stack

abbrev pub In : Branch → List Branch → Type 0
In p [] = ⊥
In p (b ∷ bs) = (b ≡ p) ⊎ In p bs

abbrev pub IsPart : Branch → Junction → Type 0
IsPart p k = (first_part k ≡ p) ⊎ (second_part k ≡ p)

in_taken : (slots : List ℕ) (p q : Branch) (before behind : List Branch) → IsTaken slots q before behind → In p before → (q ≡ p) ⊎ In p behind
in_taken slots p q before behind (inl h) i = inr (subst (In p) (sym h.2) i)
in_taken slots p q before behind (inr h) i = let both : In p (q ∷ behind) = subst (In p) h i in both

pub stays : (slots : List ℕ) (ks : List Junction) (s e : List Branch) (p : Branch) → Join slots s ks e → In p s
    → In p e ⊎ ((j : ℕ) × ((j < length ks) × IsPart p (junction_at ks j)))
stays slots [] s e p h i = inl (subst (In p) h i)
stays slots (k ∷ ks) s e p h i = after_second (λ b. stays slots ks (own_branch k ∷ h.1) e p h.4 (inr b)) (in_taken slots p (second_part k) s h.0 h.2 i)
  where
    more : In p e ⊎ ((j : ℕ) × ((j < length ks) × IsPart p (junction_at ks j))) → In p e ⊎ ((j : ℕ) × ((j < length (k ∷ ks)) × IsPart p (junction_at (k ∷ ks) j)))
    more (inl a) = inl a
    more (inr (j, (small, part))) = inr (suc j, (omega (arith, small), part))

    after_first : (In p h.1 → In p e ⊎ ((j : ℕ) × ((j < length ks) × IsPart p (junction_at ks j)))) → (first_part k ≡ p) ⊎ In p h.1 → In p e ⊎ ((j : ℕ) × ((j < length (k ∷ ks)) × IsPart p (junction_at (k ∷ ks) j)))
    after_first rest (inl a) = inr (zero, (omega arith, inl a))
    after_first rest (inr b) = more (rest b)

    after_second : (In p h.1 → In p e ⊎ ((j : ℕ) × ((j < length ks) × IsPart p (junction_at ks j)))) → (second_part k ≡ p) ⊎ In p h.0 → In p e ⊎ ((j : ℕ) × ((j < length (k ∷ ks)) × IsPart p (junction_at (k ∷ ks) j)))
    after_second rest (inl a) = inr (zero, (omega arith, inr a))
    after_second rest (inr b) = after_first rest (in_taken slots p (first_part k) h.0 h.1 h.3 b)

pub own_taken : (slots : List ℕ) (ks : List Junction) (s e : List Branch) → Join slots s ks e → (i : ℕ) → i < length ks
    → In (own_branch (junction_at ks i)) e ⊎ ((j : ℕ) × ((i < j) × (j < length ks) × IsPart (own_branch (junction_at ks i)) (junction_at ks j)))
own_taken slots [] s e h i small = absurd (omega arith)
own_taken slots (k ∷ ks) s e h zero small = more (stays slots ks (own_branch k ∷ h.1) e (own_branch k) h.4 (inl refl))
  where
    more : In (own_branch k) e ⊎ ((j : ℕ) × ((j < length ks) × IsPart (own_branch k) (junction_at ks j)))
        → In (own_branch k) e ⊎ ((j : ℕ) × ((0 < j) × (j < length (k ∷ ks)) × IsPart (own_branch k) (junction_at (k ∷ ks) j)))
    more (inl a) = inl a
    more (inr (j, (b, part))) = inr (suc j, (omega arith, omega (arith, b), part))
own_taken slots (k ∷ ks) s e h (suc i) small = more (own_taken slots ks (own_branch k ∷ h.1) e h.4 i (omega (arith, small)))
  where
    more : In (own_branch (junction_at ks i)) e ⊎ ((j : ℕ) × ((i < j) × (j < length ks) × IsPart (own_branch (junction_at ks i)) (junction_at ks j)))
        → In (own_branch (junction_at ks i)) e ⊎ ((j : ℕ) × ((suc i < j) × (j < length (k ∷ ks)) × IsPart (own_branch (junction_at ks i)) (junction_at (k ∷ ks) j)))
    more (inl a) = inl a
    more (inr (j, (b, c, part))) = inr (suc j, (omega (arith, b), omega (arith, c), part))

-- ---- the root as a junction that takes what is left

pub joined : (slots : List ℕ) (js : List Junction) (root : Junction) (s stack middle : List Branch) → Join slots s js stack
    → IsTaken slots (second_part root) stack middle → IsTaken slots (first_part root) middle [] → Join slots s (js ++ root ∷ []) (own_branch root ∷ [])
joined slots [] root s stack middle h right left =
    (middle, [], subst (λ (z : List Branch). IsTaken slots (second_part root) z middle) (sym h) right, left, refl)
joined slots (j ∷ js) root s stack middle h right left =
    (h.0, h.1, h.2, h.3, joined slots js root (own_branch j ∷ h.1) stack middle h.4 right left)
