-- What an element reflects, by its sign and what it is fed.
use Rattle.std.proofs.Common.{◌≡◌, ℕ, zero, suc, ◌+◌, ◌<◌, ◌≤◌, Bool, true, false, ◌&&◌, ◌||◌, ◌==◌, cond, List, [], ◌∷◌, ◌++◌, length, get_or, map, refl, ap, sym, ◌∙◌, subst, arith, Option, None, Some}
use Rattle.std.specs.Prelude.{ℤ, pos, negsuc, ◌+ℤ◌, ◌*ℤ◌, neg_ℤ, unsigned_abs, All}
use Rattle.std.specs.Option.{option_or}
use mathlib.Core.Logic.{inl, inr}
use borrow.Author.Differences.{ints}
use Rattle.std.proofs.lemmas.Bool.{eqb-true}
use Rattle.std.proofs.lemmas.List.Elements.{All-head, All-tail}
use Rattle.wdf_law.specs.declared.kind.Kind.{Kind}
use Rattle.wdf_law.specs.declared.kind.Kind.TheVariants.{Res, Cap, Ind, Src}
use Rattle.wdf_law.specs.Trees.{AdaptorTree, leaf, series, parallel, LeafElement, elements_of}
use Rattle.wdf_law.specs.Network.{Network, IsNetwork, elements, times_in, has_kind, has_source, is_source, is_reactance, source_numbers}
use Rattle.wdf_law.specs.Elements.{signed}
use Rattle.wdf_law.specs.Run.{entry, source_values}
use Rattle.wdf_law.specs.Solved.{reflected}
use Rattle.wdf_sched.specs.Operations.{Slots}
use Rattle.wdf_sched.specs.Meaning.{Reflects, Starts}
use Rattle.wdf_sched.specs.Schedules.{ScheduleValue}
use Rattle.wdf_loop.specs.declared.feed.Feed.{Feed}
use Rattle.wdf_loop.specs.declared.leaf.Leaf.{Leaf}
use Rattle.wdf_loop.specs.Layouts.{fed_by, feed_at, IsElement}
use Rattle.wdf_loop.specs.Leaves.{found, sign_if, sign_in, flip_if, flip_in}
use Rattle.wdf_loop.specs.Marked.{IsListed}
use Rattle.wdf_loop.proofs.LeafLemmas.{found_either}
use Rattle.wdf_loop.proofs.SourceLemmas.{sources_are}

abbrev number_of : LeafElement → ℕ
number_of x = x.number

abbrev leaf_of : LeafElement → Leaf
leaf_of x = record { kind = x.kind; flip = x.flip }

-- ---- the element with a number

some_leaf : Leaf → Option Leaf → Leaf
some_leaf x None = x
some_leaf x (Some y) = y

same_leaf : (x y : Leaf) → Some x ≡ Some y → x ≡ y
unfolding some_leaf
same_leaf x y e = ap (some_leaf x) e

none_some : (x : Leaf) → None ≡ Some x → ⊥
none_some x e = cc

none_found : (xs : List LeafElement) (c i : ℕ) → All (λ (k : ℕ). k < c) (map number_of xs) → c ≤ i → found xs i ≡ None
none_found [] c i h b = refl
none_found (x ∷ xs) c i h b = by (x.number == i) refl (none_found xs c i (All-tail (λ (k : ℕ). k < c) x.number (map number_of xs) h) b)
  where
    by : (t : Bool) → (x.number == i) ≡ t → found xs i ≡ None → cond {A = Option Leaf} t (Some (leaf_of x)) (found xs i) ≡ None
    by true e rest =
        let same : x.number ≡ i = eqb-true x.number i e in
        let small : x.number < c = All-head (λ (k : ℕ). k < c) x.number (map number_of xs) h in
        absurd (omega (arith, same, small, b))
    by false e rest = rest

is_found : (xs : List LeafElement) (i : ℕ) → 1 ≤ times_in (map number_of xs) i → (x : Leaf) × (found xs i ≡ Some x)
is_found [] i h = absurd (omega (arith, h))
is_found (x ∷ xs) i h = by (x.number == i) h (is_found xs i)
  where
    by : (t : Bool) → 1 ≤ cond {A = ℕ} t 1 0 + times_in (map number_of xs) i → (1 ≤ times_in (map number_of xs) i → (x : Leaf) × (found xs i ≡ Some x))
        → (y : Leaf) × (cond {A = Option Leaf} t (Some (leaf_of x)) (found xs i) ≡ Some y)
    by true h rest = (leaf_of x, refl)
    by false h rest = rest (omega (arith, h))

none_kind : (is : Kind → Bool) (xs : List LeafElement) (i : ℕ) → times_in (map number_of xs) i ≡ 0 → has_kind is xs i ≡ false
none_kind is [] i h = refl
none_kind is (x ∷ xs) i h = by (x.number == i) h (none_kind is xs i)
  where
    by : (t : Bool) → cond {A = ℕ} t 1 0 + times_in (map number_of xs) i ≡ 0 → (times_in (map number_of xs) i ≡ 0 → has_kind is xs i ≡ false)
        → ((t && is x.kind) || has_kind is xs i) ≡ false
    by true h rest = absurd (omega (arith, h))
    by false h rest = rest (omega (arith, h))

or_none : (a : Bool) → (a || false) ≡ a
or_none true = refl
or_none false = refl

kind_found : (is : Kind → Bool) (xs : List LeafElement) (i : ℕ) (y : Leaf) → times_in (map number_of xs) i ≤ 1 → found xs i ≡ Some y
    → has_kind is xs i ≡ is y.kind
kind_found is [] i y most e = absurd (none_some y e)
kind_found is (x ∷ xs) i y most e = by (x.number == i) most e (kind_found is xs i y)
  where
    by : (t : Bool) → cond {A = ℕ} t 1 0 + times_in (map number_of xs) i ≤ 1 → cond {A = Option Leaf} t (Some (leaf_of x)) (found xs i) ≡ Some y
        → (times_in (map number_of xs) i ≤ 1 → found xs i ≡ Some y → has_kind is xs i ≡ is y.kind)
        → ((t && is x.kind) || has_kind is xs i) ≡ is y.kind
    by true most e rest =
        let same : leaf_of x ≡ y = same_leaf (leaf_of x) y e in
        let gone : has_kind is xs i ≡ false = none_kind is xs i (omega (arith, most)) in
        ap (λ (b : Bool). is x.kind || b) gone ∙ (or_none (is x.kind) ∙ ap (λ (z : Leaf). is z.kind) same)
    by false most e rest = rest (omega (arith, most)) e

-- ---- what it reflects

either_found : (x e : ℕ → ℤ) (v : Slots) (l r : AdaptorTree) (i : ℕ) (y : Leaf)
    → (found (elements_of l) i ≡ Some y → v i ≡ reflected y.kind y.flip (x i) (e i))
    → (found (elements_of r) i ≡ Some y → v i ≡ reflected y.kind y.flip (x i) (e i))
    → found (elements_of l ++ elements_of r) i ≡ Some y → v i ≡ reflected y.kind y.flip (x i) (e i)
either_found x e v l r i y left right h = by (found (elements_of l) i) refl (sym (found_either (elements_of l) (elements_of r) i) ∙ h)
  where
    by : (o : Option Leaf) → found (elements_of l) i ≡ o → option_or o (found (elements_of r) i) ≡ Some y → v i ≡ reflected y.kind y.flip (x i) (e i)
    by None e h = right h
    by (Some z) e h = left (e ∙ h)

reflects_found : (x e : ℕ → ℤ) (v : Slots) (t : AdaptorTree) (i : ℕ) (y : Leaf) → Reflects x e v t → found (elements_of t) i ≡ Some y
    → v i ≡ reflected y.kind y.flip (x i) (e i)
reflects_found x e v (leaf j kind flip) i y h f = by (j == i) refl f
  where
    by : (t : Bool) → (j == i) ≡ t → cond {A = Option Leaf} t (Some (record { kind = kind; flip = flip })) None ≡ Some y
        → v i ≡ reflected y.kind y.flip (x i) (e i)
    by true at f =
        let same : j ≡ i = eqb-true j i at in
        let own : v i ≡ reflected kind flip (x i) (e i) = subst (λ (k : ℕ). v k ≡ reflected kind flip (x k) (e k)) same h in
        own ∙ ap (λ (z : Leaf). reflected z.kind z.flip (x i) (e i)) (same_leaf (record { kind = kind; flip = flip }) y f)
    by false at f = absurd (none_some y f)
reflects_found x e v (series m l r) i y h f =
    either_found x e v l r i y (λ a. reflects_found x e v l i y h.0 a) (λ a. reflects_found x e v r i y h.1 a) f
reflects_found x e v (parallel m l r) i y h f =
    either_found x e v l r i y (λ a. reflects_found x e v l i y h.0 a) (λ a. reflects_found x e v r i y h.1 a) f

starts_found : (n : Network) (x e : ℕ → ℤ) (v : Slots) (i : ℕ) (y : Leaf) → Starts n x e v → found (elements n) i ≡ Some y
    → v i ≡ reflected y.kind y.flip (x i) (e i)
starts_found n x e v i y h f =
    either_found x e v n.left n.right i y (λ a. reflects_found x e v n.left i y h.0 a) (λ a. reflects_found x e v n.right i y h.1 a) f

-- ---- what it is fed

-- the feeds, one for each number, are those of the numbers that are this one
abbrev pub Matches : (Feed → Bool) → ℕ → Bool → List Feed → List ℕ → Type 0
Matches test up flip [] [] = Unit {0}
Matches test up flip [] (k ∷ ks) = ⊥
Matches test up flip (f ∷ fs) [] = ⊥
Matches test up flip (f ∷ fs) (k ∷ ks) = (test f ≡ (k == up)) × (test f ≡ true → f.flip ≡ flip) × Matches test up flip fs ks

pub matches_each : (test : Feed → Bool) (up : ℕ) (flip : Bool) (fs : List Feed) (ks : List ℕ) → length fs ≡ length ks
    → ((i : ℕ) → i < length ks → (test (feed_at fs i) ≡ (get_or ks i 0 == up)) × (test (feed_at fs i) ≡ true → (feed_at fs i).flip ≡ flip))
    → Matches test up flip fs ks
matches_each test up flip [] [] e h = tt
matches_each test up flip [] (k ∷ ks) e h = absurd (omega (arith, e))
matches_each test up flip (f ∷ fs) [] e h = absurd (omega (arith, e))
matches_each test up flip (f ∷ fs) (k ∷ ks) e h =
    let own = h zero (omega arith) in
    (own.0, own.1, matches_each test up flip fs ks (omega (arith, e)) (λ i b. h (suc i) (omega (arith, b))))

signed-zero : (b : Bool) → signed b (pos 0) ≡ pos 0
signed-zero true = refl
signed-zero false = refl

fed-entry : (test : Feed → Bool) (up : ℕ) (flip : Bool) (fs : List Feed) (ks : List ℕ) (zs : List ℤ) → Matches test up flip fs ks
    → fed_by test fs zs ≡ signed flip (entry ks zs up)
fed-entry test up flip [] [] zs h = sym (signed-zero flip)
fed-entry test up flip [] (k ∷ ks) zs h = absurd h
fed-entry test up flip (f ∷ fs) [] zs h = absurd h
fed-entry test up flip (f ∷ fs) (k ∷ ks) [] h = sym (signed-zero flip)
fed-entry test up flip (f ∷ fs) (k ∷ ks) (z ∷ zs) h = by (test f) (k == up) h.0 h.1 (fed-entry test up flip fs ks zs h.2)
  where
    by : (a b : Bool) → a ≡ b → (a ≡ true → f.flip ≡ flip) → fed_by test fs zs ≡ signed flip (entry ks zs up)
        → cond a (signed f.flip z) (fed_by test fs zs) ≡ signed flip (cond b z (entry ks zs up))
    by true true e same rest = ap (λ (c : Bool). signed c z) (same refl)
    by true false e same rest = absurd (cc)
    by false true e same rest = absurd (cc)
    by false false e same rest = rest

no_entry : (p : ℕ → Bool) (ks : List ℕ) (zs : List ℤ) (i : ℕ) → All (λ (k : ℕ). p k ≡ true) ks → p i ≡ false → entry ks zs i ≡ pos 0
no_entry p [] zs i h none = refl
no_entry p (k ∷ ks) [] i h none = refl
no_entry p (k ∷ ks) (z ∷ zs) i h none = by (k == i) refl (no_entry p ks zs i (All-tail (λ (j : ℕ). p j ≡ true) k ks h) none)
  where
    by : (t : Bool) → (k == i) ≡ t → entry ks zs i ≡ pos 0 → cond t z (entry ks zs i) ≡ pos 0
    by true e rest =
        let same : k ≡ i = eqb-true k i e in
        let own : p k ≡ true = All-head (λ (j : ℕ). p j ≡ true) k ks h in
        let other : p i ≡ true = ap p (sym same) ∙ own in
        absurd (cc)
    by false e rest = rest

-- ---- by its kind

no_state : (x y : ℤ) → y ≡ pos 0 *ℤ x +ℤ y
no_state x y = omega (arith, ints)

one_state : (x : ℤ) → x ≡ pos 1 *ℤ x +ℤ pos 0
one_state x = omega (arith, ints)

negated_state : (x : ℤ) → neg_ℤ x ≡ negsuc 0 *ℤ x +ℤ pos 0
negated_state x = omega (arith, ints)

pub element : (s : ScheduleValue) (up down : ℕ) (sign : ℤ) (test : Feed → Bool) (feeds : List Feed) → IsNetwork s.net → IsListed s up down
    → sign ≡ sign_in s.net up → Matches test up (flip_in s.net up) feeds (source_numbers s.net) → IsElement s up down sign (fed_by test feeds)
element s up down sign test feeds net listed own matches =
    let once = net.once up listed.0 in
    let leaf = is_found (elements s.net) up (omega (arith, once)) in
    by leaf.0.kind leaf.0.flip leaf.1
  where
    fed : (zs : List ℤ) → fed_by test feeds zs ≡ signed (flip_in s.net up) (entry (source_numbers s.net) zs up)
    fed zs = fed-entry test up (flip_in s.net up) feeds (source_numbers s.net) zs matches

    kind_is : (is : Kind → Bool) (y : Leaf) → found (elements s.net) up ≡ Some y → has_kind is (elements s.net) up ≡ is y.kind
    kind_is is y f = let once = net.once up listed.0 in kind_found is (elements s.net) up y (omega (arith, once)) f

    unfed : has_source (elements s.net) up ≡ false → (zs : List ℤ) → fed_by test feeds zs ≡ pos 0
    unfed none zs =
        fed zs
        ∙ (ap (signed (flip_in s.net up)) (no_entry (has_source (elements s.net)) (source_numbers s.net) zs up (sources_are s.net) none)
        ∙ signed-zero (flip_in s.net up))

    starts : (y : Leaf) → found (elements s.net) up ≡ Some y → (x : ℕ → ℤ) (zs : List ℤ) (g : Slots) → Starts s.net x (source_values s.net zs) g
        → g up ≡ reflected y.kind y.flip (x up) (source_values s.net zs up)
    starts y f x zs g h = starts_found s.net x (source_values s.net zs) g up y h f

    by : (kind : Kind) (flip : Bool) → found (elements s.net) up ≡ Some (record { kind = kind; flip = flip }) → IsElement s up down sign (fed_by test feeds)
    by Res flip f =
        let z : sign ≡ pos 0 = own ∙ ap sign_if f in
        let none = unfed (kind_is is_source (record { kind = Res; flip = flip }) f) in
        record {
          number = listed.0;
          listed = listed.1;
          size = subst (λ (n : ℤ). unsigned_abs n ≤ 1) (sym z) (omega arith);
          state = inl z;
          reflects = λ x zs g h. starts (record { kind = Res; flip = flip }) f x zs g h ∙ (no_state (x up) (pos 0) ∙ (λ t. sym z t *ℤ x up +ℤ sym (none zs) t));
        }
    by Src flip f =
        let z : sign ≡ pos 0 = own ∙ ap sign_if f in
        record {
          number = listed.0;
          listed = listed.1;
          size = subst (λ (n : ℤ). unsigned_abs n ≤ 1) (sym z) (omega arith);
          state = inl z;
          reflects = λ x zs g h.
              starts (record { kind = Src; flip = flip }) f x zs g h
              ∙ (no_state (x up) (signed flip (source_values s.net zs up))
              ∙ (λ t. sym z t *ℤ x up +ℤ (ap (λ (b : Bool). signed b (source_values s.net zs up)) (sym (ap flip_if f)) ∙ sym (fed zs)) t));
        }
    by Cap flip f =
        let z : sign ≡ pos 1 = own ∙ ap sign_if f in
        let none = unfed (kind_is is_source (record { kind = Cap; flip = flip }) f) in
        record {
          number = listed.0;
          listed = listed.1;
          size = subst (λ (n : ℤ). unsigned_abs n ≤ 1) (sym z) (omega arith);
          state = inr (kind_is is_reactance (record { kind = Cap; flip = flip }) f, none);
          reflects = λ x zs g h. starts (record { kind = Cap; flip = flip }) f x zs g h ∙ (one_state (x up) ∙ (λ t. sym z t *ℤ x up +ℤ sym (none zs) t));
        }
    by Ind flip f =
        let z : sign ≡ negsuc 0 = own ∙ ap sign_if f in
        let none = unfed (kind_is is_source (record { kind = Ind; flip = flip }) f) in
        record {
          number = listed.0;
          listed = listed.1;
          size = subst (λ (n : ℤ). unsigned_abs n ≤ 1) (sym z) (omega arith);
          state = inr (kind_is is_reactance (record { kind = Ind; flip = flip }) f, none);
          reflects = λ x zs g h. starts (record { kind = Ind; flip = flip }) f x zs g h ∙ (negated_state (x up) ∙ (λ t. sym z t *ℤ x up +ℤ sym (none zs) t));
        }

-- a tree has no sign
pub no_sign : (n : Network) (i : ℕ) → IsNetwork n → length (elements n) ≤ i → sign_in n i ≡ pos 0
no_sign n i net high = ap sign_if (none_found (elements n) (length (elements n)) i net.below high)
