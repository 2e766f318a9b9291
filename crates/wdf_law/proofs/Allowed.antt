-- A network in which no rule is broken is one as its type keeps it.
use Rattle.std.proofs.Common.{◌≡◌, ℕ, zero, suc, ◌+◌, ◌<◌, ◌≤◌, Bool, true, false, cond, not, ◌||◌, ◌&&◌, ◌==◌, nat_le, nat_lt, if◌then◌else◌, Option, None, Some, List, [], ◌∷◌, length, map, refl, ap, sym, ◌∙◌, subst, arith, length-append}
use Rattle.std.specs.Prelude.{All}
use Rattle.std.specs.Option.{option_or, option_map}
use Rattle.std.specs.List.{find, range_with_len}
use Rattle.std.proofs.lemmas.Bool.Decides.{nat_tests}
use Rattle.std.proofs.lemmas.List.{length-map}
use Rattle.std.proofs.lemmas.List.Elements.{All-nil, All-cons}
use Rattle.wdf_law.specs.declared.net_error.NetError.{NetError}
use Rattle.wdf_law.specs.declared.net_error.NetError.TheVariants.{BadWidth, TooDeep, BadMultiplier}
use Rattle.wdf_law.specs.Trees.{AdaptorTree, leaf, series, parallel, LeafElement, elements_of, depth_of}
use Rattle.wdf_law.specs.Network.{Network, IsNetwork, Adaptor, unit_of, elements, numbers, adaptors, source_numbers, times_in}
use Rattle.wdf_law.specs.Refusal.{is_width, is_shallow, is_out, first_out, first_large, is_among, first_repeated, least_missing}
use Rattle.wdf_law.specs.RefusalOrder.{unless, number_fault, source_fault, refusal}
use Rattle.wdf_law.proofs.Pigeonhole.{few, all_below}
use Rattle.wdf_law.proofs.Sources.{some_source, few_sources}

neither : {A : Type 0} (p q : Option A) → option_or p q ≡ None → (p ≡ None) × (q ≡ None)
neither None q h = (refl, h)
neither (Some x) q h = absurd (cc)

unmapped : {A B : Type 0} (f : A → B) (p : Option A) → option_map f p ≡ None → p ≡ None
unmapped f None h = refl
unmapped f (Some x) h = absurd (cc)

passed : (b : Bool) (e : NetError) → unless b e ≡ None → b ≡ true
passed true e h = refl
passed false e h = absurd (cc)

both : (a b : Bool) → (a && b) ≡ true → (a ≡ true) × (b ≡ true)
both true b h = (refl, h)
both false b h = absurd (cc)

-- no adaptor is out of range
within : (q : ℕ) (xs : List Adaptor) → find (is_out q) xs ≡ None → All (λ (m : ℕ). (1 ≤ m) × (m < q)) (map (λ (a : Adaptor). a.multiplier) xs)
within q [] h = All-nil (λ (m : ℕ). (1 ≤ m) × (m < q))
within q (x ∷ xs) h = by (nat_le 1 x.multiplier) (nat_lt x.multiplier q) refl refl (within q xs)
  where
    by : (a b : Bool) → nat_le 1 x.multiplier ≡ a → nat_lt x.multiplier q ≡ b
        → (find (is_out q) xs ≡ None → All (λ (m : ℕ). (1 ≤ m) × (m < q)) (map (λ (a : Adaptor). a.multiplier) xs))
        → All (λ (m : ℕ). (1 ≤ m) × (m < q)) (x.multiplier ∷ map (λ (a : Adaptor). a.multiplier) xs)
    by true true e f rest =
        All-cons (λ (m : ℕ). (1 ≤ m) × (m < q)) x.multiplier (map (λ (a : Adaptor). a.multiplier) xs)
        (grind (arith, nat_tests))
        (rest (let here : is_out q x ≡ false = ap not (λ i. e i && f i) in sym (ap (λ (b : Bool). cond b (Some x) (find (is_out q) xs)) here) ∙ h))
    by true false e f rest =
        let here : is_out q x ≡ true = ap not (λ i. e i && f i) in
        let some : find (is_out q) (x ∷ xs) ≡ Some x = ap (λ (b : Bool). cond b (Some x) (find (is_out q) xs)) here in
        absurd (cc)
    by false b e f rest =
        let here : is_out q x ≡ true = ap not (λ i. e i && f i) in
        let some : find (is_out q) (x ∷ xs) ≡ Some x = ap (λ (b : Bool). cond b (Some x) (find (is_out q) xs)) here in
        absurd (cc)

-- no number is 128 or more
pub small : (xs : List ℕ) → first_large xs ≡ None → All (λ (i : ℕ). i < 128) xs
small [] h = All-nil (λ (i : ℕ). i < 128)
small (x ∷ xs) h = by (nat_le 128 x) refl (small xs)
  where
    by : (b : Bool) → nat_le 128 x ≡ b → (first_large xs ≡ None → All (λ (i : ℕ). i < 128) xs) → All (λ (i : ℕ). i < 128) (x ∷ xs)
    by true e rest =
        let some : first_large (x ∷ xs) ≡ Some x = ap (λ (b : Bool). cond b (Some x) (first_large xs)) e in
        absurd (cc)
    by false e rest =
        All-cons (λ (i : ℕ). i < 128) x xs (grind (arith, nat_tests))
        (rest (sym (ap (λ (b : Bool). cond b (Some x) (first_large xs)) e) ∙ h))

-- what stands in the list or was seen
record Apart (seen xs : List ℕ) : Type 0 where
  new : (i : ℕ) → is_among seen i ≡ true → times_in xs i ≡ 0
  once : (i : ℕ) → times_in xs i ≤ 1

-- no number is repeated
apart : (xs seen : List ℕ) → first_repeated seen xs ≡ None → Apart seen xs
apart [] seen h = record { new = λ i k. refl; once = λ i. omega arith }
apart (x ∷ xs) seen h = by (is_among seen x) refl (apart xs (x ∷ seen))
  where
    by : (b : Bool) → is_among seen x ≡ b → (first_repeated (x ∷ seen) xs ≡ None → Apart (x ∷ seen) xs) → Apart seen (x ∷ xs)
    by true e rest =
        let some : first_repeated seen (x ∷ xs) ≡ Some x = ap (λ (b : Bool). if b then Some x else first_repeated (x ∷ seen) xs) e in
        absurd (cc)
    by false e rest = joined (rest (sym (ap (λ (b : Bool). if b then Some x else first_repeated (x ∷ seen) xs) e) ∙ h))
      where
        here : (i : ℕ) (b : Bool) → (x == i) ≡ b → Apart (x ∷ seen) xs → is_among seen i ≡ true → times_in (x ∷ xs) i ≡ 0
        here i true t k s =
            let same : x ≡ i = grind (arith, nat_tests) in
            let among : is_among seen x ≡ true = subst (λ (j : ℕ). is_among seen j ≡ true) (sym same) s in
            absurd (cc)
        here i false t k s =
            ap (λ (b : Bool). cond {A = ℕ} b 1 0 + times_in xs i) t ∙ (let z : times_in xs i ≡ 0 = k.new i (ap (λ (b : Bool). b || is_among seen i) t ∙ s) in omega arith)

        most : (i : ℕ) (b : Bool) → (x == i) ≡ b → Apart (x ∷ seen) xs → times_in (x ∷ xs) i ≤ 1
        most i true t k =
            let z : times_in xs i ≡ 0 = k.new i (ap (λ (b : Bool). b || is_among seen i) t) in
            let u : times_in (x ∷ xs) i ≡ 1 + times_in xs i = ap (λ (b : Bool). cond {A = ℕ} b 1 0 + times_in xs i) t in
            omega arith
        most i false t k =
            let u : times_in (x ∷ xs) i ≡ 0 + times_in xs i = ap (λ (b : Bool). cond {A = ℕ} b 1 0 + times_in xs i) t in
            omega (arith, k.once i)

        joined : Apart (x ∷ seen) xs → Apart seen (x ∷ xs)
        joined k = record { new = λ i s. here i (x == i) refl k s; once = λ i. most i (x == i) refl k }

-- a number that stands in a list stands there once at least
there : (xs : List ℕ) (i : ℕ) → is_among xs i ≡ true → 1 ≤ times_in xs i
there [] i h = absurd (cc)
there (x ∷ xs) i h = by (x == i) refl (there xs i)
  where
    by : (b : Bool) → (x == i) ≡ b → (is_among xs i ≡ true → 1 ≤ times_in xs i) → 1 ≤ times_in (x ∷ xs) i
    by true e rest =
        let u : times_in (x ∷ xs) i ≡ 1 + times_in xs i = ap (λ (b : Bool). cond {A = ℕ} b 1 0 + times_in xs i) e in
        omega arith
    by false e rest =
        let more = rest (sym (ap (λ (b : Bool). b || is_among xs i) e) ∙ h) in
        let u : times_in (x ∷ xs) i ≡ 0 + times_in xs i = ap (λ (b : Bool). cond {A = ℕ} b 1 0 + times_in xs i) e in
        omega arith

-- where a search through a range finds none, none passes
none_found : (p : ℕ → Bool) (n a j : ℕ) → find p (range_with_len a n) ≡ None → j < n → p (a + j) ≡ false
none_found p zero a j h k = absurd (omega arith)
none_found p (suc n) a j h k = by (p a) refl (none_found p n (a + 1))
  where
    by : (b : Bool) → p a ≡ b → ((j : ℕ) → find p (range_with_len (a + 1) n) ≡ None → j < n → p (a + 1 + j) ≡ false) → p (a + j) ≡ false
    by true e rest =
        let some : find p (range_with_len a (suc n)) ≡ Some a = ap (λ (b : Bool). cond b (Some a) (find p (range_with_len (a + 1) n))) e in
        absurd (cc)
    by false e rest = at j k
      where
        at : (j : ℕ) → j < suc n → p (a + j) ≡ false
        at zero l = subst (λ (x : ℕ). p x ≡ false) (omega arith) e
        at (suc j) l =
            subst (λ (x : ℕ). p x ≡ false) (omega arith)
            (rest j (sym (ap (λ (b : Bool). cond b (Some a) (find p (range_with_len (a + 1) n))) e) ∙ h) (omega arith))

not_false : (b : Bool) → not b ≡ false → b ≡ true
not_false true h = refl
not_false false h = absurd (cc)

-- numbers in which no rule is broken
pub record AreNumbers (xs : List ℕ) : Type 0 where
  pub most : length xs ≤ 128
  pub below : All (λ (i : ℕ). i < length xs) xs
  pub once : (i : ℕ) → i < length xs → times_in xs i ≡ 1

pub counted : (xs : List ℕ) → first_large xs ≡ None → first_repeated [] xs ≡ None → length xs ≤ 128
counted xs large double = few 128 xs (small xs large) (apart xs [] double).once

are_numbers : (xs : List ℕ) → first_large xs ≡ None → first_repeated [] xs ≡ None → least_missing xs (length xs) ≡ None → AreNumbers xs
are_numbers xs large double missing =
    let split = apart xs [] double in
    let stands : (i : ℕ) → i < length xs → 1 ≤ times_in xs i =
    λ i h. there xs i (not_false (is_among xs i) (subst (λ (j : ℕ). not (is_among xs j) ≡ false) (omega arith) (none_found (λ (j : ℕ). not (is_among xs j)) (length xs) 0 i missing h))) in
    record {
      most = counted xs large double;
      below = all_below (length xs) xs refl stands;
      once = λ i h. omega (arith, stands i h, split.once i);
    }

-- a tree has a leaf
some_leaf : (t : AdaptorTree) → 1 ≤ length (elements_of t)
some_leaf (leaf i k f) = omega arith
some_leaf (series m l r) = omega (arith, some_leaf l, length-append (elements_of l) (elements_of r))
some_leaf (parallel m l r) = omega (arith, some_leaf l, length-append (elements_of l) (elements_of r))

pub allowed : (n : Network) → refusal n ≡ None → IsNetwork n
allowed n none =
    let a = neither (unless (is_width n) (BadWidth n.k)) _ none in
    let b = neither (unless (is_shallow n) TooDeep) _ a.1 in
    let c = neither (option_map (λ (e : ℕ). BadMultiplier e) (first_out (unit_of n) (adaptors n))) _ b.1 in
    let d = neither (number_fault (numbers n)) _ c.1 in
    let e = neither (source_fault (source_numbers n)) _ d.1 in
    let width = both (nat_le 1 n.k) (nat_le n.k 20) (passed _ _ a.0) in
    let depth = both (nat_le (depth_of n.left) 128) (nat_le (depth_of n.right) 128) (passed _ _ b.0) in
    let f = neither (option_map _ (first_large (numbers n))) _ d.0 in
    let g = neither (option_map _ (first_repeated [] (numbers n))) _ f.1 in
    let count : length (numbers n) ≡ length (elements n) = omega (arith, length-map {A = LeafElement} {B = ℕ}) in
    let are = are_numbers (numbers n) (unmapped _ _ f.0) (unmapped _ _ g.0) (unmapped _ _ g.1) in
    record {
      width = grind (arith, nat_tests);
      multipliers = within (unit_of n) (adaptors n) (unmapped _ _ (unmapped _ _ c.0));
      fewest = omega (arith, some_leaf n.left, some_leaf n.right, length-append (elements_of n.left) (elements_of n.right));
      most = subst (λ (c : ℕ). c ≤ 128) count are.most;
      below = subst (λ (c : ℕ). All (λ (i : ℕ). i < c) (numbers n)) count are.below;
      once = λ i h. are.once i (subst (λ (c : ℕ). i < c) (sym count) h);
      some_source = some_source (source_numbers n) e.0;
      few_sources = few_sources (source_numbers n) e.0;
      outlet = passed _ _ e.1;
      left_depth = grind (arith, nat_tests);
      right_depth = grind (arith, nat_tests);
    }
