-- Which wave is the load wave.
use Rattle.std.proofs.Common.{◌≡◌, ℕ, zero, suc, ◌+◌, ◌<◌, ◌≤◌, Bool, true, false, ◌&&◌, ◌||◌, ◌==◌, cond, List, [], ◌∷◌, length, get_or, map, refl, ap, sym, ◌∙◌, subst, arith, Option, Some}
use Rattle.std.specs.Prelude.{All, IsTrue}
use Rattle.std.specs.List.{filter, range_with_len}
use Rattle.std.proofs.lemmas.List.Elements.{All-head}
use Rattle.wdf_law.specs.declared.kind.Kind.{Kind}
use Rattle.wdf_law.specs.declared.kind.Kind.TheVariants.{Res, Cap, Ind, Src}
use Rattle.wdf_law.specs.declared.outlet.Outlet.{Outlet as Named}
use Rattle.wdf_law.specs.declared.outlet.Outlet.TheVariants.{Load, Source}
use Rattle.wdf_law.specs.Network.{Network, IsNetwork, elements, has_absorbing, has_kind, has_outlet, has_source, is_absorbing, is_resistor, is_source, source_numbers, times_in}
use Rattle.wdf_law.specs.OutputRule.{is_flipped, outlet_among, outlet_element}
use Rattle.wdf_law.specs.TreeRules.{HasNumbers}
use Rattle.wdf_law.specs.Trees.{LeafElement}
use Rattle.wdf_law.proofs.NumberLemmas.{kind_among}
use Rattle.wdf_sched.specs.Meaning.{slot_at}
use Rattle.wdf_loop.specs.declared.leaf.Leaf.{Leaf}
use Rattle.wdf_loop.specs.declared.outlet.Outlet.{Outlet}
use Rattle.wdf_loop.specs.Leaves.{flip_if, flip_in, found}
use Rattle.wdf_loop.specs.Parts.{IsOutlet, absorbing_at}
use Rattle.wdf_loop.proofs.SourceLemmas.{source_below, sources_are}

-- ---- the element

abbrev number_of : LeafElement → ℕ
number_of x = x.number

none_flipped : (xs : List LeafElement) (i : ℕ) → times_in (map number_of xs) i ≡ 0 → is_flipped xs i ≡ false
none_flipped [] i h = refl
none_flipped (x ∷ xs) i h = by (x.number == i) h (none_flipped xs i)
  where
    by : (t : Bool) → cond {A = ℕ} t 1 0 + times_in (map number_of xs) i ≡ 0 → (times_in (map number_of xs) i ≡ 0 → is_flipped xs i ≡ false) → ((t && x.flip) || is_flipped xs i) ≡ false
    by true h rest = absurd (omega (arith, h))
    by false h rest = rest (omega (arith, h))

or_none : (a : Bool) → (a || false) ≡ a
or_none true = refl
or_none false = refl

-- the first leaf with a number that no other has is flipped where one with that number is
flip_found : (xs : List LeafElement) (i : ℕ) → times_in (map number_of xs) i ≤ 1 → flip_if (found xs i) ≡ is_flipped xs i
flip_found [] i most = refl
flip_found (x ∷ xs) i most = by (x.number == i) most (flip_found xs i)
  where
    by : (t : Bool) → cond {A = ℕ} t 1 0 + times_in (map number_of xs) i ≤ 1 → (times_in (map number_of xs) i ≤ 1 → flip_if (found xs i) ≡ is_flipped xs i)
        → flip_if (cond {A = Option Leaf} t (Some (record { kind = x.kind; flip = x.flip })) (found xs i)) ≡ ((t && x.flip) || is_flipped xs i)
    by true most rest =
        let gone : is_flipped xs i ≡ false = none_flipped xs i (omega (arith, most)) in sym (ap (λ (b : Bool). x.flip || b) gone ∙ or_none x.flip)
    by false most rest = rest (omega (arith, most))

outlet_below : (n : Network) (o : Named) → HasNumbers n → IsTrue (has_outlet (elements n) o) → 1 ≤ length (source_numbers n) → outlet_among o (source_numbers n) < length (elements n)
outlet_below n (Load i) numbers stands some = numbers.below i (kind_among is_resistor (elements n) i stands)
outlet_below n Source numbers stands some = first (source_numbers n) some (source_below n 0 some)
  where
    first : (ks : List ℕ) → 1 ≤ length ks → slot_at ks 0 < length (elements n) → outlet_among Source ks < length (elements n)
    first [] some below = absurd (omega (arith, some))
    first (k ∷ ks) some below = below

pub outlet_stands : (n : Network) → IsNetwork n → HasNumbers n → outlet_element n < length (elements n)
outlet_stands n rules numbers = outlet_below n n.outlet numbers rules.outlet rules.some_source

-- it is one that absorbs
kind_also : (is also : Kind → Bool) (xs : List LeafElement) (i : ℕ) → ((k : Kind) → is k ≡ true → also k ≡ true) → has_kind is xs i ≡ true → has_kind also xs i ≡ true
kind_also is also [] i h none = none
kind_also is also (x ∷ xs) i h some = by (x.number == i) (is x.kind) (also x.kind) (h x.kind) (kind_also is also xs i h) some
  where
    by : (a b c : Bool) → (b ≡ true → c ≡ true) → (has_kind is xs i ≡ true → has_kind also xs i ≡ true) → ((a && b) || has_kind is xs i) ≡ true → ((a && c) || has_kind also xs i) ≡ true
    by false b c own rest some = rest some
    by true false false own rest some = rest some
    by true b true own rest some = refl
    by true true false own rest some = let no = own refl in absurd (cc)

resistor_absorbs : (k : Kind) → is_resistor k ≡ true → is_absorbing k ≡ true
resistor_absorbs Res h = refl
resistor_absorbs Src h = refl
resistor_absorbs Cap h = h
resistor_absorbs Ind h = h

source_absorbs : (k : Kind) → is_source k ≡ true → is_absorbing k ≡ true
source_absorbs Res h = refl
source_absorbs Src h = refl
source_absorbs Cap h = h
source_absorbs Ind h = h

outlet_absorbs : (n : Network) (o : Named) → IsTrue (has_outlet (elements n) o) → 1 ≤ length (source_numbers n) → has_absorbing (elements n) (outlet_among o (source_numbers n)) ≡ true
outlet_absorbs n (Load i) stands some = kind_also is_resistor is_absorbing (elements n) i resistor_absorbs stands
outlet_absorbs n Source stands some = first (source_numbers n) some (sources_are n)
  where
    first : (ks : List ℕ) → 1 ≤ length ks → All (λ (k : ℕ). has_source (elements n) k ≡ true) ks → has_absorbing (elements n) (outlet_among Source ks) ≡ true
    first [] some are = absurd (omega (arith, some))
    first (k ∷ ks) some are = kind_also is_source is_absorbing (elements n) k source_absorbs (All-head (λ (k : ℕ). has_source (elements n) k ≡ true) k ks are)

-- ---- its place

-- a number that passes stands behind those before it that pass
place_among : (p : ℕ → Bool) (a m n : ℕ) → m < n → p (a + m) ≡ true
    → (length (filter p (range_with_len a m)) < length (filter p (range_with_len a n))) × (get_or (filter p (range_with_len a n)) (length (filter p (range_with_len a m))) 0 ≡ a + m)
place_among p a m zero less is = absurd (omega (arith, less))
place_among p a zero (suc n) less is =
    let at : a + 0 ≡ a = omega arith in
    by (p a) (subst (λ (k : ℕ). p k ≡ true) at is)
  where
    by : (c : Bool) → c ≡ true → (0 < length (cond c (a ∷ filter p (range_with_len (a + 1) n)) (filter p (range_with_len (a + 1) n))))
        × (get_or (cond c (a ∷ filter p (range_with_len (a + 1) n)) (filter p (range_with_len (a + 1) n))) 0 0 ≡ a + 0)
    by true e = (omega arith, omega arith)
    by false e = absurd (cc)
place_among p a (suc m) (suc n) less is =
    let at : a + suc m ≡ a + 1 + m = omega arith in
    by (p a) (place_among p (a + 1) m n (omega (arith, less)) (subst (λ (k : ℕ). p k ≡ true) at is))
  where
    by : (c : Bool)
        → (length (filter p (range_with_len (a + 1) m)) < length (filter p (range_with_len (a + 1) n)))
        × (get_or (filter p (range_with_len (a + 1) n)) (length (filter p (range_with_len (a + 1) m))) 0 ≡ a + 1 + m)
        → (length (cond c (a ∷ filter p (range_with_len (a + 1) m)) (filter p (range_with_len (a + 1) m))) < length (cond c (a ∷ filter p (range_with_len (a + 1) n)) (filter p (range_with_len (a + 1) n))))
        × (get_or (cond c (a ∷ filter p (range_with_len (a + 1) n)) (filter p (range_with_len (a + 1) n))) (length (cond c (a ∷ filter p (range_with_len (a + 1) m)) (filter p (range_with_len (a + 1) m)))) 0 ≡ a + suc m)
    by true rest = (omega (arith, rest.0), omega (arith, rest.1))
    by false rest = (rest.0, omega (arith, rest.1))

pub is_outlet : (n : Network) (o : Outlet) → IsNetwork n → HasNumbers n → o.place ≡ length (filter (has_absorbing (elements n)) (range_with_len 0 (outlet_element n)))
    → o.flip ≡ flip_in n (outlet_element n) → IsOutlet n o
is_outlet n o rules numbers place flip =
    let number = outlet_stands n rules numbers in
    let from : 0 + outlet_element n ≡ outlet_element n = omega arith in
    let absorbs = subst (λ (k : ℕ). has_absorbing (elements n) k ≡ true) (sym from) (outlet_absorbs n n.outlet rules.outlet rules.some_source) in
    let among = place_among (has_absorbing (elements n)) 0 (outlet_element n) (length (elements n)) number absorbs in
    let once = rules.once (outlet_element n) number in
    record {
      inside = omega (arith, place, among.0);
      element = ap (absorbing_at n) place ∙ (among.1 ∙ from);
      flip = flip ∙ flip_found (elements n) (outlet_element n) (omega (arith, once));
    }
