-- Nodes in the order in which they are first mentioned, and their numbers.
use Rattle.std.proofs.Common.{◌≡◌, ◌≢◌, ℕ, zero, suc, ◌+◌, ◌<◌, ◌≤◌, Bool, true, false, eqb, List, [], ◌∷◌, ◌++◌, length, get_or, take, map, flat_map, fold, Some, refl, sym, ap, ◌∙◌, subst, arith, length-append, append_assoc, append-nil}
use Rattle.std.specs.Prelude.{All, bytes_eq, slice_get}
use Rattle.std.specs.List.{list_any, range_with_len}
use Rattle.std.proofs.lemmas.Bool.{cond-true, cond-false, eq-eqb, false≢true, ne_eqb, or_parts}
use Rattle.std.proofs.lemmas.List.{take_more}
use Rattle.std.proofs.lemmas.List.Elements.{All-push}
use Rattle.std.proofs.lemmas.Grind.{flat_map-append}
use Rattle.wdf_netlist.specs.Circuits.{AreDistinct, first_mentions, with_new}
use Rattle.wdf_netlist.specs.TextRules.{nodes_of, place_of, with_part}
use Rattle.wdf_netlist.specs.declared.part.Part.{Part}
use Rattle.wdf_netlist.proofs.NameLemmas.{same_bytes, same_name}
use Rattle.wdf_netlist.proofs.KeptLemmas.{distinct_more}

-- ---- one more

pub new_there : {X : Type 0} (same : X → X → Bool) (xs : List X) (x : X) → list_any (same x) xs ≡ true → with_new same xs x ≡ xs
new_there same xs x e = cond-true _ _ _ e

pub new_added : {X : Type 0} (same : X → X → Bool) (xs : List X) (x : X) → list_any (same x) xs ≡ false → with_new same xs x ≡ xs ++ x ∷ []
new_added same xs x e = cond-false _ _ _ e

-- what is kept by one more is kept by all
keeps : {X : Type 0} (same : X → X → Bool) (P : List X → Type 0) (Q : X → Type 0) (acc xs : List X) → P acc → All Q xs
    → ((ys : List X) (x : X) → P ys → Q x → P (with_new same ys x)) → P (fold (with_new same) acc xs)
keeps same P Q acc [] p q step = p
keeps same P Q acc (x ∷ xs) p q step = keeps same P Q (with_new same acc x) xs (step acc x p (q 0 x (omega arith))) (λ k d within. q (suc k) d (omega arith)) step

-- ---- names of nodes

pub nodes_distinct : (names : List (List ℕ)) → AreDistinct (first_mentions bytes_eq names)
nodes_distinct names = keeps bytes_eq AreDistinct (λ (n : List ℕ). Unit {0}) [] names (λ i j x a b. absurd (cc)) (λ k d within. tt) step
  where
    by : (ys : List (List ℕ)) (x : List ℕ) (t : Bool) → list_any (bytes_eq x) ys ≡ t → AreDistinct ys → AreDistinct (with_new bytes_eq ys x)
    by ys x true e d = rw (new_there bytes_eq ys x e) d
    by ys x false e d = rw (new_added bytes_eq ys x e) (distinct_more ys x d e)

    step : (ys : List (List ℕ)) (x : List ℕ) → AreDistinct ys → Unit {0} → AreDistinct (with_new bytes_eq ys x)
    step ys x d u = by ys x (list_any (bytes_eq x) ys) refl d

pub nodes_all : (P : List ℕ → Type 0) (names : List (List ℕ)) → All P names → All P (first_mentions bytes_eq names)
nodes_all P names all = keeps bytes_eq (All P) P [] names (λ k d within. absurd (omega arith)) all step
  where
    by : (ys : List (List ℕ)) (x : List ℕ) (t : Bool) → list_any (bytes_eq x) ys ≡ t → All P ys → P x → All P (with_new bytes_eq ys x)
    by ys x true e d p = rw (new_there bytes_eq ys x e) d
    by ys x false e d p = rw (new_added bytes_eq ys x e) (All-push P ys x d p)

    step : (ys : List (List ℕ)) (x : List ℕ) → All P ys → P x → All P (with_new bytes_eq ys x)
    step ys x d p = by ys x (list_any (bytes_eq x) ys) refl d p

-- the list grows at its end
pub record Grows (acc whole : List (List ℕ)) : Type 0 where
  pub more : List (List ℕ)
  pub is : whole ≡ acc ++ more

pub grows : (acc xs : List (List ℕ)) → Grows acc (fold (with_new bytes_eq) acc xs)
grows acc [] = record { more = []; is = sym (append-nil acc) }
grows acc (x ∷ xs) = by (list_any (bytes_eq x) acc) refl (grows (with_new bytes_eq acc x) xs)
  where
    by : (t : Bool) → list_any (bytes_eq x) acc ≡ t → Grows (with_new bytes_eq acc x) (fold (with_new bytes_eq) (with_new bytes_eq acc x) xs) → Grows acc (fold (with_new bytes_eq) acc (x ∷ xs))
    by true e g = record { more = g.more; is = g.is ∙ ap (λ (l : List (List ℕ)). l ++ g.more) (new_there bytes_eq acc x e) }
    by false e g = record { more = x ∷ g.more; is = g.is ∙ ap (λ (l : List (List ℕ)). l ++ g.more) (new_added bytes_eq acc x e) ∙ append_assoc acc (x ∷ []) g.more }

-- ---- places

-- a name that is there has its place there, whatever stands behind
place_there : (acc more : List (List ℕ)) (x : List ℕ) → list_any (bytes_eq x) acc ≡ true → place_of (acc ++ more) x < length acc
place_there [] more x e = absurd (false≢true e)
place_there (y ∷ acc) more x e = by (bytes_eq x y) refl (place_there acc more x)
  where
    by : (t : Bool) → bytes_eq x y ≡ t → (list_any (bytes_eq x) acc ≡ true → place_of (acc ++ more) x < length acc) → place_of ((y ∷ acc) ++ more) x < length (y ∷ acc)
    by true h later = let p : place_of ((y ∷ acc) ++ more) x ≡ 0 = rw h refl in omega arith
    by false h later =
        let p : place_of ((y ∷ acc) ++ more) x ≡ 1 + place_of (acc ++ more) x = rw h refl in
        let there : list_any (bytes_eq x) acc ≡ true = sym (let g : list_any (bytes_eq x) (y ∷ acc) ≡ list_any (bytes_eq x) acc = rw h refl in g) ∙ e in
        omega (arith, later there)

-- a name that is not there has the place behind, where it stands next
place_next : (acc more : List (List ℕ)) (x : List ℕ) → list_any (bytes_eq x) acc ≡ false → place_of (acc ++ (x ∷ more)) x ≡ length acc
place_next [] more x e = rw (same_bytes x) refl
place_next (y ∷ acc) more x e =
    let parts = or_parts (bytes_eq x y) (list_any (bytes_eq x) acc) e in
    rw parts.0 (let p : 1 + place_of (acc ++ (x ∷ more)) x ≡ length (y ∷ acc) = omega (arith, place_next acc more x parts.1) in p)

-- the name at the place of a name that is there is that name
pub place_back : (names : List (List ℕ)) (x : List ℕ) → list_any (bytes_eq x) names ≡ true → slice_get names (place_of names x) ≡ Some x
place_back [] x e = absurd (false≢true e)
place_back (y ∷ names) x e = by (bytes_eq x y) refl (place_back names x)
  where
    by : (t : Bool) → bytes_eq x y ≡ t → (list_any (bytes_eq x) names ≡ true → slice_get names (place_of names x) ≡ Some x) → slice_get (y ∷ names) (place_of (y ∷ names) x) ≡ Some x
    by true h later =
        let p : place_of (y ∷ names) x ≡ 0 = rw h refl in
        ap (slice_get (y ∷ names)) p ∙ ap (λ (n : List ℕ). Some n) (sym (same_name x y h))
    by false h later =
        let p : place_of (y ∷ names) x ≡ suc (place_of names x) = rw h (let q : 1 + place_of names x ≡ suc (place_of names x) = omega arith in q) in
        let there : list_any (bytes_eq x) names ≡ true = sym (let g : list_any (bytes_eq x) (y ∷ names) ≡ list_any (bytes_eq x) names = rw h refl in g) ∙ e in
        ap (slice_get (y ∷ names)) p ∙ later there

-- ---- numbers in order

ranges : (a n : ℕ) → range_with_len a (suc n) ≡ range_with_len a n ++ (a + n) ∷ []
ranges a zero = let e : a ≡ a + 0 = omega arith in ap (λ (k : ℕ). k ∷ []) e
ranges a (suc n) =
    ap (λ (l : List ℕ). a ∷ l) (ranges (a + 1) n ∙ (let e : a + 1 + n ≡ a + suc n = omega arith in ap (λ (k : ℕ). range_with_len (a + 1) n ++ k ∷ []) e))

in_range : (a n i : ℕ) → a ≤ i → i < a + n → list_any (eqb i) (range_with_len a n) ≡ true
in_range a zero i low high = absurd (omega arith)
in_range a (suc n) i low high = by (eqb i a) refl (in_range (a + 1) n i)
  where
    by : (t : Bool) → eqb i a ≡ t → (a + 1 ≤ i → i < a + 1 + n → list_any (eqb i) (range_with_len (a + 1) n) ≡ true) → list_any (eqb i) (range_with_len a (suc n)) ≡ true
    by true e later = rw e refl
    by false e later = rw e (later (let d : i ≢ a = λ s. false≢true (sym e ∙ eq-eqb i a s) in omega arith) (omega arith))

past_range : (a n : ℕ) (i : ℕ) → a + n ≤ i → list_any (eqb i) (range_with_len a n) ≡ false
past_range a zero i high = refl
past_range a (suc n) i high = rw (ne_eqb i a (λ (e : i ≡ a). omega arith)) (past_range (a + 1) n i (omega arith))

-- the places of names in the list that grows out of them are first mentioned in order
in_order_from : (acc xs nodes : List (List ℕ)) → nodes ≡ fold (with_new bytes_eq) acc xs
    → fold (with_new eqb) (range_with_len 0 (length acc)) (map (place_of nodes) xs) ≡ range_with_len 0 (length nodes)
in_order_from acc [] nodes is = ap (λ (l : List (List ℕ)). range_with_len 0 (length l)) (sym is)
in_order_from acc (x ∷ xs) nodes is = by (list_any (bytes_eq x) acc) refl (in_order_from acc xs nodes) (in_order_from (acc ++ x ∷ []) xs nodes)
  where
    by : (t : Bool) → list_any (bytes_eq x) acc ≡ t
        → (nodes ≡ fold (with_new bytes_eq) acc xs → fold (with_new eqb) (range_with_len 0 (length acc)) (map (place_of nodes) xs) ≡ range_with_len 0 (length nodes))
        → (nodes ≡ fold (with_new bytes_eq) (acc ++ x ∷ []) xs → fold (with_new eqb) (range_with_len 0 (length (acc ++ x ∷ []))) (map (place_of nodes) xs) ≡ range_with_len 0 (length nodes))
        → fold (with_new eqb) (range_with_len 0 (length acc)) (map (place_of nodes) (x ∷ xs)) ≡ range_with_len 0 (length nodes)
    by true e same more =
        let stays : nodes ≡ fold (with_new bytes_eq) acc xs = is ∙ ap (λ (l : List (List ℕ)). fold (with_new bytes_eq) l xs) (new_there bytes_eq acc x e) in
        let g = grows acc xs in
        let place : place_of nodes x < length acc = rw (stays ∙ g.is) (place_there acc g.more x e) in
        ap (λ (l : List ℕ). fold (with_new eqb) l (map (place_of nodes) xs)) (new_there eqb (range_with_len 0 (length acc)) (place_of nodes x) (in_range 0 (length acc) (place_of nodes x) (omega arith) (omega arith)))
        ∙ same stays
    by false e same more =
        let grown : nodes ≡ fold (with_new bytes_eq) (acc ++ x ∷ []) xs = is ∙ ap (λ (l : List (List ℕ)). fold (with_new bytes_eq) l xs) (new_added bytes_eq acc x e) in
        let g = grows (acc ++ x ∷ []) xs in
        let place : place_of nodes x ≡ length acc = rw (grown ∙ g.is, append_assoc acc (x ∷ []) g.more) (place_next acc g.more x e) in
        let wider : with_new eqb (range_with_len 0 (length acc)) (place_of nodes x) ≡ range_with_len 0 (length (acc ++ x ∷ [])) =
        new_added eqb (range_with_len 0 (length acc)) (place_of nodes x) (past_range 0 (length acc) (place_of nodes x) (omega arith))
        ∙ ap (λ (k : ℕ). range_with_len 0 (length acc) ++ k ∷ []) (place ∙ (let z : length acc ≡ 0 + length acc = omega arith in z))
        ∙ sym (ranges 0 (length acc)) ∙ ap (range_with_len 0) (let l : suc (length acc) ≡ length (acc ++ x ∷ []) = omega (arith, length-append acc (x ∷ [])) in l) in
        ap (λ (l : List ℕ). fold (with_new eqb) l (map (place_of nodes) xs)) wider ∙ more grown

pub in_order : (names : List (List ℕ)) → first_mentions eqb (map (place_of (first_mentions bytes_eq names)) names) ≡ range_with_len 0 (length (first_mentions bytes_eq names))
in_order names = in_order_from [] names (first_mentions bytes_eq names) refl

-- ---- each mention is among the nodes

any_front : (acc more : List (List ℕ)) (x : List ℕ) → list_any (bytes_eq x) acc ≡ true → list_any (bytes_eq x) (acc ++ more) ≡ true
any_front [] more x e = absurd (false≢true e)
any_front (y ∷ acc) more x e = by (bytes_eq x y) refl (any_front acc more x)
  where
    by : (t : Bool) → bytes_eq x y ≡ t → (list_any (bytes_eq x) acc ≡ true → list_any (bytes_eq x) (acc ++ more) ≡ true) → list_any (bytes_eq x) ((y ∷ acc) ++ more) ≡ true
    by true h later = rw h refl
    by false h later = rw h (later (sym (let g : list_any (bytes_eq x) (y ∷ acc) ≡ list_any (bytes_eq x) acc = rw h refl in g) ∙ e))

any_new : (acc : List (List ℕ)) (x : List ℕ) → list_any (bytes_eq x) (with_new bytes_eq acc x) ≡ true
any_new acc x = by (list_any (bytes_eq x) acc) refl
  where
    last : (ys : List (List ℕ)) → list_any (bytes_eq x) (ys ++ x ∷ []) ≡ true
    last [] = rw (same_bytes x) refl
    last (y ∷ ys) = by_first (bytes_eq x y) refl (last ys)
      where
        by_first : (t : Bool) → bytes_eq x y ≡ t → list_any (bytes_eq x) (ys ++ x ∷ []) ≡ true → list_any (bytes_eq x) ((y ∷ ys) ++ x ∷ []) ≡ true
        by_first true h more = rw h refl
        by_first false h more = rw h more

    by : (t : Bool) → list_any (bytes_eq x) acc ≡ t → list_any (bytes_eq x) (with_new bytes_eq acc x) ≡ true
    by true e = rw (new_there bytes_eq acc x e) e
    by false e = rw (new_added bytes_eq acc x e) (last acc)

mentioned_from : (acc xs : List (List ℕ)) → All (λ (x : List ℕ). list_any (bytes_eq x) (fold (with_new bytes_eq) acc xs) ≡ true) xs
mentioned_from acc [] k d within = absurd (omega arith)
mentioned_from acc (x ∷ xs) zero d within =
    let g = grows (with_new bytes_eq acc x) xs in
    rw g.is (any_front (with_new bytes_eq acc x) g.more x (any_new acc x))
mentioned_from acc (x ∷ xs) (suc k) d within = mentioned_from (with_new bytes_eq acc x) xs k d (omega arith)

pub mentioned : (names : List (List ℕ)) → All (λ (x : List ℕ). list_any (bytes_eq x) (first_mentions bytes_eq names) ≡ true) names
mentioned names = mentioned_from [] names

-- so it has a place there, and another name has another
pub placed : (nodes : List (List ℕ)) (x : List ℕ) → list_any (bytes_eq x) nodes ≡ true → place_of nodes x < length nodes
placed nodes x there = subst (λ (l : List (List ℕ)). place_of l x < length nodes) (append-nil nodes) (place_there nodes [] x there)

pub apart : (nodes : List (List ℕ)) (x y : List ℕ) → list_any (bytes_eq x) nodes ≡ true → list_any (bytes_eq y) nodes ≡ true → x ≢ y → place_of nodes x ≢ place_of nodes y
apart nodes x y a b other same = let e : Some x ≡ Some y = sym (place_back nodes x a) ∙ ap (slice_get nodes) same ∙ place_back nodes y b in other (cc)

-- ---- part by part

folded : {X Y : Type 0} (f : Y → X → Y) (a : Y) (xs ys : List X) → fold f a (xs ++ ys) ≡ fold f (fold f a xs) ys
folded f a [] ys = refl
folded f a (x ∷ xs) ys = folded f (f a x) xs ys

pub nodes_more : (parts : List Part) (i : ℕ) (d : Part) → i < length parts → nodes_of (take (i + 1) parts) ≡ with_part (nodes_of (take i parts)) (get_or parts i d)
nodes_more parts i d within =
    let ends : Part → List (List ℕ) = λ (p : Part). p.from ∷ p.to ∷ [] in
    let p = get_or parts i d in
    ap nodes_of (take_more parts i d within)
    ∙ ap (first_mentions bytes_eq) (flat_map-append ends (take i parts) (p ∷ []))
    ∙ folded (with_new bytes_eq) [] (flat_map ends (take i parts)) (p.from ∷ p.to ∷ [])

longer : (names : List (List ℕ)) (x : List ℕ) → length (with_new bytes_eq names x) ≤ length names + 1
longer names x = by (list_any (bytes_eq x) names) refl
  where
    by : (t : Bool) → list_any (bytes_eq x) names ≡ t → length (with_new bytes_eq names x) ≤ length names + 1
    by true e = omega (arith, ap (length {A = List ℕ}) (new_there bytes_eq names x e))
    by false e = omega (arith, ap (length {A = List ℕ}) (new_added bytes_eq names x e), length-append names (x ∷ []))

pub two_longer : (names : List (List ℕ)) (p : Part) → length (with_part names p) ≤ length names + 2
two_longer names p = omega (arith, longer names p.from, longer (with_new bytes_eq names p.from) p.to)
