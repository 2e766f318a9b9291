-- A network as its type keeps it breaks no rule.
use Rattle.std.proofs.Common.{◌≡◌, ℕ, ◌+◌, ◌<◌, ◌≤◌, Bool, true, false, cond, not, ◌||◌, ◌&&◌, ◌==◌, nat_le, nat_lt, if◌then◌else◌, None, Some, List, [], ◌∷◌, length, map, refl, ap, sym, ◌∙◌, subst, arith}
use Rattle.std.specs.Prelude.{All}
use Rattle.std.specs.Option.{option_or, option_map}
use Rattle.std.specs.List.{find}
use Rattle.std.proofs.lemmas.Bool.Decides.{nat_tests}
use Rattle.std.proofs.lemmas.List.{length-map}
use Rattle.std.proofs.lemmas.List.Elements.{All-head, All-tail}
use Rattle.wdf_law.specs.declared.net_error.NetError.TheVariants.{BadWidth, TooDeep, BadMultiplier, BadElement, DoubleElement, MissingElement, NoOutlet}
use Rattle.wdf_law.specs.Trees.{LeafElement, depth_of}
use Rattle.wdf_law.specs.Network.{Network, IsNetwork, Adaptor, unit_of, elements, numbers, adaptors, source_numbers, times_in}
use Rattle.wdf_law.specs.Refusal.{is_width, is_shallow, is_out, first_out, first_large, is_among, first_repeated, least_missing}
use Rattle.wdf_law.specs.RefusalOrder.{unless, number_fault, refusal}
use Rattle.wdf_law.proofs.Ranges.{none_below}
use Rattle.wdf_law.proofs.Sources.{sources_good}

-- every multiplier is in its range, so none is out of it
none_out : (q : ℕ) (xs : List Adaptor) → All (λ (m : ℕ). (1 ≤ m) × (m < q)) (map (λ (a : Adaptor). a.multiplier) xs) → find (is_out q) xs ≡ None
none_out q [] h = refl
none_out q (x ∷ xs) h =
    let here = All-head (λ (m : ℕ). (1 ≤ m) × (m < q)) x.multiplier (map (λ (a : Adaptor). a.multiplier) xs) h in
    let rest = All-tail (λ (m : ℕ). (1 ≤ m) × (m < q)) x.multiplier (map (λ (a : Adaptor). a.multiplier) xs) h in
    let first : nat_le 1 x.multiplier ≡ true = grind (arith, nat_tests) in
    let second : nat_lt x.multiplier q ≡ true = grind (arith, nat_tests) in
    (λ i. cond (not (first i && second i)) (Some x) (find (is_out q) xs)) ∙ none_out q xs rest

-- every number is below 128
none_large : (c : ℕ) (xs : List ℕ) → c ≤ 128 → All (λ (i : ℕ). i < c) xs → first_large xs ≡ None
none_large c [] few h = refl
none_large c (x ∷ xs) few h =
    let here = All-head (λ (i : ℕ). i < c) x xs h in
    let first : nat_le 128 x ≡ false = grind (arith, nat_tests) in
    ap (λ (b : Bool). cond b (Some x) (first_large xs)) first ∙ none_large c xs few (All-tail (λ (i : ℕ). i < c) x xs h)

times-one : (b : Bool) (n : ℕ) → b ≡ true → cond {A = ℕ} b 1 0 + n ≡ 1 + n
times-one b n h = ap (λ (c : Bool). cond {A = ℕ} c 1 0 + n) h

-- no number stands twice, and none that was seen stands here
none_repeated : (xs seen : List ℕ) → ((i : ℕ) → is_among seen i ≡ true → times_in xs i ≡ 0) → ((i : ℕ) → times_in xs i ≤ 1) → first_repeated seen xs ≡ None
none_repeated [] seen new once = refl
none_repeated (x ∷ xs) seen new once = by (is_among seen x) refl (none_repeated xs (x ∷ seen))
  where
    same : (x == x) ≡ true
    same = grind (arith, nat_tests)

    fewer : (i : ℕ) → times_in xs i ≤ times_in (x ∷ xs) i
    fewer i = omega arith

    none : (i : ℕ) (b : Bool) → (x == i) ≡ b → is_among (x ∷ seen) i ≡ true → times_in xs i ≡ 0
    none i true e h =
        let most = once i in
        let here : times_in (x ∷ xs) i ≡ 1 + times_in xs i = times-one (x == i) (times_in xs i) e in
        omega arith
    none i false e h =
        let before = new i (sym (ap (λ (b : Bool). b || is_among seen i) e) ∙ h) in
        omega (arith, fewer i)

    by : (b : Bool) → is_among seen x ≡ b
        → (((i : ℕ) → is_among (x ∷ seen) i ≡ true → times_in xs i ≡ 0) → ((i : ℕ) → times_in xs i ≤ 1) → first_repeated (x ∷ seen) xs ≡ None)
        → first_repeated seen (x ∷ xs) ≡ None
    by true e rest =
        let gone = new x e in
        let here : times_in (x ∷ xs) x ≡ 1 + times_in xs x = times-one (x == x) (times_in xs x) same in
        absurd (omega arith)
    by false e rest =
        ap (λ (b : Bool). if b then Some x else first_repeated (x ∷ seen) xs) e
        ∙ rest (λ i h. none i (x == i) refl h) (λ i. omega (arith, once i, fewer i))

-- a number that stands once is among them
among : (xs : List ℕ) (i : ℕ) → 1 ≤ times_in xs i → is_among xs i ≡ true
among [] i h = absurd (omega arith)
among (x ∷ xs) i h = by (x == i) refl (among xs i)
  where
    by : (b : Bool) → (x == i) ≡ b → (1 ≤ times_in xs i → is_among xs i ≡ true) → is_among (x ∷ xs) i ≡ true
    by true e rest = ap (λ (b : Bool). b || is_among xs i) e
    by false e rest =
        let here : times_in (x ∷ xs) i ≡ 0 + times_in xs i = ap (λ (c : Bool). cond {A = ℕ} c 1 0 + times_in xs i) e in
        ap (λ (b : Bool). b || is_among xs i) e ∙ rest (omega arith)

-- a number beyond the bound of all of them stands nowhere
nowhere : (xs : List ℕ) (c i : ℕ) → All (λ (j : ℕ). j < c) xs → c ≤ i → times_in xs i ≡ 0
nowhere [] c i h k = refl
nowhere (x ∷ xs) c i h k =
    let here = All-head (λ (j : ℕ). j < c) x xs h in
    let other : (x == i) ≡ false = grind (arith, nat_tests) in
    let first : times_in (x ∷ xs) i ≡ 0 + times_in xs i = ap (λ (b : Bool). cond {A = ℕ} b 1 0 + times_in xs i) other in
    let rest = nowhere xs c i (All-tail (λ (j : ℕ). j < c) x xs h) k in
    omega arith

-- numbers of which each below the count stands once, and no other
numbers_good : (xs : List ℕ) → length xs ≤ 128 → All (λ (i : ℕ). i < length xs) xs → ((i : ℕ) → i < length xs → times_in xs i ≡ 1) → number_fault xs ≡ None
numbers_good xs few below once =
    let large = none_large (length xs) xs few below in
    let repeated = none_repeated xs [] (λ i h. absurd (cc)) (λ i. most i (nat_lt i (length xs)) refl) in
    let missing : least_missing xs (length xs) ≡ None =
    none_below (λ (i : ℕ). not (is_among xs i)) (length xs) (λ j h. ap not (among xs j (let one = once j h in omega arith))) in
    λ i. option_or (option_map (λ (e : ℕ). BadElement e) (large i))
    (option_or (option_map (λ (e : ℕ). DoubleElement e) (repeated i)) (option_map (λ (e : ℕ). MissingElement e) (missing i)))
  where
    most : (i : ℕ) (b : Bool) → nat_lt i (length xs) ≡ b → times_in xs i ≤ 1
    most i true e = let one = once i (grind (arith, nat_tests)) in omega arith
    most i false e = let none = nowhere xs (length xs) i below (grind (arith, nat_tests)) in omega arith

pub unrefused : (n : Network) → IsNetwork n → refusal n ≡ None
unrefused n rules =
    let width : is_width n ≡ true =
    let low : nat_le 1 n.k ≡ true = (let k = rules.width.0 in grind (arith, nat_tests)) in
    let high : nat_le n.k 20 ≡ true = (let k = rules.width.1 in grind (arith, nat_tests)) in
    λ i. low i && high i in
    let depth : is_shallow n ≡ true =
    let left : nat_le (depth_of n.left) 128 ≡ true = (let k = rules.left_depth in grind (arith, nat_tests)) in
    let right : nat_le (depth_of n.right) 128 ≡ true = (let k = rules.right_depth in grind (arith, nat_tests)) in
    λ i. left i && right i in
    let out : first_out (unit_of n) (adaptors n) ≡ None = ap (option_map (λ (a : Adaptor). a.first)) (none_out (unit_of n) (adaptors n) rules.multipliers) in
    let count : length (elements n) ≡ length (numbers n) = omega (arith, length-map {A = LeafElement} {B = ℕ}) in
    let numbers_in = numbers_good (numbers n)
    (subst (λ (c : ℕ). c ≤ 128) count rules.most)
    (subst (λ (c : ℕ). All (λ (i : ℕ). i < c) (numbers n)) count rules.below)
    (λ i h. rules.once i (subst (λ (c : ℕ). i < c) (sym count) h)) in
    let sources_in = sources_good (source_numbers n) rules.some_source rules.few_sources in
    λ i. option_or (unless (width i) (BadWidth n.k))
    (option_or (unless (depth i) TooDeep)
    (option_or (option_map (λ (e : ℕ). BadMultiplier e) (out i))
    (option_or (numbers_in i)
    (option_or (sources_in i)
    (unless (rules.outlet i) NoOutlet)))))
