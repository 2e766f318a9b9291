-- One step more along a ledger's lists.
use Rattle.std.proofs.Common.{◌≡◌, ℕ, zero, suc, ◌+◌, ◌^◌, ◌<◌, ◌≤◌, List, [], ◌∷◌, ◌++◌, length, map, take, drop, get_or, set, refl, ap, sym, ◌∙◌, subst, arith}
use Rattle.std.specs.Prelude.{All, ℤ, pos}
use Rattle.std.specs.List.{sum_by}
use Rattle.std.proofs.lemmas.List.{drop_more, map-append, take_more, take_more_set, get_or-map, get_or-take, drop-set, length-map, length-set, length-take-le}
use Rattle.std.proofs.lemmas.List.Elements.{All-head, All-tail}
use Rattle.std.proofs.lemmas.List.Sums.{sum_by-drop_more}
use Rattle.wdf_algebra.specs.Squares.{square}
use Rattle.wdf_energy.specs.declared.port.Port.{Port}
use Rattle.wdf_energy.specs.Totals.{part}
use Rattle.wdf_energy.specs.Accounts.{with_squares}
use Rattle.wdf_energy.specs.PortLists.{elems, parts_along}

pub values_more : (xs : List ℤ) (i : ℕ) → i < length xs → sum_by square (drop i xs) ≡ square (get_or xs i (pos 0)) + sum_by square (drop (i + 1) xs)
values_more xs i h = sum_by-drop_more square xs i (pos 0) h

pub parts_more : (ports : List Port) (ss : List ℕ) (i : ℕ) (d : Port) → i < length ports → i < length ss
    → parts_along (drop i ports) (drop i ss) ≡ part (get_or ss i 0) (get_or ports i d).ratio + parts_along (drop (i + 1) ports) (drop (i + 1) ss)
parts_more ports ss i d here there = λ k. parts_along (drop_more ports i d here k) (drop_more ss i 0 there k)

pub squares_more : (ports : List Port) (zs : List ℤ) (i : ℕ) (d : Port) → i < length ports → i < length zs
    → parts_along (drop i ports) (map square (drop i zs)) ≡ part (square (get_or zs i (pos 0))) (get_or ports i d).ratio + parts_along (drop (i + 1) ports) (map square (drop (i + 1) zs))
squares_more ports zs i d here there = λ k. parts_along (drop_more ports i d here k) (map square (drop_more zs i (pos 0) there k))

-- ---- sums with squares

pub with_squares-append : (f : ℕ → ℤ) (js ss : List ℕ) (j s : ℕ) → length js ≡ length ss
    → with_squares f (js ++ j ∷ []) (ss ++ s ∷ []) ≡ with_squares f js ss ++ (s + square (f j)) ∷ []
with_squares-append f [] [] j s e = refl
with_squares-append f [] (t ∷ ss) j s e = absurd (omega arith)
with_squares-append f (i ∷ js) [] j s e = absurd (omega arith)
with_squares-append f (i ∷ js) (t ∷ ss) j s e = ap (λ (l : List ℕ). (t + square (f i)) ∷ l) (with_squares-append f js ss j s (omega arith))

-- the sum at a place has room for the square there
pub room-at : (f : ℕ → ℤ) (js ss : List ℕ) (i : ℕ) → All (λ (s : ℕ). s < 2 ^ 124) (with_squares f js ss) → i < length js → i < length ss
    → get_or ss i 0 + square (f (get_or js i 0)) < 2 ^ 124
room-at f [] ss i h here there = absurd (omega arith)
room-at f (j ∷ js) [] i h here there = absurd (omega arith)
room-at f (j ∷ js) (s ∷ ss) zero h here there = All-head (λ (t : ℕ). t < 2 ^ 124) (s + square (f j)) (with_squares f js ss) h
room-at f (j ∷ js) (s ∷ ss) (suc i) h here there = room-at f js ss i (All-tail (λ (t : ℕ). t < 2 ^ 124) (s + square (f j)) (with_squares f js ss) h) (omega arith) (omega arith)

-- lists that agree from a place on
pub same-at : (xs ys : List ℕ) (i : ℕ) → i < length xs → i < length ys → drop i xs ≡ drop i ys → get_or xs i 0 ≡ get_or ys i 0
same-at xs ys i here there e =
    ap (λ (l : List ℕ). get_or l 0 0) (sym (drop_more xs i 0 here) ∙ (e ∙ drop_more ys i 0 there))

pub same-behind : (xs ys : List ℕ) (i : ℕ) → i < length xs → i < length ys → drop i xs ≡ drop i ys → drop (i + 1) xs ≡ drop (i + 1) ys
same-behind xs ys i here there e =
    ap (drop 1) (sym (drop_more xs i 0 here) ∙ (e ∙ drop_more ys i 0 there))

-- ---- ports

pub elem-at : (ports : List Port) (i : ℕ) (d : Port) → i < length ports → get_or (elems ports) i 0 ≡ (get_or ports i d).elem
elem-at ports i d h = get_or-map (λ (p : Port). p.elem) ports i d 0 h

pub elems-more : (ports : List Port) (i : ℕ) (d : Port) → i < length ports → elems (take (i + 1) ports) ≡ elems (take i ports) ++ (get_or ports i d).elem ∷ []
elems-more ports i d h = ap elems (take_more ports i d h) ∙ map-append (λ (p : Port). p.elem) (take i ports) (get_or ports i d ∷ [])

-- a port's sum with the square there
pub one-more : (f : ℕ → ℤ) (ports : List Port) (xs ss : List ℕ) (i : ℕ) (d : Port) (y : ℕ) → i < length ports → i < length xs → i < length ss
    → take i xs ≡ with_squares f (elems (take i ports)) (take i ss) → y ≡ get_or ss i 0 + square (f (get_or ports i d).elem)
    → take (i + 1) (set xs i y) ≡ with_squares f (elems (take (i + 1) ports)) (take (i + 1) ss)
one-more f ports xs ss i d y here inside there before value =
    take_more_set xs i y inside
    ∙ ((λ k. before k ++ value k ∷ [])
    ∙ (sym (with_squares-append f (elems (take i ports)) (take i ss) (get_or ports i d).elem (get_or ss i 0) long)
    ∙ (λ k. with_squares f (sym (elems-more ports i d here) k) (sym (take_more ss i 0 there) k))))
  where
    long : length (elems (take i ports)) ≡ length (take i ss)
    long = length-map (take i ports) (λ (p : Port). p.elem) ∙ (length-take-le i ports (omega arith) ∙ sym (length-take-le i ss (omega arith)))

pub room-ports : (f : ℕ → ℤ) (ports : List Port) (ss : List ℕ) (i : ℕ) (d : Port) → All (λ (s : ℕ). s < 2 ^ 124) (with_squares f (elems ports) (take (length ports) ss))
    → i < length ports → length ports ≤ length ss → get_or ss i 0 + square (f (get_or ports i d).elem) < 2 ^ 124
room-ports f ports ss i d h here long =
    let count = length-map ports (λ (p : Port). p.elem) in
    let taken = length-take-le (length ports) ss long in
    let room = room-at f (elems ports) (take (length ports) ss) i h (omega arith) (omega arith) in
    let elem = ap (λ (j : ℕ). square (f j)) (elem-at ports i d here) in
    let sum : get_or (take (length ports) ss) i 0 ≡ get_or ss i 0 = get_or-take (length ports) ss i 0 here in
    omega arith

-- behind a place that was set, lists agree as before
pub next-rest : (xs ys : List ℕ) (i y : ℕ) → i < length xs → i < length ys → drop i xs ≡ drop i ys → drop (i + 1) (set xs i y) ≡ drop (i + 1) ys
next-rest xs ys i y here there e =
    let inside : i < length (set xs i y) = subst (λ (n : ℕ). i < n) (sym (length-set xs i y)) here in
    same-tail (sym (drop_more (set xs i y) i 0 inside) ∙ drop-set xs i y here) ∙ same-behind xs ys i here there e
  where
    same-tail : {a b : ℕ} {l m : List ℕ} → a ∷ l ≡ b ∷ m → l ≡ m
    same-tail f = ap (drop 1) f
