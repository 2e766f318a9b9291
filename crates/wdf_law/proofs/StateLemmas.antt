-- The states after a step, as the list in netlist order has them: each reactance finds its own down wave.
use Rattle.std.proofs.Common.{◌≡◌, ℕ, zero, suc, ◌+◌, ◌*◌, ◌<◌, Bool, true, false, ◌||◌, ◌==◌, cond, List, [], ◌∷◌, map, length, refl, ap, sym, ◌∙◌, subst, arith}
use Rattle.std.specs.Prelude.{filter}
use Rattle.std.specs.List.{range_with_len, list_any}
use Rattle.std.proofs.lemmas.Bool.{eqb-true, eq-eqb}
use lib.IntN.{ℤ, pos}
use Rattle.wdf_algebra.specs.Squares.{square}
use Rattle.wdf_law.specs.Trees.{AdaptorTree, leaf, series, parallel}
use Rattle.wdf_law.specs.Network.{Network, IsNetwork, unit_of, elements, is_reactance, has_reactance, reactances}
use Rattle.wdf_law.specs.Conductance.{conductance, series_first, series_second, parallel_first, parallel_second, left_factor, right_factor}
use Rattle.wdf_law.specs.Step.{Frame, IsStep, sent_in, after}
use Rattle.wdf_law.specs.Run.{entry, states, at_rest}
use Rattle.wdf_law.specs.Ports.{conductance_at}
use Rattle.wdf_law.specs.Energy.{stored_in, stored}
use Rattle.wdf_law.specs.TreeRules.{HasNumbers}
use Rattle.wdf_law.proofs.BalanceLemmas.{kept}
use Rattle.wdf_law.proofs.SumLemmas.{over-same}
use Rattle.wdf_law.proofs.EnergySums.{energy_over, sent_energy_over}
use Rattle.wdf_law.proofs.NumberLemmas.{or_left, or_right, kind_among, numbers_once, numbers_below, numbers_every, disjoint_trees, distinct_left, distinct_right}

-- ---- what is entered under a key is found there

found : (ks : List ℕ) (f : ℕ → ℤ) (i : ℕ) → list_any (λ (x : ℕ). x == i) ks ≡ true → entry ks (map f ks) i ≡ f i
found [] f i h = absurd (cc)
found (k ∷ ks) f i h = by (k == i) refl (found ks f i) h
  where
    by : (b : Bool) → (k == i) ≡ b → (list_any (λ (x : ℕ). x == i) ks ≡ true → entry ks (map f ks) i ≡ f i) → (b || list_any (λ (x : ℕ). x == i) ks) ≡ true → cond {A = ℤ} b (f k) (entry ks (map f ks) i) ≡ f i
    by true e rest t = ap f (eqb-true k i e)
    by false e rest t = rest t

none_entered : (ks : List ℕ) (i : ℕ) → entry ks (map (λ (k : ℕ). pos 0) ks) i ≡ pos 0
none_entered [] i = refl
none_entered (k ∷ ks) i = by (k == i) (none_entered ks i)
  where
    by : (b : Bool) → entry ks (map (λ (k : ℕ). pos 0) ks) i ≡ pos 0 → cond {A = ℤ} b (pos 0) (entry ks (map (λ (k : ℕ). pos 0) ks) i) ≡ pos 0
    by true rest = refl
    by false rest = rest

-- a number below the bound that passes is among those that pass
passes : (p : ℕ → Bool) (n a i : ℕ) → i < n → p (a + i) ≡ true → list_any (λ (x : ℕ). x == (a + i)) (filter p (range_with_len a n)) ≡ true
passes p zero a i h t = absurd (omega arith)
passes p (suc n) a zero h t =
    let at : a + 0 ≡ a = omega arith in
    let first : p a ≡ true = subst (λ (x : ℕ). p x ≡ true) at t in
    ap (λ (b : Bool). list_any (λ (x : ℕ). x == (a + 0)) (cond b (a ∷ filter p (range_with_len (a + 1) n)) (filter p (range_with_len (a + 1) n)))) first
    ∙ or_left (a == (a + 0)) _ (ap (λ (x : ℕ). a == x) at ∙ same a)
  where
    same : (a : ℕ) → (a == a) ≡ true
    same a = eq-eqb a a refl
passes p (suc n) a (suc i) h t =
    let at : a + 1 + i ≡ a + suc i = omega arith in
    let rest : list_any (λ (x : ℕ). x == (a + suc i)) (filter p (range_with_len (a + 1) n)) ≡ true =
    subst (λ (k : ℕ). list_any (λ (x : ℕ). x == k) (filter p (range_with_len (a + 1) n)) ≡ true) at
    (passes p n (a + 1) i (omega arith) (subst (λ (x : ℕ). p x ≡ true) (sym at) t)) in
    by (p a) rest
  where
    by : (b : Bool) → list_any (λ (x : ℕ). x == (a + suc i)) (filter p (range_with_len (a + 1) n)) ≡ true
        → list_any (λ (x : ℕ). x == (a + suc i)) (cond b (a ∷ filter p (range_with_len (a + 1) n)) (filter p (range_with_len (a + 1) n))) ≡ true
    by true r = or_right (a == (a + suc i)) _ r
    by false r = r

-- ---- a network

-- a list of one value for each reactance has each value at its number
pub states-listed : (n : Network) → IsNetwork n → (f : ℕ → ℤ) (i : ℕ) → has_reactance (elements n) i ≡ true → states n (map f (reactances n)) i ≡ f i
states-listed n rules f i h =
    let small : i < length (elements n) = numbers_below n rules i (kind_among is_reactance (elements n) i h) in
    let at : i ≡ 0 + i = omega arith in
    let there : list_any (λ (x : ℕ). x == i) (reactances n) ≡ true =
    subst (λ (k : ℕ). list_any (λ (x : ℕ). x == k) (reactances n) ≡ true) (sym at)
    (passes (has_reactance (elements n)) (length (elements n)) 0 i small (subst (λ (k : ℕ). has_reactance (elements n) k ≡ true) at h)) in
    found (reactances n) f i there

-- the states after a step are the down waves
pub states-after : (n : Network) (s : Frame) → IsNetwork n → (i : ℕ) → has_reactance (elements n) i ≡ true → states n (after n s) i ≡ sent_in n s i
states-after n s rules i h = states-listed n rules (sent_in n s) i h

-- so what is stored in them is what was kept
pub stored-after : (n : Network) (x e : ℕ → ℤ) (s : Frame) → IsNetwork n → IsStep n x e s → stored n (after n s) ≡ kept n s
stored-after n x e s rules step =
    energy_over n rules is_reactance (states n (after n s))
    ∙ (over-same is_reactance _ _ (elements n) (λ i h. ap (λ (z : ℤ). conductance_at n i * square z) (states-after n s rules i h))
    ∙ sym (sent_energy_over n rules is_reactance x e s step))

-- at rest nothing is stored
nothing_in : (q f : ℕ) (x : ℕ → ℤ) (t : AdaptorTree) → ((i : ℕ) → x i ≡ pos 0) → stored_in q x f t ≡ 0
nothing_in q f x (leaf i k flip) h = by (is_reactance k) (ap (λ (z : ℤ). conductance q f (leaf i k flip) * square z) (h i))
  where
    by : (b : Bool) → conductance q f (leaf i k flip) * square (x i) ≡ conductance q f (leaf i k flip) * 0 → cond {A = ℕ} b (conductance q f (leaf i k flip) * square (x i)) 0 ≡ 0
    by true e = omega arith
    by false e = refl
nothing_in q f x (series m l r) h =
    let a = nothing_in q (series_first q f m r) x l h in
    let b = nothing_in q (series_second q f m l) x r h in
    omega arith
nothing_in q f x (parallel m l r) h =
    let a = nothing_in q (parallel_first q f m r) x l h in
    let b = nothing_in q (parallel_second q f m l) x r h in
    omega arith

pub stored-at_rest : (n : Network) → stored n (at_rest n) ≡ 0
stored-at_rest n =
    let none = none_entered (reactances n) in
    let a = nothing_in (unit_of n) (left_factor n) (states n (at_rest n)) n.left none in
    let b = nothing_in (unit_of n) (right_factor n) (states n (at_rest n)) n.right none in
    omega arith

pub has_numbers : (n : Network) → IsNetwork n → HasNumbers n
has_numbers n rules = record {
  below = numbers_below n rules;
  every = numbers_every n rules;
  most_once = numbers_once n rules;
  disjoint = disjoint_trees n rules;
  left = distinct_left n rules;
  right = distinct_right n rules;
  listed = states-listed n rules;
}
