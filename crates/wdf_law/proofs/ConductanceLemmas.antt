-- The conductances of the ports, over natural numbers.
use Rattle.std.proofs.Common.{◌≡◌, ℕ, ◌+◌, ◌-◌, ◌*◌, ◌<◌, ◌≤◌, List, [], ◌∷◌, ◌++◌, map, ap, sym, arith}
use Rattle.std.specs.Prelude.{All}
use Rattle.std.proofs.Math.Nat.{mul-pos}
use Rattle.std.proofs.lemmas.List.{map-append}
use Rattle.std.proofs.lemmas.List.Elements.{All-nil, All-cons, All-head, All-tail, All-same}
use Rattle.wdf_law.specs.Trees.{AdaptorTree, leaf, series, parallel}
use Rattle.wdf_law.specs.Network.{Network, IsNetwork, Adaptor, unit_of, adaptors_of, multipliers_of}
use Rattle.wdf_law.specs.Conductance.{clearing, conductance, series_first, series_second, parallel_first, parallel_second, root_first, root_second, left_factor, right_factor}
use Rattle.wdf_law.specs.TreeRules.{IsSound, HasSoundTrees}
use Rattle.wdf_law.specs.Laws.{AreParallel, AreSeries, HaveConductances, HasConductances}

abbrev InRange : ℕ → ℕ → Type 0
InRange q m = (1 ≤ m) × (m < q)

all_front : (q : ℕ) (xs ys : List ℕ) → All (InRange q) (xs ++ ys) → All (InRange q) xs
all_front q [] ys h = All-nil (InRange q)
all_front q (x ∷ xs) ys h = All-cons (InRange q) x xs (All-head (InRange q) x (xs ++ ys) h) (all_front q xs ys (All-tail (InRange q) x (xs ++ ys) h))

all_behind : (q : ℕ) (xs ys : List ℕ) → All (InRange q) (xs ++ ys) → All (InRange q) ys
all_behind q [] ys h = h
all_behind q (x ∷ xs) ys h = all_behind q xs ys (All-tail (InRange q) x (xs ++ ys) h)

-- the multipliers of two trees
split : (q : ℕ) (l r : AdaptorTree) → All (InRange q) (map (λ (a : Adaptor). a.multiplier) (adaptors_of l ++ adaptors_of r))
    → All (InRange q) (multipliers_of l ++ multipliers_of r)
split q l r h = All-same (InRange q) _ _ (sym (map-append (λ (a : Adaptor). a.multiplier) (adaptors_of l) (adaptors_of r))) h

sound : (q : ℕ) (t : AdaptorTree) → All (InRange q) (multipliers_of t) → IsSound q t
sound q (leaf i k flip) h = tt
sound q (series m l r) h =
    let here = All-head (InRange q) m (map (λ (a : Adaptor). a.multiplier) (adaptors_of l ++ adaptors_of r)) h in
    let rest = split q l r (All-tail (InRange q) m (map (λ (a : Adaptor). a.multiplier) (adaptors_of l ++ adaptors_of r)) h) in
    (here.0, here.1, sound q l (all_front q (multipliers_of l) (multipliers_of r) rest), sound q r (all_behind q (multipliers_of l) (multipliers_of r) rest))
sound q (parallel m l r) h =
    let here = All-head (InRange q) m (map (λ (a : Adaptor). a.multiplier) (adaptors_of l ++ adaptors_of r)) h in
    let rest = split q l r (All-tail (InRange q) m (map (λ (a : Adaptor). a.multiplier) (adaptors_of l ++ adaptors_of r)) h) in
    (here.0, here.1, sound q l (all_front q (multipliers_of l) (multipliers_of r) rest), sound q r (all_behind q (multipliers_of l) (multipliers_of r) rest))

pub sound_trees : (n : Network) → IsNetwork n → HasSoundTrees n
sound_trees n rules =
    let q = unit_of n in
    let here = All-head (InRange q) n.m (map (λ (a : Adaptor). a.multiplier) (adaptors_of n.left ++ adaptors_of n.right)) rules.multipliers in
    let rest = split q n.left n.right (All-tail (InRange q) n.m (map (λ (a : Adaptor). a.multiplier) (adaptors_of n.left ++ adaptors_of n.right)) rules.multipliers) in
    record {
      unit = omega (arith, here.1);
      some = here.0;
      few = here.1;
      left = sound q n.left (all_front q (multipliers_of n.left) (multipliers_of n.right) rest);
      right = sound q n.right (all_behind q (multipliers_of n.left) (multipliers_of n.right) rest);
    }

-- ---- positive

rest_of : (q m : ℕ) → m < q → 0 < q - m
rest_of q m h = omega arith

pub clearing-pos : (q : ℕ) (t : AdaptorTree) → 0 < q → IsSound q t → 0 < clearing q t
clearing-pos q (leaf i k flip) unit s = omega arith
clearing-pos q (series m l r) unit s =
    mul-pos (mul-pos (mul-pos s.0 (rest_of q m s.1)) (clearing-pos q l unit s.2)) (clearing-pos q r unit s.3)
clearing-pos q (parallel m l r) unit s = mul-pos (mul-pos unit (clearing-pos q l unit s.2)) (clearing-pos q r unit s.3)

pub conductance-pos : (q f : ℕ) (t : AdaptorTree) → 0 < q → 0 < f → IsSound q t → 0 < conductance q f t
conductance-pos q f t unit some s = mul-pos some (clearing-pos q t unit s)

pub series_first-pos : (q f m : ℕ) (r : AdaptorTree) → 0 < q → 0 < f → m < q → IsSound q r → 0 < series_first q f m r
series_first-pos q f m r unit some h s = mul-pos (mul-pos (mul-pos some unit) (rest_of q m h)) (clearing-pos q r unit s)

pub series_second-pos : (q f m : ℕ) (l : AdaptorTree) → 0 < q → 0 < f → 1 ≤ m → IsSound q l → 0 < series_second q f m l
series_second-pos q f m l unit some h s = mul-pos (mul-pos (mul-pos some unit) h) (clearing-pos q l unit s)

pub parallel_first-pos : (q f m : ℕ) (r : AdaptorTree) → 0 < q → 0 < f → 1 ≤ m → IsSound q r → 0 < parallel_first q f m r
parallel_first-pos q f m r unit some h s = mul-pos (mul-pos some h) (clearing-pos q r unit s)

pub parallel_second-pos : (q f m : ℕ) (l : AdaptorTree) → 0 < q → 0 < f → m < q → IsSound q l → 0 < parallel_second q f m l
parallel_second-pos q f m l unit some h s = mul-pos (mul-pos some (rest_of q m h)) (clearing-pos q l unit s)

-- ---- what the multipliers say, over the clearing numbers a and b of the parts

series_numbers : (q m n f a b : ℕ) → m + n ≡ q → AreSeries q m (f * q * n * b * a) (f * q * m * a * b) (f * (m * n * a * b))
series_numbers q m n f a b h = record {
  sum = let e = ap (λ (s : ℕ). f * f * q * m * n * a * a * b * b * s) h in omega arith;
  first = omega arith;
}

parallel_numbers : (q m n f a b : ℕ) → m + n ≡ q → AreParallel q m (f * m * b * a) (f * n * a * b) (f * (q * a * b))
parallel_numbers q m n f a b h = record {
  sum = let e = ap (λ (s : ℕ). f * a * b * s) h in omega arith;
  first = omega arith;
}

root_numbers : (q m n a b : ℕ) → m + n ≡ q → q * (m * b * a) ≡ m * (m * b * a + n * a * b)
root_numbers q m n a b h = let e = ap (λ (s : ℕ). m * a * b * s) h in omega arith

pub whole_of : (q m : ℕ) → m < q → m + (q - m) ≡ q
whole_of q m h = omega arith

pub series_law : (q f m : ℕ) (l r : AdaptorTree) → m < q
    → AreSeries q m (conductance q (series_first q f m r) l) (conductance q (series_second q f m l) r) (conductance q f (series m l r))
series_law q f m l r h = series_numbers q m (q - m) f (clearing q l) (clearing q r) (whole_of q m h)

pub parallel_law : (q f m : ℕ) (l r : AdaptorTree) → m < q
    → AreParallel q m (conductance q (parallel_first q f m r) l) (conductance q (parallel_second q f m l) r) (conductance q f (parallel m l r))
parallel_law q f m l r h = parallel_numbers q m (q - m) f (clearing q l) (clearing q r) (whole_of q m h)

pub root_law : (q m : ℕ) (l r : AdaptorTree) → m < q
    → q * conductance q (root_first q m r) l ≡ m * (conductance q (root_first q m r) l + conductance q (root_second q m l) r)
root_law q m l r h = root_numbers q m (q - m) (clearing q l) (clearing q r) (whole_of q m h)

pub have_conductances : (q f : ℕ) (t : AdaptorTree) → 0 < q → 0 < f → IsSound q t → HaveConductances q f t
have_conductances q f (leaf i k flip) unit some s = conductance-pos q f (leaf i k flip) unit some s
have_conductances q f (series m l r) unit some s = (
  conductance-pos q f (series m l r) unit some s,
  series_law q f m l r s.1,
  have_conductances q (series_first q f m r) l unit (series_first-pos q f m r unit some s.1 s.3) s.2,
  have_conductances q (series_second q f m l) r unit (series_second-pos q f m l unit some s.0 s.2) s.3,
)
have_conductances q f (parallel m l r) unit some s = (
  conductance-pos q f (parallel m l r) unit some s,
  parallel_law q f m l r s.1,
  have_conductances q (parallel_first q f m r) l unit (parallel_first-pos q f m r unit some s.0 s.3) s.2,
  have_conductances q (parallel_second q f m l) r unit (parallel_second-pos q f m l unit some s.1 s.2) s.3,
)

pub left_factor-pos : (n : Network) → HasSoundTrees n → 0 < left_factor n
left_factor-pos n s = mul-pos s.some (clearing-pos (unit_of n) n.right s.unit s.right)

pub right_factor-pos : (n : Network) → HasSoundTrees n → 0 < right_factor n
right_factor-pos n s = mul-pos (rest_of (unit_of n) n.m s.few) (clearing-pos (unit_of n) n.left s.unit s.left)

pub has_conductances : (n : Network) → IsNetwork n → HasConductances n
has_conductances n rules =
    let s = sound_trees n rules in
    record {
      root = root_law (unit_of n) n.m n.left n.right s.few;
      left = have_conductances (unit_of n) (left_factor n) n.left s.unit (left_factor-pos n s) s.left;
      right = have_conductances (unit_of n) (right_factor n) n.right s.unit (right_factor-pos n s) s.right;
    }
