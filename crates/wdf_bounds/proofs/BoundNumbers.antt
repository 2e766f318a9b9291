-- From a bound on a word's energy to the bound on the word, over natural numbers: c is the sum of the sources'
-- conductances, g that of the port and p its number, s a square or a sum of squares, n the frames, e the greatest input.
use Rattle.std.proofs.Common.{◌≡◌, ℕ, ◌*◌, ◌^◌, ◌<◌, ◌≤◌, arith}
use Rattle.std.specs.Int.{div_ceil}
use Rattle.std.proofs.Math.Nat.{mul-le-mul, mul-le-mul_left, le_of_mul-le-mul_left}
use Rattle.std.proofs.lemmas.Grind.{div_ceil_times}
use Rattle.wdf_bounds.specs.Plans.{PlanOf, greatest_input}
use Rattle.wdf_bounds.specs.WordBound.{bound, root_up}
use Rattle.wdf_bounds.proofs.Roots.{root_le, root_up-square}

-- x is e·e·c
core : (c n p g s x a b k : ℕ) → 0 < c → n ≤ a * a → p ≤ b * b → k * c ≤ p * g → g * s ≤ n * x → c * (k * s) ≤ a * a * (b * b) * x
core c n p g s x a b k some frames number covers energy =
    let h1 : s * (k * c) ≤ s * (p * g) = mul-le-mul_left s covers in
    let h2 : p * (g * s) ≤ p * (n * x) = mul-le-mul_left p energy in
    let h3 : n * x * p ≤ n * x * (b * b) = mul-le-mul_left (n * x) number in
    let h4 : b * b * x * n ≤ b * b * x * (a * a) = mul-le-mul_left (b * b * x) frames in
    omega arith

cancelled : (c k s e a b : ℕ) → 0 < c → c * (k * s) ≤ a * a * (b * b) * (e * e * c) → k * s ≤ e * a * b * (e * a * b)
cancelled c k s e a b some h =
    let same : a * a * (b * b) * (e * e * c) ≡ c * (e * a * b * (e * a * b)) = omega arith in
    let times : c * (k * s) ≤ c * (e * a * b * (e * a * b)) = omega arith in
    le_of_mul-le-mul_left times some

pub sum_bound : (c n p g s e a b : ℕ) → 0 < c → n ≤ a * a → p ≤ b * b → 2 ^ 40 * c ≤ p * g → g * s ≤ n * (e * e * c)
    → 2 ^ 40 * s ≤ e * a * b * (e * a * b)
sum_bound c n p g s e a b some frames number covers energy =
    cancelled c (2 ^ 40) s e a b some (core c n p g s (e * e * c) a b (2 ^ 40) some frames number covers energy)

-- ---- a port's bound

rounded : (t : ℕ) → t ≤ div_ceil t (2 ^ 20) * 2 ^ 20
rounded t = (div_ceil_times t (2 ^ 20) (omega arith)).0

-- a sum of squares is at most the bound's square
squares : (k s t b : ℕ) → k * k * s ≤ t * t → t ≤ b * k → 0 < k → s ≤ b * b
squares k s t b h up some =
    let most : t * t ≤ b * k * (b * k) = mul-le-mul up up in
    let times : k * k * s ≤ k * k * (b * b) = omega arith in
    let once : k * (k * s) ≤ k * (k * (b * b)) = omega arith in
    le_of_mul-le-mul_left (le_of_mul-le-mul_left once some) some

pub sum_within : (plan : PlanOf) (c p g s : ℕ) → 0 < c → 2 ^ 40 * c ≤ p * g → g * s ≤ plan.frames * (greatest_input plan * greatest_input plan * c)
    → s ≤ bound plan p * bound plan p
sum_within plan c p g s some covers energy =
    let e = greatest_input plan in
    let a = root_up plan.frames in
    let b = root_up p in
    squares (2 ^ 20) s (e * a * b) (bound plan p) (sum_bound c plan.frames p g s e a b some (root_up-square plan.frames) (root_up-square p) covers energy)
    (rounded (e * a * b)) (omega arith)

-- a wave is at most the bound
pub wave_within : (plan : PlanOf) (c p g w : ℕ) → 0 < c → 2 ^ 40 * c ≤ p * g → g * (w * w) ≤ plan.frames * (greatest_input plan * greatest_input plan * c)
    → w ≤ bound plan p
wave_within plan c p g w some covers energy = root_le w (bound plan p) (sum_within plan c p g (w * w) some covers energy)

-- q times as much, for an outgoing value
scaled : (q k s e a b t : ℕ) → k * k * s ≤ q * e * a * b * (q * e * a * b) → e * a * b ≤ t * k → 0 < k → s ≤ q * t * (q * t)
scaled q k s e a b t h up some =
    let more : q * (e * a * b) ≤ q * (t * k) = mul-le-mul_left q up in
    squares k s (q * e * a * b) (q * t) h (omega arith) some

pub value_within : (plan : PlanOf) (q c p g w : ℕ) → 0 < c → 2 ^ 40 * c ≤ p * g → g * (w * w) ≤ q * q * (plan.frames * (greatest_input plan * greatest_input plan * c))
    → w ≤ q * bound plan p
value_within plan q c p g w some covers energy =
    let e = greatest_input plan in
    let a = root_up plan.frames in
    let b = root_up p in
    let large : g * (w * w) ≤ plan.frames * (q * e * (q * e) * c) = regroup q plan.frames e c (g * (w * w)) energy in
    root_le w (q * bound plan p)
    (scaled q (2 ^ 20) (w * w) e a b (bound plan p) (sum_bound c plan.frames p g (w * w) (q * e) a b some (root_up-square plan.frames) (root_up-square p) covers large)
    (rounded (e * a * b)) (omega arith))
  where
    regroup : (q n e c s : ℕ) → s ≤ q * q * (n * (e * e * c)) → s ≤ n * (q * e * (q * e) * c)
    regroup q n e c s h = omega arith
