-- What a junction loses when its values are truncated.
use Rattle.std.proofs.Common.{◌≡◌, ℕ, ◌+◌, ◌*◌, ◌<◌, ◌≤◌, refl, ap, sym, ◌∙◌, subst, arith}
use Rattle.std.specs.Prelude.{unsigned_abs}
use Rattle.std.proofs.Math.Nat.{mul-le-mul_left, le_of_mul-le-mul_left, mul-pos}
use lib.IntN.{ℤ, pos, negsuc, ◌+ℤ◌, ◌*ℤ◌}
use Rattle.wdf_algebra.specs.Squares.{square}
use Rattle.wdf_algebra.proofs.Cancelling.{cancel_nat}
use Rattle.wdf_algebra.proofs.Truncations.{trunc-loses, whole-keeps}
use Rattle.wdf_algebra.proofs.ParallelJunction.{parallel_energy}
use Rattle.wdf_algebra.proofs.SeriesJunction.{series_energy}
use Rattle.wdf_algebra.proofs.RootJunction.{root_energy}
use Rattle.wdf_law.specs.Junction.{IsParallel, IsSeries, IsRoot, Truncates}
use Rattle.wdf_law.specs.Laws.{IsExact}

square-is : (z : ℤ) → z *ℤ z ≡ pos (square z)
square-is (pos n) = refl
square-is (negsuc n) = refl

-- the weighted squares of the values are those of the waves, times q²
abbrev pub Conserves : (q g1 g2 g : ℕ) (u1 u2 d b1 b2 b : ℤ) → Type 0
Conserves q g1 g2 g u1 u2 d b1 b2 b =
    g1 * square b1 + g2 * square b2 + g * square b ≡ q * q * (g1 * square u1 + g2 * square u2 + g * square d)

in_squares : (q g1 g2 g : ℕ) (u1 u2 d b1 b2 b : ℤ)
    → pos g1 *ℤ (b1 *ℤ b1) +ℤ pos g2 *ℤ (b2 *ℤ b2) +ℤ pos g *ℤ (b *ℤ b)
    ≡ pos q *ℤ pos q *ℤ (pos g1 *ℤ (u1 *ℤ u1) +ℤ pos g2 *ℤ (u2 *ℤ u2) +ℤ pos g *ℤ (d *ℤ d))
    → Conserves q g1 g2 g u1 u2 d b1 b2 b
in_squares q g1 g2 g u1 u2 d b1 b2 b e =
    let left : pos (g1 * square b1 + g2 * square b2 + g * square b) ≡ pos g1 *ℤ (b1 *ℤ b1) +ℤ pos g2 *ℤ (b2 *ℤ b2) +ℤ pos g *ℤ (b *ℤ b) =
    λ i. pos g1 *ℤ sym (square-is b1) i +ℤ pos g2 *ℤ sym (square-is b2) i +ℤ pos g *ℤ sym (square-is b) i in
    let right : pos q *ℤ pos q *ℤ (pos g1 *ℤ (u1 *ℤ u1) +ℤ pos g2 *ℤ (u2 *ℤ u2) +ℤ pos g *ℤ (d *ℤ d)) ≡ pos (q * q * (g1 * square u1 + g2 * square u2 + g * square d)) =
    λ i. pos q *ℤ pos q *ℤ (pos g1 *ℤ square-is u1 i +ℤ pos g2 *ℤ square-is u2 i +ℤ pos g *ℤ square-is d i) in
    ap unsigned_abs (left ∙ (e ∙ right))

pub parallel_conserves : (q g1 g2 g : ℕ) (u1 u2 d b1 b2 b : ℤ) → IsParallel q g1 g2 g u1 u2 d b1 b2 b → Conserves q g1 g2 g u1 u2 d b1 b2 b
parallel_conserves q g1 g2 g u1 u2 d b1 b2 b is =
    in_squares q g1 g2 g u1 u2 d b1 b2 b (parallel_energy q g1 g2 g u1 u2 d b1 b2 b is.first is.second is.currents)

pub series_conserves : (q g1 g2 g : ℕ) (u1 u2 d b1 b2 b : ℤ) → IsSeries q g1 g2 g u1 u2 d b1 b2 b → Conserves q g1 g2 g u1 u2 d b1 b2 b
series_conserves q g1 g2 g u1 u2 d b1 b2 b is =
    in_squares q g1 g2 g u1 u2 d b1 b2 b (series_energy q g1 g2 g u1 u2 d b1 b2 b is.first is.second is.voltages)

-- the root as a junction whose own port has the conductance 0
pub root_conserves : (q g1 g2 : ℕ) (u1 u2 b1 b2 : ℤ) → IsRoot q g1 g2 u1 u2 b1 b2 → Conserves q g1 g2 0 u1 u2 (pos 0) b1 b2 (pos 0)
root_conserves q g1 g2 u1 u2 b1 b2 is =
    let left : pos (g1 * square b1 + g2 * square b2) ≡ pos g1 *ℤ (b1 *ℤ b1) +ℤ pos g2 *ℤ (b2 *ℤ b2) =
    λ i. pos g1 *ℤ sym (square-is b1) i +ℤ pos g2 *ℤ sym (square-is b2) i in
    let right : pos q *ℤ pos q *ℤ (pos g1 *ℤ (u1 *ℤ u1) +ℤ pos g2 *ℤ (u2 *ℤ u2)) ≡ pos (q * q * (g1 * square u1 + g2 * square u2)) =
    λ i. pos q *ℤ pos q *ℤ (pos g1 *ℤ square-is u1 i +ℤ pos g2 *ℤ square-is u2 i) in
    let e : g1 * square b1 + g2 * square b2 ≡ q * q * (g1 * square u1 + g2 * square u2) =
    ap unsigned_abs (left ∙ (root_energy q g1 g2 u1 u2 b1 b2 is.voltages is.currents ∙ right)) in
    omega arith

-- over natural numbers: s is the square of a value, and t that of what is left of it
lost : (q g1 g2 g s1 s2 s t1 t2 t a : ℕ) → 0 < q → q * q * t1 ≤ s1 → q * q * t2 ≤ s2 → q * q * t ≤ s
    → g1 * s1 + g2 * s2 + g * s ≡ q * q * a → g1 * t1 + g2 * t2 + g * t ≤ a
lost q g1 g2 g s1 s2 s t1 t2 t a unit h1 h2 h e =
    let m1 = mul-le-mul_left g1 h1 in
    let m2 = mul-le-mul_left g2 h2 in
    let m = mul-le-mul_left g h in
    le_of_mul-le-mul_left {k = q * q} (omega arith) (mul-pos unit unit)

none_lost : (q g1 g2 g s1 s2 s t1 t2 t a : ℕ) → 0 < q → q * q * t1 ≡ s1 → q * q * t2 ≡ s2 → q * q * t ≡ s
    → g1 * s1 + g2 * s2 + g * s ≡ q * q * a → g1 * t1 + g2 * t2 + g * t ≡ a
none_lost q g1 g2 g s1 s2 s t1 t2 t a unit h1 h2 h e =
    let m1 = ap (λ (n : ℕ). g1 * n) h1 in
    let m2 = ap (λ (n : ℕ). g2 * n) h2 in
    let m = ap (λ (n : ℕ). g * n) h in
    cancel_nat (q * q) _ a (mul-pos unit unit) (omega arith)

-- what leaves a junction is at most what came to it
pub loses : (q g1 g2 g : ℕ) (u1 u2 d b1 b2 b u d1 d2 : ℤ) → 0 < q → Conserves q g1 g2 g u1 u2 d b1 b2 b → Truncates q u d1 d2 b1 b2 b
    → g1 * square d1 + g2 * square d2 + g * square u ≤ g1 * square u1 + g2 * square u2 + g * square d
loses q g1 g2 g u1 u2 d b1 b2 b u d1 d2 unit e cut =
    lost q g1 g2 g (square b1) (square b2) (square b) (square d1) (square d2) (square u) _ unit
    (subst (λ (z : ℤ). q * q * square z ≤ square b1) (sym cut.first) (trunc-loses b1 q))
    (subst (λ (z : ℤ). q * q * square z ≤ square b2) (sym cut.second) (trunc-loses b2 q))
    (subst (λ (z : ℤ). q * q * square z ≤ square b) (sym cut.up) (trunc-loses b q)) e

-- and all of it where q divides every value
pub loses_nothing : (q g1 g2 g : ℕ) (u1 u2 d b1 b2 b u d1 d2 : ℤ) → 0 < q → Conserves q g1 g2 g u1 u2 d b1 b2 b → Truncates q u d1 d2 b1 b2 b
    → IsExact q b1 → IsExact q b2 → IsExact q b
    → g1 * square d1 + g2 * square d2 + g * square u ≡ g1 * square u1 + g2 * square u2 + g * square d
loses_nothing q g1 g2 g u1 u2 d b1 b2 b u d1 d2 unit e cut w1 w2 w =
    none_lost q g1 g2 g (square b1) (square b2) (square b) (square d1) (square d2) (square u) _ unit
    (subst (λ (z : ℤ). q * q * square z ≡ square b1) (sym cut.first) (whole-keeps b1 q w1))
    (subst (λ (z : ℤ). q * q * square z ≡ square b2) (sym cut.second) (whole-keeps b2 q w2))
    (subst (λ (z : ℤ). q * q * square z ≡ square b) (sym cut.up) (whole-keeps b q w)) e
