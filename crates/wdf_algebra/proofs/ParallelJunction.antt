-- The parallel junction, from its equations as premises: with V = q·u + B and J = g·(B - q·u) at each of its parts,
-- V1 = V2 = q·d + B and J1 + J2 = g·(q·d - B). Here g = g1 + g2, q·g1 = m·g and q·g2 = n·g.
use Rattle.std.proofs.Common.{◌≡◌, ℕ, ◌+◌, ◌*◌, ◌<◌, [], ◌∷◌, refl, ap, ◌∙◌, arith}
use lib.IntN.{ℤ, pos, ◌+ℤ◌, ◌-ℤ◌, ◌*ℤ◌}
use Rattle.wdf_algebra.specs.JunctionValues.{parallel_value, parallel_part}
use Rattle.wdf_algebra.proofs.RingLaws.{linear}
use Rattle.wdf_algebra.proofs.Cancelling.{cancel}
use Rattle.wdf_algebra.proofs.Polynomials.{con, var, ◌⊕◌, ◌⊖◌, ◌⊗◌, ring}
use Rattle.wdf_algebra.proofs.LinearCombinations.{linear_combination}

-- both parts have the voltage q·d + B
pub parallel_voltage : (q m n : ℕ) (u1 u2 d u : ℤ) → pos q *ℤ u +ℤ parallel_part q m n u1 u2 d u ≡ pos q *ℤ d +ℤ parallel_value m n u1 u2
parallel_voltage q m n u1 u2 d u =
    let Q = var 0 in
    let M = var 1 in
    let N = var 2 in
    let U1 = var 3 in
    let U2 = var 4 in
    let D = var 5 in
    let U = var 6 in
    let B = M ⊗ U1 ⊕ N ⊗ U2 in
    ring (pos q ∷ pos m ∷ pos n ∷ u1 ∷ u2 ∷ d ∷ u ∷ []) (Q ⊗ U ⊕ (Q ⊗ D ⊕ B ⊖ Q ⊗ U)) (Q ⊗ D ⊕ B) refl

-- the values meet the equation of the currents
pub parallel_currents : (q m n g1 g2 g : ℕ) (u1 u2 d : ℤ) → g ≡ g1 + g2 → q * g1 ≡ m * g → q * g2 ≡ n * g
    → pos g1 *ℤ (parallel_part q m n u1 u2 d u1 -ℤ pos q *ℤ u1) +ℤ pos g2 *ℤ (parallel_part q m n u1 u2 d u2 -ℤ pos q *ℤ u2)
    ≡ pos g *ℤ (pos q *ℤ d -ℤ parallel_value m n u1 u2)
parallel_currents q m n g1 g2 g u1 u2 d sum first second =
    let Q = var 0 in
    let M = var 1 in
    let N = var 2 in
    let G1 = var 3 in
    let G2 = var 4 in
    let G = var 5 in
    let U1 = var 6 in
    let U2 = var 7 in
    let D = var 8 in
    let B = M ⊗ U1 ⊕ N ⊗ U2 in
    let V = Q ⊗ D ⊕ B in
    let minus_two = con (pos 0) ⊖ con (pos 2) in
    linear_combination (pos q ∷ pos m ∷ pos n ∷ pos g1 ∷ pos g2 ∷ pos g ∷ u1 ∷ u2 ∷ d ∷ [])
    (G1 ⊗ ((V ⊖ Q ⊗ U1) ⊖ Q ⊗ U1) ⊕ G2 ⊗ ((V ⊖ Q ⊗ U2) ⊖ Q ⊗ U2))
    (G ⊗ (Q ⊗ D ⊖ B))
    (record { by = con (pos 0) ⊖ V; left = G; right = G1 ⊕ G2 }
    ∷ record { by = minus_two ⊗ U1; left = Q ⊗ G1; right = M ⊗ G }
    ∷ record { by = minus_two ⊗ U2; left = Q ⊗ G2; right = N ⊗ G }
    ∷ [])
    (ap pos sum, (ap pos first, (ap pos second, tt)))
    refl

-- the equations leave no other value to the junction's own port
pub parallel_only : (q m n g1 g2 g : ℕ) (u1 u2 d b1 b2 b : ℤ) → 0 < g → g ≡ g1 + g2 → q * g1 ≡ m * g → q * g2 ≡ n * g
    → pos q *ℤ u1 +ℤ b1 ≡ pos q *ℤ d +ℤ b
    → pos q *ℤ u2 +ℤ b2 ≡ pos q *ℤ d +ℤ b
    → pos g1 *ℤ (b1 -ℤ pos q *ℤ u1) +ℤ pos g2 *ℤ (b2 -ℤ pos q *ℤ u2) ≡ pos g *ℤ (pos q *ℤ d -ℤ b)
    → b ≡ parallel_value m n u1 u2
parallel_only q m n g1 g2 g u1 u2 d b1 b2 b some sum first second voltage1 voltage2 currents =
    let Q = var 0 in
    let M = var 1 in
    let N = var 2 in
    let G1 = var 3 in
    let G2 = var 4 in
    let G = var 5 in
    let U1 = var 6 in
    let U2 = var 7 in
    let D = var 8 in
    let B1 = var 9 in
    let B2 = var 10 in
    let B = var 11 in
    let V = Q ⊗ D ⊕ B in
    let two = con (pos 2) in
    let none = con (pos 0) in
    cancel 2 b (parallel_value m n u1 u2) (omega arith) (cancel g (pos 2 *ℤ b) (pos 2 *ℤ parallel_value m n u1 u2) some
    (linear_combination (pos q ∷ pos m ∷ pos n ∷ pos g1 ∷ pos g2 ∷ pos g ∷ u1 ∷ u2 ∷ d ∷ b1 ∷ b2 ∷ b ∷ [])
    (G ⊗ (two ⊗ B))
    (G ⊗ (two ⊗ (M ⊗ U1 ⊕ N ⊗ U2)))
    (record { by = con (pos 1); left = G1 ⊗ (B1 ⊖ Q ⊗ U1) ⊕ G2 ⊗ (B2 ⊖ Q ⊗ U2); right = G ⊗ (Q ⊗ D ⊖ B) }
    ∷ record { by = none ⊖ G1; left = Q ⊗ U1 ⊕ B1; right = V }
    ∷ record { by = none ⊖ G2; left = Q ⊗ U2 ⊕ B2; right = V }
    ∷ record { by = V; left = G; right = G1 ⊕ G2 }
    ∷ record { by = two ⊗ U1; left = Q ⊗ G1; right = M ⊗ G }
    ∷ record { by = two ⊗ U2; left = Q ⊗ G2; right = N ⊗ G }
    ∷ [])
    (currents, (voltage1, (voltage2, (ap pos sum, (ap pos first, (ap pos second, tt))))))
    refl))

-- nor to a part
pub parallel_part_only : (q m n : ℕ) (u1 u2 d u b1 b : ℤ) → pos q *ℤ u +ℤ b1 ≡ pos q *ℤ d +ℤ b → b ≡ parallel_value m n u1 u2
    → b1 ≡ parallel_part q m n u1 u2 d u
parallel_part_only q m n u1 u2 d u b1 b voltage value =
    let solved : b1 ≡ pos q *ℤ d +ℤ b -ℤ pos q *ℤ u = omega (arith, linear) in
    solved ∙ ap (λ (x : ℤ). pos q *ℤ d +ℤ x -ℤ pos q *ℤ u) value

-- the weighted squares of the values are those of the waves, times q²
pub parallel_energy : (q g1 g2 g : ℕ) (u1 u2 d b1 b2 b : ℤ)
    → pos q *ℤ u1 +ℤ b1 ≡ pos q *ℤ d +ℤ b
    → pos q *ℤ u2 +ℤ b2 ≡ pos q *ℤ d +ℤ b
    → pos g1 *ℤ (b1 -ℤ pos q *ℤ u1) +ℤ pos g2 *ℤ (b2 -ℤ pos q *ℤ u2) ≡ pos g *ℤ (pos q *ℤ d -ℤ b)
    → pos g1 *ℤ (b1 *ℤ b1) +ℤ pos g2 *ℤ (b2 *ℤ b2) +ℤ pos g *ℤ (b *ℤ b)
    ≡ pos q *ℤ pos q *ℤ (pos g1 *ℤ (u1 *ℤ u1) +ℤ pos g2 *ℤ (u2 *ℤ u2) +ℤ pos g *ℤ (d *ℤ d))
parallel_energy q g1 g2 g u1 u2 d b1 b2 b voltage1 voltage2 currents =
    let Q = var 0 in
    let G1 = var 1 in
    let G2 = var 2 in
    let G = var 3 in
    let U1 = var 4 in
    let U2 = var 5 in
    let D = var 6 in
    let B1 = var 7 in
    let B2 = var 8 in
    let B = var 9 in
    let V = Q ⊗ D ⊕ B in
    let J1 = G1 ⊗ (B1 ⊖ Q ⊗ U1) in
    let J2 = G2 ⊗ (B2 ⊖ Q ⊗ U2) in
    linear_combination (pos q ∷ pos g1 ∷ pos g2 ∷ pos g ∷ u1 ∷ u2 ∷ d ∷ b1 ∷ b2 ∷ b ∷ [])
    (G1 ⊗ (B1 ⊗ B1) ⊕ G2 ⊗ (B2 ⊗ B2) ⊕ G ⊗ (B ⊗ B))
    (Q ⊗ Q ⊗ (G1 ⊗ (U1 ⊗ U1) ⊕ G2 ⊗ (U2 ⊗ U2) ⊕ G ⊗ (D ⊗ D)))
    (record { by = J1; left = Q ⊗ U1 ⊕ B1; right = V }
    ∷ record { by = J2; left = Q ⊗ U2 ⊕ B2; right = V }
    ∷ record { by = V; left = J1 ⊕ J2; right = G ⊗ (Q ⊗ D ⊖ B) }
    ∷ [])
    (voltage1, (voltage2, (currents, tt)))
    refl
