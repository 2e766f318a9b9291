-- The root junction, from its equations as premises: with V = q·u + B and J = g·(B - q·u) at each of its
-- two ports, V1 = V2 and J1 + J2 = 0. Here m + n = q, q·g1 = m·(g1 + g2) and q·g2 = n·(g1 + g2).
use Rattle.std.proofs.Common.{◌≡◌, ℕ, ◌+◌, ◌*◌, ◌<◌, [], ◌∷◌, refl, ap}
use lib.IntN.{ℤ, pos, ◌+ℤ◌, ◌-ℤ◌, ◌*ℤ◌}
use Rattle.wdf_algebra.specs.JunctionValues.{root_value}
use Rattle.wdf_algebra.proofs.Cancelling.{cancel}
use Rattle.wdf_algebra.proofs.Polynomials.{con, var, ◌⊕◌, ◌⊖◌, ◌⊗◌, ring}
use Rattle.wdf_algebra.proofs.LinearCombinations.{linear_combination}

-- both ports have the voltage 2·(m·u1 + n·u2)
pub root_voltage : (q m n : ℕ) (u1 u2 u : ℤ) → pos q *ℤ u +ℤ root_value q m n u1 u2 u ≡ pos 2 *ℤ (pos m *ℤ u1 +ℤ pos n *ℤ u2)
root_voltage q m n u1 u2 u =
    let Q = var 0 in
    let M = var 1 in
    let N = var 2 in
    let U1 = var 3 in
    let U2 = var 4 in
    let U = var 5 in
    let V = con (pos 2) ⊗ (M ⊗ U1 ⊕ N ⊗ U2) in
    ring (pos q ∷ pos m ∷ pos n ∷ u1 ∷ u2 ∷ u ∷ []) (Q ⊗ U ⊕ (V ⊖ Q ⊗ U)) V refl

-- the values meet the equation of the currents
pub root_currents : (q m n g1 g2 : ℕ) (u1 u2 : ℤ) → q * g1 ≡ m * (g1 + g2) → q * g2 ≡ n * (g1 + g2)
    → pos g1 *ℤ (root_value q m n u1 u2 u1 -ℤ pos q *ℤ u1) +ℤ pos g2 *ℤ (root_value q m n u1 u2 u2 -ℤ pos q *ℤ u2) ≡ pos 0
root_currents q m n g1 g2 u1 u2 first second =
    let Q = var 0 in
    let M = var 1 in
    let N = var 2 in
    let G1 = var 3 in
    let G2 = var 4 in
    let U1 = var 5 in
    let U2 = var 6 in
    let V = con (pos 2) ⊗ (M ⊗ U1 ⊕ N ⊗ U2) in
    let minus_two = con (pos 0) ⊖ con (pos 2) in
    linear_combination (pos q ∷ pos m ∷ pos n ∷ pos g1 ∷ pos g2 ∷ u1 ∷ u2 ∷ [])
    (G1 ⊗ ((V ⊖ Q ⊗ U1) ⊖ Q ⊗ U1) ⊕ G2 ⊗ ((V ⊖ Q ⊗ U2) ⊖ Q ⊗ U2))
    (con (pos 0))
    (record { by = minus_two ⊗ U1; left = Q ⊗ G1; right = M ⊗ (G1 ⊕ G2) }
    ∷ record { by = minus_two ⊗ U2; left = Q ⊗ G2; right = N ⊗ (G1 ⊕ G2) }
    ∷ [])
    (ap pos first, (ap pos second, tt))
    refl

-- the equations leave no other value towards the first port
pub root_first : (q m n g1 g2 : ℕ) (u1 u2 b1 b2 : ℤ) → 0 < g1 + g2 → q * g1 ≡ m * (g1 + g2) → q * g2 ≡ n * (g1 + g2)
    → pos q *ℤ u1 +ℤ b1 ≡ pos q *ℤ u2 +ℤ b2
    → pos g1 *ℤ (b1 -ℤ pos q *ℤ u1) +ℤ pos g2 *ℤ (b2 -ℤ pos q *ℤ u2) ≡ pos 0
    → b1 ≡ root_value q m n u1 u2 u1
root_first q m n g1 g2 u1 u2 b1 b2 some first second voltages currents =
    let Q = var 0 in
    let M = var 1 in
    let N = var 2 in
    let G1 = var 3 in
    let G2 = var 4 in
    let U1 = var 5 in
    let U2 = var 6 in
    let B1 = var 7 in
    let B2 = var 8 in
    let two = con (pos 2) in
    cancel (g1 + g2) b1 (root_value q m n u1 u2 u1) some
    (linear_combination (pos q ∷ pos m ∷ pos n ∷ pos g1 ∷ pos g2 ∷ u1 ∷ u2 ∷ b1 ∷ b2 ∷ [])
    ((G1 ⊕ G2) ⊗ B1)
    ((G1 ⊕ G2) ⊗ (two ⊗ (M ⊗ U1 ⊕ N ⊗ U2) ⊖ Q ⊗ U1))
    (record { by = con (pos 1); left = G1 ⊗ (B1 ⊖ Q ⊗ U1) ⊕ G2 ⊗ (B2 ⊖ Q ⊗ U2); right = con (pos 0) }
    ∷ record { by = G2; left = Q ⊗ U1 ⊕ B1; right = Q ⊗ U2 ⊕ B2 }
    ∷ record { by = two ⊗ U1; left = Q ⊗ G1; right = M ⊗ (G1 ⊕ G2) }
    ∷ record { by = two ⊗ U2; left = Q ⊗ G2; right = N ⊗ (G1 ⊕ G2) }
    ∷ [])
    (currents, (voltages, (ap pos first, (ap pos second, tt))))
    refl)

-- nor towards the second
pub root_second : (q m n g1 g2 : ℕ) (u1 u2 b1 b2 : ℤ) → 0 < g1 + g2 → q * g1 ≡ m * (g1 + g2) → q * g2 ≡ n * (g1 + g2)
    → pos q *ℤ u1 +ℤ b1 ≡ pos q *ℤ u2 +ℤ b2
    → pos g1 *ℤ (b1 -ℤ pos q *ℤ u1) +ℤ pos g2 *ℤ (b2 -ℤ pos q *ℤ u2) ≡ pos 0
    → b2 ≡ root_value q m n u1 u2 u2
root_second q m n g1 g2 u1 u2 b1 b2 some first second voltages currents =
    let Q = var 0 in
    let M = var 1 in
    let N = var 2 in
    let G1 = var 3 in
    let G2 = var 4 in
    let U1 = var 5 in
    let U2 = var 6 in
    let B1 = var 7 in
    let B2 = var 8 in
    let two = con (pos 2) in
    cancel (g1 + g2) b2 (root_value q m n u1 u2 u2) some
    (linear_combination (pos q ∷ pos m ∷ pos n ∷ pos g1 ∷ pos g2 ∷ u1 ∷ u2 ∷ b1 ∷ b2 ∷ [])
    ((G1 ⊕ G2) ⊗ B2)
    ((G1 ⊕ G2) ⊗ (two ⊗ (M ⊗ U1 ⊕ N ⊗ U2) ⊖ Q ⊗ U2))
    (record { by = con (pos 1); left = G1 ⊗ (B1 ⊖ Q ⊗ U1) ⊕ G2 ⊗ (B2 ⊖ Q ⊗ U2); right = con (pos 0) }
    ∷ record { by = con (pos 0) ⊖ G1; left = Q ⊗ U1 ⊕ B1; right = Q ⊗ U2 ⊕ B2 }
    ∷ record { by = two ⊗ U1; left = Q ⊗ G1; right = M ⊗ (G1 ⊕ G2) }
    ∷ record { by = two ⊗ U2; left = Q ⊗ G2; right = N ⊗ (G1 ⊕ G2) }
    ∷ [])
    (currents, (voltages, (ap pos first, (ap pos second, tt))))
    refl)

-- the weighted squares of the values are those of the waves, times q²
pub root_energy : (q g1 g2 : ℕ) (u1 u2 b1 b2 : ℤ)
    → pos q *ℤ u1 +ℤ b1 ≡ pos q *ℤ u2 +ℤ b2
    → pos g1 *ℤ (b1 -ℤ pos q *ℤ u1) +ℤ pos g2 *ℤ (b2 -ℤ pos q *ℤ u2) ≡ pos 0
    → pos g1 *ℤ (b1 *ℤ b1) +ℤ pos g2 *ℤ (b2 *ℤ b2) ≡ pos q *ℤ pos q *ℤ (pos g1 *ℤ (u1 *ℤ u1) +ℤ pos g2 *ℤ (u2 *ℤ u2))
root_energy q g1 g2 u1 u2 b1 b2 voltages currents =
    let Q = var 0 in
    let G1 = var 1 in
    let G2 = var 2 in
    let U1 = var 3 in
    let U2 = var 4 in
    let B1 = var 5 in
    let B2 = var 6 in
    let V1 = Q ⊗ U1 ⊕ B1 in
    let V2 = Q ⊗ U2 ⊕ B2 in
    let J1 = G1 ⊗ (B1 ⊖ Q ⊗ U1) in
    let J2 = G2 ⊗ (B2 ⊖ Q ⊗ U2) in
    linear_combination (pos q ∷ pos g1 ∷ pos g2 ∷ u1 ∷ u2 ∷ b1 ∷ b2 ∷ [])
    (G1 ⊗ (B1 ⊗ B1) ⊕ G2 ⊗ (B2 ⊗ B2))
    (Q ⊗ Q ⊗ (G1 ⊗ (U1 ⊗ U1) ⊕ G2 ⊗ (U2 ⊗ U2)))
    (record { by = J1; left = V1; right = V2 }
    ∷ record { by = V2; left = J1 ⊕ J2; right = con (pos 0) }
    ∷ [])
    (voltages, (currents, tt))
    refl
