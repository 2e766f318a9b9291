-- The series junction, from its equations as premises: with J = g·(q·d - B) and V = q·d + B at its own port,
-- g1·(B1 - q·u1) = g2·(B2 - q·u2) = J and V = V1 + V2. Here q·g = m·g1, q·g = n·g2 and m + n = q.
use Rattle.std.proofs.Common.{◌≡◌, ℕ, ◌+◌, ◌*◌, ◌<◌, [], ◌∷◌, refl, ap, arith}
use lib.IntN.{ℤ, pos, ◌+ℤ◌, ◌-ℤ◌, ◌*ℤ◌}
use Rattle.wdf_algebra.specs.JunctionValues.{series_value, series_part}
use Rattle.wdf_algebra.proofs.Cancelling.{cancel}
use Rattle.wdf_algebra.proofs.Polynomials.{con, var, ◌⊕◌, ◌⊖◌, ◌⊗◌}
use Rattle.wdf_algebra.proofs.LinearCombinations.{linear_combination}

-- the values meet the equation of a part's current
pub series_current : (q m g1 g : ℕ) (u1 u2 d u : ℤ) → q * g ≡ m * g1
    → pos g1 *ℤ (series_part q m u1 u2 d u -ℤ pos q *ℤ u) ≡ pos g *ℤ (pos q *ℤ d -ℤ series_value q u1 u2)
series_current q m g1 g u1 u2 d u same =
    let Q = var 0 in
    let M = var 1 in
    let G1 = var 2 in
    let G = var 3 in
    let U1 = var 4 in
    let U2 = var 5 in
    let D = var 6 in
    let U = var 7 in
    let W = D ⊖ (U1 ⊕ U2) in
    linear_combination (pos q ∷ pos m ∷ pos g1 ∷ pos g ∷ u1 ∷ u2 ∷ d ∷ u ∷ [])
    (G1 ⊗ ((Q ⊗ U ⊕ M ⊗ W) ⊖ Q ⊗ U))
    (G ⊗ (Q ⊗ D ⊖ Q ⊗ (U1 ⊕ U2)))
    (record { by = con (pos 0) ⊖ W; left = Q ⊗ G; right = M ⊗ G1 } ∷ [])
    (ap pos same, tt)
    refl

-- and that of the voltages
pub series_voltages : (q m n : ℕ) (u1 u2 d : ℤ) → m + n ≡ q
    → pos q *ℤ d +ℤ series_value q u1 u2 ≡ (pos q *ℤ u1 +ℤ series_part q m u1 u2 d u1) +ℤ (pos q *ℤ u2 +ℤ series_part q n u1 u2 d u2)
series_voltages q m n u1 u2 d whole =
    let Q = var 0 in
    let M = var 1 in
    let N = var 2 in
    let U1 = var 3 in
    let U2 = var 4 in
    let D = var 5 in
    let W = D ⊖ (U1 ⊕ U2) in
    linear_combination (pos q ∷ pos m ∷ pos n ∷ u1 ∷ u2 ∷ d ∷ [])
    (Q ⊗ D ⊕ Q ⊗ (U1 ⊕ U2))
    ((Q ⊗ U1 ⊕ (Q ⊗ U1 ⊕ M ⊗ W)) ⊕ (Q ⊗ U2 ⊕ (Q ⊗ U2 ⊕ N ⊗ W)))
    (record { by = con (pos 0) ⊖ W; left = M ⊕ N; right = Q } ∷ [])
    (ap pos whole, tt)
    refl

-- a part's equation without its conductance
scaled_part : (q m g1 g : ℕ) (u d b1 b : ℤ) → 0 < g1 → q * g ≡ m * g1
    → pos g1 *ℤ (b1 -ℤ pos q *ℤ u) ≡ pos g *ℤ (pos q *ℤ d -ℤ b)
    → pos q *ℤ (b1 -ℤ pos q *ℤ u) ≡ pos m *ℤ (pos q *ℤ d -ℤ b)
scaled_part q m g1 g u d b1 b some same current =
    let Q = var 0 in
    let M = var 1 in
    let G1 = var 2 in
    let G = var 3 in
    let U = var 4 in
    let D = var 5 in
    let B1 = var 6 in
    let B = var 7 in
    cancel g1 (pos q *ℤ (b1 -ℤ pos q *ℤ u)) (pos m *ℤ (pos q *ℤ d -ℤ b)) some
    (linear_combination (pos q ∷ pos m ∷ pos g1 ∷ pos g ∷ u ∷ d ∷ b1 ∷ b ∷ [])
    (G1 ⊗ (Q ⊗ (B1 ⊖ Q ⊗ U)))
    (G1 ⊗ (M ⊗ (Q ⊗ D ⊖ B)))
    (record { by = Q; left = G1 ⊗ (B1 ⊖ Q ⊗ U); right = G ⊗ (Q ⊗ D ⊖ B) }
    ∷ record { by = Q ⊗ D ⊖ B; left = Q ⊗ G; right = M ⊗ G1 }
    ∷ [])
    (current, (ap pos same, tt))
    refl)

-- the equations leave no other value to the junction's own port
pub series_only : (q m n g1 g2 g : ℕ) (u1 u2 d b1 b2 b : ℤ) → 0 < q → 0 < g1 → 0 < g2 → m + n ≡ q → q * g ≡ m * g1 → q * g ≡ n * g2
    → pos g1 *ℤ (b1 -ℤ pos q *ℤ u1) ≡ pos g *ℤ (pos q *ℤ d -ℤ b)
    → pos g2 *ℤ (b2 -ℤ pos q *ℤ u2) ≡ pos g *ℤ (pos q *ℤ d -ℤ b)
    → pos q *ℤ d +ℤ b ≡ (pos q *ℤ u1 +ℤ b1) +ℤ (pos q *ℤ u2 +ℤ b2)
    → b ≡ series_value q u1 u2
series_only q m n g1 g2 g u1 u2 d b1 b2 b unit some1 some2 whole first second current1 current2 voltages =
    let part1 = scaled_part q m g1 g u1 d b1 b some1 first current1 in
    let part2 = scaled_part q n g2 g u2 d b2 b some2 second current2 in
    let Q = var 0 in
    let M = var 1 in
    let N = var 2 in
    let U1 = var 3 in
    let U2 = var 4 in
    let D = var 5 in
    let B1 = var 6 in
    let B2 = var 7 in
    let B = var 8 in
    let two = con (pos 2) in
    let none = con (pos 0) in
    cancel 2 b (series_value q u1 u2) (omega arith) (cancel q (pos 2 *ℤ b) (pos 2 *ℤ series_value q u1 u2) unit
    (linear_combination (pos q ∷ pos m ∷ pos n ∷ u1 ∷ u2 ∷ d ∷ b1 ∷ b2 ∷ b ∷ [])
    (Q ⊗ (two ⊗ B))
    (Q ⊗ (two ⊗ (Q ⊗ (U1 ⊕ U2))))
    (record { by = con (pos 1); left = Q ⊗ (B1 ⊖ Q ⊗ U1); right = M ⊗ (Q ⊗ D ⊖ B) }
    ∷ record { by = con (pos 1); left = Q ⊗ (B2 ⊖ Q ⊗ U2); right = N ⊗ (Q ⊗ D ⊖ B) }
    ∷ record { by = Q ⊗ D ⊖ B; left = M ⊕ N; right = Q }
    ∷ record { by = Q; left = Q ⊗ D ⊕ B; right = (Q ⊗ U1 ⊕ B1) ⊕ (Q ⊗ U2 ⊕ B2) }
    ∷ [])
    (part1, (part2, (ap pos whole, (voltages, tt))))
    refl))

-- nor to a part
pub series_part_only : (q m g1 g : ℕ) (u1 u2 d u b1 b : ℤ) → 0 < q → 0 < g1 → q * g ≡ m * g1
    → pos g1 *ℤ (b1 -ℤ pos q *ℤ u) ≡ pos g *ℤ (pos q *ℤ d -ℤ b) → b ≡ series_value q u1 u2
    → b1 ≡ series_part q m u1 u2 d u
series_part_only q m g1 g u1 u2 d u b1 b unit some same current value =
    let part = scaled_part q m g1 g u d b1 b some same current in
    let Q = var 0 in
    let M = var 1 in
    let U1 = var 2 in
    let U2 = var 3 in
    let D = var 4 in
    let U = var 5 in
    let B1 = var 6 in
    let B = var 7 in
    cancel q b1 (series_part q m u1 u2 d u) unit
    (linear_combination (pos q ∷ pos m ∷ u1 ∷ u2 ∷ d ∷ u ∷ b1 ∷ b ∷ [])
    (Q ⊗ B1)
    (Q ⊗ (Q ⊗ U ⊕ M ⊗ (D ⊖ (U1 ⊕ U2))))
    (record { by = con (pos 1); left = Q ⊗ (B1 ⊖ Q ⊗ U); right = M ⊗ (Q ⊗ D ⊖ B) }
    ∷ record { by = con (pos 0) ⊖ M; left = B; right = Q ⊗ (U1 ⊕ U2) }
    ∷ [])
    (part, (value, tt))
    refl)

-- the weighted squares of the values are those of the waves, times q²
pub series_energy : (q g1 g2 g : ℕ) (u1 u2 d b1 b2 b : ℤ)
    → pos g1 *ℤ (b1 -ℤ pos q *ℤ u1) ≡ pos g *ℤ (pos q *ℤ d -ℤ b)
    → pos g2 *ℤ (b2 -ℤ pos q *ℤ u2) ≡ pos g *ℤ (pos q *ℤ d -ℤ b)
    → pos q *ℤ d +ℤ b ≡ (pos q *ℤ u1 +ℤ b1) +ℤ (pos q *ℤ u2 +ℤ b2)
    → pos g1 *ℤ (b1 *ℤ b1) +ℤ pos g2 *ℤ (b2 *ℤ b2) +ℤ pos g *ℤ (b *ℤ b)
    ≡ pos q *ℤ pos q *ℤ (pos g1 *ℤ (u1 *ℤ u1) +ℤ pos g2 *ℤ (u2 *ℤ u2) +ℤ pos g *ℤ (d *ℤ d))
series_energy q g1 g2 g u1 u2 d b1 b2 b current1 current2 voltages =
    let Q = var 0 in
    let G1 = var 1 in
    let G2 = var 2 in
    let G = var 3 in
    let U1 = var 4 in
    let U2 = var 5 in
    let D = var 6 in
    let B1 = var 7 in
    let B2 = var 8 in
    let B = var 9 in
    let J = G ⊗ (Q ⊗ D ⊖ B) in
    let V1 = Q ⊗ U1 ⊕ B1 in
    let V2 = Q ⊗ U2 ⊕ B2 in
    linear_combination (pos q ∷ pos g1 ∷ pos g2 ∷ pos g ∷ u1 ∷ u2 ∷ d ∷ b1 ∷ b2 ∷ b ∷ [])
    (G1 ⊗ (B1 ⊗ B1) ⊕ G2 ⊗ (B2 ⊗ B2) ⊕ G ⊗ (B ⊗ B))
    (Q ⊗ Q ⊗ (G1 ⊗ (U1 ⊗ U1) ⊕ G2 ⊗ (U2 ⊗ U2) ⊕ G ⊗ (D ⊗ D)))
    (record { by = V1; left = G1 ⊗ (B1 ⊖ Q ⊗ U1); right = J }
    ∷ record { by = V2; left = G2 ⊗ (B2 ⊖ Q ⊗ U2); right = J }
    ∷ record { by = con (pos 0) ⊖ J; left = Q ⊗ D ⊕ B; right = V1 ⊕ V2 }
    ∷ [])
    (current1, (current2, (voltages, tt)))
    refl
