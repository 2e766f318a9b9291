-- A junction that loses nothing obeys Kirchhoff's laws in its waves themselves: q·u and q·d are its values.
use Rattle.std.proofs.Common.{◌≡◌, ℕ, ◌<◌, [], ◌∷◌, refl}
use lib.IntN.{ℤ, pos, negsuc, ◌+ℤ◌, ◌-ℤ◌, ◌*ℤ◌}
use Rattle.wdf_algebra.proofs.Cancelling.{cancel}
use Rattle.wdf_algebra.proofs.LinearCombinations.{linear_combination}
use Rattle.wdf_algebra.proofs.Polynomials.{con, var, ◌⊕◌, ◌⊖◌, ◌⊗◌}
use Rattle.wdf_law.specs.Junction.{IsParallel, IsSeries, IsRoot}

-- the waves' own equations
pub record AreParallelWaves (g1 g2 g : ℕ) (u1 u2 d d1 d2 u : ℤ) : Type 0 where
  pub first : d1 +ℤ u1 ≡ d +ℤ u
  pub second : d2 +ℤ u2 ≡ d +ℤ u
  pub currents : pos g1 *ℤ (d1 -ℤ u1) +ℤ pos g2 *ℤ (d2 -ℤ u2) ≡ pos g *ℤ (d -ℤ u)

pub record AreSeriesWaves (g1 g2 g : ℕ) (u1 u2 d d1 d2 u : ℤ) : Type 0 where
  pub first : pos g1 *ℤ (d1 -ℤ u1) ≡ pos g *ℤ (d -ℤ u)
  pub second : pos g2 *ℤ (d2 -ℤ u2) ≡ pos g *ℤ (d -ℤ u)
  pub voltages : d +ℤ u ≡ (d1 +ℤ u1) +ℤ (d2 +ℤ u2)

pub record AreRootWaves (g1 g2 : ℕ) (u1 u2 d1 d2 : ℤ) : Type 0 where
  pub voltages : d1 +ℤ u1 ≡ d2 +ℤ u2
  pub currents : pos g1 *ℤ (d1 -ℤ u1) +ℤ pos g2 *ℤ (d2 -ℤ u2) ≡ pos 0

-- q·u + b = q·d + c with b = q·e and c = q·f
same_voltage : (q : ℕ) (u e b d f c : ℤ) → 0 < q → b ≡ pos q *ℤ e → c ≡ pos q *ℤ f → pos q *ℤ u +ℤ b ≡ pos q *ℤ d +ℤ c → e +ℤ u ≡ d +ℤ f
same_voltage q u e b d f c some eb ec h =
    let Q = var 0 in
    let U = var 1 in
    let E = var 2 in
    let B = var 3 in
    let D = var 4 in
    let F = var 5 in
    let C = var 6 in
    let one = con (pos 1) in
    cancel q (e +ℤ u) (d +ℤ f) some
    (linear_combination (pos q ∷ u ∷ e ∷ b ∷ d ∷ f ∷ c ∷ []) (Q ⊗ (E ⊕ U)) (Q ⊗ (D ⊕ F))
    (record { by = one; left = Q ⊗ U ⊕ B; right = Q ⊗ D ⊕ C }
    ∷ record { by = con (negsuc 0); left = B; right = Q ⊗ E }
    ∷ record { by = one; left = C; right = Q ⊗ F }
    ∷ [])
    (h, (eb, (ec, tt)))
    refl)

pub parallel_waves : (q g1 g2 g : ℕ) (u1 u2 d b1 b2 b d1 d2 u : ℤ) → 0 < q → IsParallel q g1 g2 g u1 u2 d b1 b2 b
    → b1 ≡ pos q *ℤ d1 → b2 ≡ pos q *ℤ d2 → b ≡ pos q *ℤ u → AreParallelWaves g1 g2 g u1 u2 d d1 d2 u
parallel_waves q g1 g2 g u1 u2 d b1 b2 b d1 d2 u some is e1 e2 e =
    let Q = var 0 in
    let G1 = var 1 in
    let G2 = var 2 in
    let G = var 3 in
    let U1 = var 4 in
    let U2 = var 5 in
    let D = var 6 in
    let B1 = var 7 in
    let B2 = var 8 in
    let B = var 9 in
    let Down1 = var 10 in
    let Down2 = var 11 in
    let U = var 12 in
    let minus = con (negsuc 0) in
    record {
      first = same_voltage q u1 d1 b1 d u b some e1 e is.first;
      second = same_voltage q u2 d2 b2 d u b some e2 e is.second;
      currents =
          cancel q (pos g1 *ℤ (d1 -ℤ u1) +ℤ pos g2 *ℤ (d2 -ℤ u2)) (pos g *ℤ (d -ℤ u)) some
          (linear_combination (pos q ∷ pos g1 ∷ pos g2 ∷ pos g ∷ u1 ∷ u2 ∷ d ∷ b1 ∷ b2 ∷ b ∷ d1 ∷ d2 ∷ u ∷ [])
          (Q ⊗ (G1 ⊗ (Down1 ⊖ U1) ⊕ G2 ⊗ (Down2 ⊖ U2))) (Q ⊗ (G ⊗ (D ⊖ U)))
          (record { by = con (pos 1); left = G1 ⊗ (B1 ⊖ Q ⊗ U1) ⊕ G2 ⊗ (B2 ⊖ Q ⊗ U2); right = G ⊗ (Q ⊗ D ⊖ B) }
          ∷ record { by = minus ⊗ G1; left = B1; right = Q ⊗ Down1 }
          ∷ record { by = minus ⊗ G2; left = B2; right = Q ⊗ Down2 }
          ∷ record { by = minus ⊗ G; left = B; right = Q ⊗ U }
          ∷ [])
          (is.currents, (e1, (e2, (e, tt))))
          refl);
    }

-- g1·(b1 - q·u1) = g·(q·d - b) with b1 = q·d1 and b = q·u
same_current : (q g1 g : ℕ) (u1 d b1 b d1 u : ℤ) → 0 < q → b1 ≡ pos q *ℤ d1 → b ≡ pos q *ℤ u → pos g1 *ℤ (b1 -ℤ pos q *ℤ u1) ≡ pos g *ℤ (pos q *ℤ d -ℤ b)
    → pos g1 *ℤ (d1 -ℤ u1) ≡ pos g *ℤ (d -ℤ u)
same_current q g1 g u1 d b1 b d1 u some e1 e h =
    let Q = var 0 in
    let G1 = var 1 in
    let G = var 2 in
    let U1 = var 3 in
    let D = var 4 in
    let B1 = var 5 in
    let B = var 6 in
    let Down1 = var 7 in
    let U = var 8 in
    let minus = con (negsuc 0) in
    cancel q (pos g1 *ℤ (d1 -ℤ u1)) (pos g *ℤ (d -ℤ u)) some
    (linear_combination (pos q ∷ pos g1 ∷ pos g ∷ u1 ∷ d ∷ b1 ∷ b ∷ d1 ∷ u ∷ []) (Q ⊗ (G1 ⊗ (Down1 ⊖ U1))) (Q ⊗ (G ⊗ (D ⊖ U)))
    (record { by = con (pos 1); left = G1 ⊗ (B1 ⊖ Q ⊗ U1); right = G ⊗ (Q ⊗ D ⊖ B) }
    ∷ record { by = minus ⊗ G1; left = B1; right = Q ⊗ Down1 }
    ∷ record { by = minus ⊗ G; left = B; right = Q ⊗ U }
    ∷ [])
    (h, (e1, (e, tt)))
    refl)

pub series_waves : (q g1 g2 g : ℕ) (u1 u2 d b1 b2 b d1 d2 u : ℤ) → 0 < q → IsSeries q g1 g2 g u1 u2 d b1 b2 b
    → b1 ≡ pos q *ℤ d1 → b2 ≡ pos q *ℤ d2 → b ≡ pos q *ℤ u → AreSeriesWaves g1 g2 g u1 u2 d d1 d2 u
series_waves q g1 g2 g u1 u2 d b1 b2 b d1 d2 u some is e1 e2 e =
    let Q = var 0 in
    let U1 = var 1 in
    let U2 = var 2 in
    let D = var 3 in
    let B1 = var 4 in
    let B2 = var 5 in
    let B = var 6 in
    let Down1 = var 7 in
    let Down2 = var 8 in
    let U = var 9 in
    let one = con (pos 1) in
    record {
      first = same_current q g1 g u1 d b1 b d1 u some e1 e is.first;
      second = same_current q g2 g u2 d b2 b d2 u some e2 e is.second;
      voltages =
          cancel q (d +ℤ u) ((d1 +ℤ u1) +ℤ (d2 +ℤ u2)) some
          (linear_combination (pos q ∷ u1 ∷ u2 ∷ d ∷ b1 ∷ b2 ∷ b ∷ d1 ∷ d2 ∷ u ∷ []) (Q ⊗ (D ⊕ U)) (Q ⊗ ((Down1 ⊕ U1) ⊕ (Down2 ⊕ U2)))
          (record { by = one; left = Q ⊗ D ⊕ B; right = (Q ⊗ U1 ⊕ B1) ⊕ (Q ⊗ U2 ⊕ B2) }
          ∷ record { by = one; left = B1; right = Q ⊗ Down1 }
          ∷ record { by = one; left = B2; right = Q ⊗ Down2 }
          ∷ record { by = con (negsuc 0); left = B; right = Q ⊗ U }
          ∷ [])
          (is.voltages, (e1, (e2, (e, tt))))
          refl);
    }

pub root_waves : (q g1 g2 : ℕ) (u1 u2 b1 b2 d1 d2 : ℤ) → 0 < q → IsRoot q g1 g2 u1 u2 b1 b2 → b1 ≡ pos q *ℤ d1 → b2 ≡ pos q *ℤ d2 → AreRootWaves g1 g2 u1 u2 d1 d2
root_waves q g1 g2 u1 u2 b1 b2 d1 d2 some is e1 e2 =
    let Q = var 0 in
    let G1 = var 1 in
    let G2 = var 2 in
    let U1 = var 3 in
    let U2 = var 4 in
    let B1 = var 5 in
    let B2 = var 6 in
    let Down1 = var 7 in
    let Down2 = var 8 in
    let one = con (pos 1) in
    let minus = con (negsuc 0) in
    record {
      voltages =
          cancel q (d1 +ℤ u1) (d2 +ℤ u2) some
          (linear_combination (pos q ∷ pos g1 ∷ pos g2 ∷ u1 ∷ u2 ∷ b1 ∷ b2 ∷ d1 ∷ d2 ∷ []) (Q ⊗ (Down1 ⊕ U1)) (Q ⊗ (Down2 ⊕ U2))
          (record { by = one; left = Q ⊗ U1 ⊕ B1; right = Q ⊗ U2 ⊕ B2 }
          ∷ record { by = minus; left = B1; right = Q ⊗ Down1 }
          ∷ record { by = one; left = B2; right = Q ⊗ Down2 }
          ∷ [])
          (is.voltages, (e1, (e2, tt)))
          refl);
      currents =
          cancel q (pos g1 *ℤ (d1 -ℤ u1) +ℤ pos g2 *ℤ (d2 -ℤ u2)) (pos 0) some
          (linear_combination (pos q ∷ pos g1 ∷ pos g2 ∷ u1 ∷ u2 ∷ b1 ∷ b2 ∷ d1 ∷ d2 ∷ []) (Q ⊗ (G1 ⊗ (Down1 ⊖ U1) ⊕ G2 ⊗ (Down2 ⊖ U2))) (Q ⊗ con (pos 0))
          (record { by = one; left = G1 ⊗ (B1 ⊖ Q ⊗ U1) ⊕ G2 ⊗ (B2 ⊖ Q ⊗ U2); right = con (pos 0) }
          ∷ record { by = minus ⊗ G1; left = B1; right = Q ⊗ Down1 }
          ∷ record { by = minus ⊗ G2; left = B2; right = Q ⊗ Down2 }
          ∷ [])
          (is.currents, (e1, (e2, tt)))
          refl);
    }
