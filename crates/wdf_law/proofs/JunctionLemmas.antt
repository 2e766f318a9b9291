-- The junctions of a tree, solved: their equations have these values and no others.
use Rattle.std.proofs.Common.{◌≡◌, ℕ, ◌+◌, ◌*◌, ◌<◌, ap, sym, ◌∙◌, arith}
use lib.IntN.{ℤ}
use Rattle.wdf_algebra.specs.JunctionValues.{series_value, series_part, parallel_value, parallel_part, root_value}
use Rattle.wdf_algebra.proofs.ParallelJunction.{parallel_voltage, parallel_currents, parallel_only, parallel_part_only}
use Rattle.wdf_algebra.proofs.SeriesJunction.{series_current, series_voltages, series_only, series_part_only}
use Rattle.wdf_algebra.proofs.RootJunction.{root_voltage, root_currents, root_first, root_second}
use Rattle.wdf_law.specs.Junction.{IsParallel, IsSeries, IsRoot}
use Rattle.wdf_law.specs.Laws.{AreParallel, AreSeries}
use Rattle.wdf_algebra.proofs.Cancelling.{cancel_nat}

-- ---- the second part's number, from the first's

parallel_rest : (q m n g1 g2 g : ℕ) → m + n ≡ q → AreParallel q m g1 g2 g → q * g2 ≡ n * g
parallel_rest q m n g1 g2 g h law =
    let whole = ap (λ (s : ℕ). s * g) h in
    let sum = ap (λ (s : ℕ). q * s) law.sum in
    omega (arith, law.first)

-- ---- parallel

pub parallel_solved : (q m n g1 g2 g : ℕ) (u1 u2 d : ℤ) → m + n ≡ q → AreParallel q m g1 g2 g
    → IsParallel q g1 g2 g u1 u2 d (parallel_part q m n u1 u2 d u1) (parallel_part q m n u1 u2 d u2) (parallel_value m n u1 u2)
parallel_solved q m n g1 g2 g u1 u2 d h law = record {
  first = parallel_voltage q m n u1 u2 d u1;
  second = parallel_voltage q m n u1 u2 d u2;
  currents = parallel_currents q m n g1 g2 g u1 u2 d law.sum law.first (parallel_rest q m n g1 g2 g h law);
}

pub record AreSolved (b1 b2 b c1 c2 c : ℤ) : Type 0 where
  pub first : b1 ≡ c1
  pub second : b2 ≡ c2
  pub own : b ≡ c

pub parallel_alone : (q m n g1 g2 g : ℕ) (u1 u2 d b1 b2 b : ℤ) → 0 < g → m + n ≡ q → AreParallel q m g1 g2 g → IsParallel q g1 g2 g u1 u2 d b1 b2 b
    → AreSolved b1 b2 b (parallel_part q m n u1 u2 d u1) (parallel_part q m n u1 u2 d u2) (parallel_value m n u1 u2)
parallel_alone q m n g1 g2 g u1 u2 d b1 b2 b some h law is =
    let own = parallel_only q m n g1 g2 g u1 u2 d b1 b2 b some law.sum law.first (parallel_rest q m n g1 g2 g h law) is.first is.second is.currents in
    record {
      first = parallel_part_only q m n u1 u2 d u1 b1 b is.first own;
      second = parallel_part_only q m n u1 u2 d u2 b2 b is.second own;
      own = own;
    }

-- ---- series

-- q·g = n·g2 too: from g·(g1 + g2) = g1·g2 and q·g = m·g1
series_rest : (q m n g1 g2 g : ℕ) → 0 < g1 → m + n ≡ q → AreSeries q m g1 g2 g → q * g ≡ n * g2
series_rest q m n g1 g2 g some h law =
    let sum = ap (λ (s : ℕ). q * s) law.sum in
    let by1 = ap (λ (s : ℕ). s * (g1 + g2)) law.first in
    let whole = ap (λ (s : ℕ). s * (g1 * g2)) h in
    cancel_nat g1 (q * g) (n * g2) some (omega (arith, ap (λ (s : ℕ). s * g1) law.first, ap (λ (s : ℕ). s * g2) law.first))

pub series_solved : (q m n g1 g2 g : ℕ) (u1 u2 d : ℤ) → 0 < g1 → m + n ≡ q → AreSeries q m g1 g2 g
    → IsSeries q g1 g2 g u1 u2 d (series_part q m u1 u2 d u1) (series_part q n u1 u2 d u2) (series_value q u1 u2)
series_solved q m n g1 g2 g u1 u2 d some h law = record {
  first = series_current q m g1 g u1 u2 d u1 law.first;
  second = series_current q n g2 g u1 u2 d u2 (series_rest q m n g1 g2 g some h law);
  voltages = series_voltages q m n u1 u2 d h;
}

pub series_alone : (q m n g1 g2 g : ℕ) (u1 u2 d b1 b2 b : ℤ) → 0 < q → 0 < g1 → 0 < g2 → m + n ≡ q → AreSeries q m g1 g2 g → IsSeries q g1 g2 g u1 u2 d b1 b2 b
    → AreSolved b1 b2 b (series_part q m u1 u2 d u1) (series_part q n u1 u2 d u2) (series_value q u1 u2)
series_alone q m n g1 g2 g u1 u2 d b1 b2 b unit some1 some2 h law is =
    let other = series_rest q m n g1 g2 g some1 h law in
    let own = series_only q m n g1 g2 g u1 u2 d b1 b2 b unit some1 some2 h law.first other is.first is.second is.voltages in
    record {
      first = series_part_only q m g1 g u1 u2 d u1 b1 b unit some1 law.first is.first own;
      second = series_part_only q n g2 g u1 u2 d u2 b2 b unit some2 other is.second own;
      own = own;
    }

-- ---- root

root_rest : (q m n g1 g2 : ℕ) → m + n ≡ q → q * g1 ≡ m * (g1 + g2) → q * g2 ≡ n * (g1 + g2)
root_rest q m n g1 g2 h law = let whole = ap (λ (s : ℕ). s * (g1 + g2)) h in omega arith

pub root_solved : (q m n g1 g2 : ℕ) (u1 u2 : ℤ) → m + n ≡ q → q * g1 ≡ m * (g1 + g2)
    → IsRoot q g1 g2 u1 u2 (root_value q m n u1 u2 u1) (root_value q m n u1 u2 u2)
root_solved q m n g1 g2 u1 u2 h law = record {
  voltages = root_voltage q m n u1 u2 u1 ∙ sym (root_voltage q m n u1 u2 u2);
  currents = root_currents q m n g1 g2 u1 u2 law (root_rest q m n g1 g2 h law);
}

pub root_alone_first : (q m n g1 g2 : ℕ) (u1 u2 b1 b2 : ℤ) → 0 < g1 → m + n ≡ q → q * g1 ≡ m * (g1 + g2) → IsRoot q g1 g2 u1 u2 b1 b2
    → b1 ≡ root_value q m n u1 u2 u1
root_alone_first q m n g1 g2 u1 u2 b1 b2 some h law is =
    root_first q m n g1 g2 u1 u2 b1 b2 (omega arith) law (root_rest q m n g1 g2 h law) is.voltages is.currents

pub root_alone_second : (q m n g1 g2 : ℕ) (u1 u2 b1 b2 : ℤ) → 0 < g1 → m + n ≡ q → q * g1 ≡ m * (g1 + g2) → IsRoot q g1 g2 u1 u2 b1 b2
    → b2 ≡ root_value q m n u1 u2 u2
root_alone_second q m n g1 g2 u1 u2 b1 b2 some h law is =
    root_second q m n g1 g2 u1 u2 b1 b2 (omega arith) law (root_rest q m n g1 g2 h law) is.voltages is.currents
