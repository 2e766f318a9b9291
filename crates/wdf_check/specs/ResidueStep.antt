-- The residue step: the step of a network modulo P = 2^61 - 1, without truncation and without input. Its waves are
-- whole numbers that stand for their residues. To divide by q = 2^k is to multiply by h = 2^(61-k), whose product
-- with q is 2^61, which is 1 modulo P.
use Rattle.std.specs.Prelude.{ℕ, zero, suc, ◌-◌, ◌^◌, ◌==◌, if◌then◌else◌, ℤ, pos, ◌+ℤ◌, ◌-ℤ◌, ◌*ℤ◌}
use Rattle.wdf_law.specs.Trees.{AdaptorTree, leaf, series, parallel}
use Rattle.wdf_law.specs.Network.{Network, unit_of, has_leaf}
use Rattle.wdf_law.specs.Solved.{reflected}

-- h for multipliers of k bits
abbrev pub unit_inverse : ℕ → ℤ
unit_inverse k = pos (2 ^ (61 - k))

-- what both parts of a parallel junction, or of the root, have of their waves: (m·u1 + (q - m)·u2) / q
abbrev pub mean : ℕ → ℤ → ℕ → ℤ → ℤ → ℤ
mean q h m u1 u2 = (pos m *ℤ u1 +ℤ pos (q - m) *ℤ u2) *ℤ h

-- the wave to the part of a series junction whose wave is u and whose multiplier is m: u + m·(d - u1 - u2) / q
abbrev pub series_share : ℤ → ℕ → ℤ → ℤ → ℤ → ℤ → ℤ
series_share h m u1 u2 d u = u +ℤ pos m *ℤ (d -ℤ u1 -ℤ u2) *ℤ h

-- the wave that a tree reflects, where the element i has the state x i
abbrev pub reflects : ℕ → ℤ → (ℕ → ℤ) → AdaptorTree → ℤ
reflects q h x (leaf i k flip) = reflected k flip (x i) (pos 0)
reflects q h x (series m l r) = reflects q h x l +ℤ reflects q h x r
reflects q h x (parallel m l r) = mean q h m (reflects q h x l) (reflects q h x r)

-- the wave that the element i of a tree is sent, where the tree is sent d; 0 where it has no such element
abbrev pub sends : ℕ → ℤ → (ℕ → ℤ) → AdaptorTree → ℤ → ℕ → ℤ
sends q h x (leaf j k flip) d i = if j == i then d else pos 0
sends q h x (series m l r) d i =
    let u1 = reflects q h x l in
    let u2 = reflects q h x r in
    if has_leaf l i then sends q h x l (series_share h m u1 u2 d u1) i else sends q h x r (series_share h (q - m) u1 u2 d u2) i
sends q h x (parallel m l r) d i =
    let u1 = reflects q h x l in
    let u2 = reflects q h x r in
    let u = mean q h m u1 u2 in
    if has_leaf l i then sends q h x l (d +ℤ u -ℤ u1) i else sends q h x r (d +ℤ u -ℤ u2) i

-- one residue step: the wave that each element is sent, which is the next state of a reactance
abbrev pub next : Network → (ℕ → ℤ) → ℕ → ℤ
next n x i =
    let q = unit_of n in
    let h = unit_inverse n.k in
    let u1 = reflects q h x n.left in
    let u2 = reflects q h x n.right in
    let u = mean q h n.m u1 u2 in
    if has_leaf n.left i then sends q h x n.left (pos 2 *ℤ u -ℤ u1) i else sends q h x n.right (pos 2 *ℤ u -ℤ u2) i

-- the waves after t steps from the state x
abbrev pub steps : Network → ℕ → (ℕ → ℤ) → ℕ → ℤ
steps n zero x = x
steps n (suc t) x = next n (steps n t x)
