-- What a network keeps, as its trees have it: recursions that go down a tree, so that a proof on trees carries them
-- from a junction to its parts.
use Rattle.std.specs.Prelude.{◌≡◌, ℕ, ◌<◌, ◌≤◌, true, false, length, map, ℤ}
use Rattle.wdf_law.specs.Trees.{AdaptorTree, leaf, series, parallel}
use Rattle.wdf_law.specs.Network.{Network, unit_of, elements, numbers, times_in, has_element, has_leaf, has_reactance, reactances}
use Rattle.wdf_law.specs.Run.{states}

-- ---- multipliers

-- every multiplier of a tree is in 1..=q-1
abbrev pub IsSound : ℕ → AdaptorTree → Type 0
IsSound q (leaf i k flip) = Unit {0}
IsSound q (series m l r) = (1 ≤ m) × (m < q) × IsSound q l × IsSound q r
IsSound q (parallel m l r) = (1 ≤ m) × (m < q) × IsSound q l × IsSound q r

pub record HasSoundTrees (n : Network) : Type 0 where
  pub unit : 0 < unit_of n
  pub some : 1 ≤ n.m
  pub few : n.m < unit_of n
  pub left : IsSound (unit_of n) n.left
  pub right : IsSound (unit_of n) n.right

-- ---- numbers

-- no number of a leaf of the second tree is one of the first
abbrev pub AreDisjoint : AdaptorTree → AdaptorTree → Type 0
AreDisjoint l r = (i : ℕ) → has_leaf r i ≡ true → has_leaf l i ≡ false

-- no two leaves of a tree have one number
abbrev pub HasDistinctLeaves : AdaptorTree → Type 0
HasDistinctLeaves (leaf i k flip) = Unit {0}
HasDistinctLeaves (series m l r) = AreDisjoint l r × HasDistinctLeaves l × HasDistinctLeaves r
HasDistinctLeaves (parallel m l r) = AreDisjoint l r × HasDistinctLeaves l × HasDistinctLeaves r

pub record HasNumbers (n : Network) : Type 0 where
  -- the numbers of the elements are those below their count
  pub below : (i : ℕ) → has_element (elements n) i ≡ true → i < length (elements n)
  pub every : (i : ℕ) → i < length (elements n) → has_element (elements n) i ≡ true
  -- each of them once
  pub most_once : (i : ℕ) → times_in (numbers n) i ≤ 1
  pub disjoint : AreDisjoint n.left n.right
  pub left : HasDistinctLeaves n.left
  pub right : HasDistinctLeaves n.right
  -- a list of one value for each reactance has each value at its number
  pub listed : (f : ℕ → ℤ) (i : ℕ) → has_reactance (elements n) i ≡ true → states n (map f (reactances n)) i ≡ f i
