-- Where each refusal of a network comes: its rule is broken, and none before it, in the order of these records.
use Rattle.std.specs.Prelude.{◌≡◌, ℕ, ◌≤◌, Bool, true, false, not, ◌&&◌, ◌==◌, nat_le, nat_lt, if◌then◌else◌, List, [], ◌∷◌, length, Option, None, Some}
use Rattle.std.specs.List.{range_with_len, list_any, find, slice_get}
use Rattle.std.specs.Option.{option_map}
use Rattle.wdf_law.specs.declared.TheConstants.{MAX_SOURCES}
use Rattle.wdf_law.specs.Trees.{depth_of}
use Rattle.wdf_law.specs.Network.{Network, Adaptor, unit_of, elements, numbers, adaptors, source_numbers, has_outlet}

-- ---- the rules, each as a test or as the first place at which it is broken

-- k is in 1..=20
abbrev pub is_width : Network → Bool
is_width n = nat_le 1 n.k && nat_le n.k 20

-- no tree is deeper than 128
abbrev pub is_shallow : Network → Bool
is_shallow n = nat_le (depth_of n.left) 128 && nat_le (depth_of n.right) 128

-- the multiplier is not in 1..=q-1
abbrev pub is_out : ℕ → Adaptor → Bool
is_out q a = not (nat_le 1 a.multiplier && nat_lt a.multiplier q)

-- the first leaf of the first adaptor with such a multiplier
abbrev pub first_out : ℕ → List Adaptor → Option ℕ
first_out q xs = option_map (λ (a : Adaptor). a.first) (find (is_out q) xs)

-- the first number of 128 or more
abbrev pub first_large : List ℕ → Option ℕ
first_large is = find (λ (i : ℕ). nat_le 128 i) is

-- the number stands in the list
abbrev pub is_among : List ℕ → ℕ → Bool
is_among xs i = list_any (λ (x : ℕ). x == i) xs

-- the first number that stands among those before it or in seen
abbrev pub first_repeated : List ℕ → List ℕ → Option ℕ
first_repeated seen [] = None
first_repeated seen (i ∷ is) = if is_among seen i then Some i else first_repeated (i ∷ seen) is

-- the least number below the count that is missing
abbrev pub least_missing : List ℕ → ℕ → Option ℕ
least_missing xs count = find (λ (i : ℕ). not (is_among xs i)) (range_with_len 0 count)

-- ---- the refusals

pub record HasBadWidth (n : Network) (k : ℕ) : Type 0 where
  pub width : is_width n ≡ false
  pub same : n.k ≡ k

pub record IsTooDeep (n : Network) : Type 0 where
  pub width : is_width n ≡ true
  pub deep : is_shallow n ≡ false

-- e is the first leaf of the first adaptor whose multiplier is out of range
pub record HasBadMultiplier (n : Network) (e : ℕ) : Type 0 where
  pub width : is_width n ≡ true
  pub depth : is_shallow n ≡ true
  pub first : first_out (unit_of n) (adaptors n) ≡ Some e

-- the rules on width, depth and multipliers hold
pub record HasGoodShape (n : Network) : Type 0 where
  pub width : is_width n ≡ true
  pub depth : is_shallow n ≡ true
  pub multipliers : first_out (unit_of n) (adaptors n) ≡ None

pub record HasBadElement (n : Network) (e : ℕ) : Type 0 where
  pub shape : HasGoodShape n
  pub first : first_large (numbers n) ≡ Some e

pub record HasDoubleElement (n : Network) (e : ℕ) : Type 0 where
  pub shape : HasGoodShape n
  pub small : first_large (numbers n) ≡ None
  pub first : first_repeated [] (numbers n) ≡ Some e

pub record HasMissingElement (n : Network) (e : ℕ) : Type 0 where
  pub shape : HasGoodShape n
  pub small : first_large (numbers n) ≡ None
  pub apart : first_repeated [] (numbers n) ≡ None
  pub least : least_missing (numbers n) (length (numbers n)) ≡ Some e

-- so do those on numbers
pub record HasGoodNumbers (n : Network) : Type 0 where
  pub shape : HasGoodShape n
  pub small : first_large (numbers n) ≡ None
  pub apart : first_repeated [] (numbers n) ≡ None
  pub complete : least_missing (numbers n) (length (numbers n)) ≡ None

pub record HasNoSource (n : Network) : Type 0 where
  pub numbers : HasGoodNumbers n
  pub none : source_numbers n ≡ []

-- e is the source with the number MAX_SOURCES, the first too many
pub record HasTooManySources (n : Network) (e : ℕ) : Type 0 where
  pub numbers : HasGoodNumbers n
  pub source : slice_get (source_numbers n) MAX_SOURCES ≡ Some e

pub record HasNoOutlet (n : Network) : Type 0 where
  pub numbers : HasGoodNumbers n
  pub some : 1 ≤ length (source_numbers n)
  pub few : length (source_numbers n) ≤ MAX_SOURCES
  pub outlet : has_outlet (elements n) n.outlet ≡ false
