-- Stages of a chain that alternate, in pairs: a series junction, and behind it a parallel one whose part beside reflects with the
-- opposite sign.
use Rattle.std.specs.Prelude.{◌≡◌, ℕ, ◌+◌, ◌*◌, ◌<◌, ◌≤◌, ℤ, neg_ℤ, unsigned_abs, Bool, true, false, List}
use Rattle.wdf_loop.specs.declared.pairs.Pairs.{Pairs}
use Rattle.wdf_loop.specs.declared.share.Share.{Share}
use Rattle.wdf_loop.specs.Layouts.{share_at}

-- a share of this kind
pub record IsOfKind (parallel : Bool) (sign : ℤ) (s : Share) : Type 0 where
  pub junction : s.parallel ≡ parallel
  pub beside : s.sign ≡ sign

-- the stages j and j + 1 are such a pair
pub record IsPairAt (shares : List Share) (sign : ℤ) (j : ℕ) : Type 0 where
  pub series : IsOfKind false sign (share_at shares j)
  pub parallel : IsOfKind true (neg_ℤ sign) (share_at shares (j + 1))

-- so are as many from the stage `start` on
abbrev pub HasPairs : List Share → ℤ → ℕ → ℕ → Type 0
HasPairs shares sign start count = (i : ℕ) → i < count → IsPairAt shares sign (start + 2 * i)

-- in front of them, from the stage `low` on, stands a parallel junction alone, or nothing
pub record IsLone (shares : List Share) (low start : ℕ) : Type 0 where
  pub order : low ≤ start
  pub one : start ≤ low + 1
  pub parallel : low < start → (share_at shares low).parallel ≡ true

-- they lie among the stages first..end
pub record ArePairs (shares : List Share) (first end : ℕ) (p : Pairs) : Type 0 where
  pub order : first ≤ p.low
  pub inside : p.start + 2 * p.count ≤ end
  pub size : unsigned_abs p.sign ≡ 1
  pub lone : IsLone shares p.low p.start
  pub pairs : HasPairs shares p.sign p.start p.count
