-- States that a network comes back to without input.
use Rattle.std.specs.Prelude.{◌≡◌, ℕ, ◌-◌, ◌^◌, ◌≤◌, ℤ, pos, unsigned_abs, List, replicate, All}
use Rattle.wdf_law.specs.Network.{Network}
use Rattle.wdf_law.specs.Step.{Frame}
use Rattle.wdf_law.specs.Run.{IsRun, at_end, at_rest}

-- no source sends anything
abbrev pub silent : ℕ → ℤ
silent i = pos 0

-- j steps without input, the first from the state zs, end in zs; a state that stays returns after one step
pub record Returns (n : Network) (zs : List ℤ) (j : ℕ) : Type 0 where
  pub some : 1 ≤ j
  pub steps : List Frame
  pub run : IsRun n zs (replicate j silent) steps
  pub back : at_end n zs steps ≡ zs

-- the state is in the words of a plan: every entry's magnitude is at most 2^(60-k)
abbrev pub AreWords : Network → List ℤ → Type 0
AreWords n zs = All (λ (z : ℤ). unsigned_abs z ≤ 2 ^ (60 - n.k)) zs

-- no state of words returns but rest
abbrev pub NeverReturns : Network → Type 0
NeverReturns n = (zs : List ℤ) (j : ℕ) → AreWords n zs → Returns n zs j → zs ≡ at_rest n
