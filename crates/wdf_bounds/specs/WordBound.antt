-- The bound of a port's words. In a run of at most frames frames, where no source is driven by more than amp·2^guard, a
-- port with the number p has no wave above
--   bound = ceil(amp·2^guard·a·b / 2^20),
-- a and b being the least whole numbers with a² ≥ frames and b² ≥ p. It comes from energy: frames times the sources'
-- conductances times (amp·2^guard)² is the most that such a run sends in, and p times the port's conductance is at least
-- 2^40 times those of the sources.
use Rattle.std.specs.Prelude.{◌≡◌, ℕ, zero, suc, ◌+◌, ◌-◌, ◌*◌, ◌^◌, ◌≤◌, nat_le, max, if◌then◌else◌, List, [], ◌∷◌, Option, None, Some, Result, Ok, Err, ⊤, All}
use Rattle.std.specs.Int.{div_ceil}
use Rattle.wdf_law.specs.Network.{Network}
use Rattle.wdf_quant.specs.declared.port_ratio.PortRatio.{PortRatio}
use Rattle.wdf_quant.specs.PortBound.{walk}
use Rattle.wdf_bounds.specs.declared.bound_fault.BoundFault.{BoundFault}
use Rattle.wdf_bounds.specs.declared.bound_fault.BoundFault.TheVariants.{Word, NoMemory}
use Rattle.wdf_bounds.specs.Plans.{PlanOf, greatest_input}

-- the least whole number whose square is at least n
unfoldable pub root_up : ℕ → ℕ
root_up zero = 0
root_up (suc n) = if nat_le (suc n) (root_up n * root_up n) then root_up n else root_up n + 1

-- the bound of a port with the number p
abbrev pub bound : PlanOf → ℕ → ℕ
bound plan p = div_ceil (greatest_input plan * root_up plan.frames * root_up p) (2 ^ 20)

-- those of a list of ports
abbrev pub bounds_of : PlanOf → List PortRatio → List ℕ
bounds_of plan [] = []
bounds_of plan (x ∷ xs) = bound plan x.ratio ∷ bounds_of plan xs

-- the limit of a word
abbrev pub word_limit : PlanOf → ℕ
word_limit plan = 2 ^ (60 - plan.k)

-- the first port whose bound exceeds the limit of a word, as its element and that bound
abbrev pub first_over : PlanOf → List PortRatio → Option (ℕ × ℕ)
first_over plan [] = None
first_over plan (x ∷ xs) = if nat_le (bound plan x.ratio) (word_limit plan) then first_over plan xs else Some (x.elem, bound plan x.ratio)

-- the greatest of these numbers, 0 of none
abbrev pub greatest_of : List ℕ → ℕ
greatest_of [] = 0
greatest_of (x ∷ xs) = max x (greatest_of xs)

-- a plan fits a network: their widths agree, no port's number is above 2^62, and no bound above the limit of a word
pub record Fits (n : Network) (plan : PlanOf) : Type 0 where
  pub width : plan.k ≡ n.k
  pub numbers : All (λ (x : PortRatio). x.ratio ≤ 2 ^ 62) (walk n)
  pub bounds : All (λ (x : PortRatio). bound plan x.ratio ≤ word_limit plan) (walk n)

-- the bounds of these ports, where none exceeds the limit, or the first that does
abbrev pub BoundsMeet : PlanOf → List PortRatio → Result (List ℕ) BoundFault → Type 0
BoundsMeet plan xs (Ok words) = (words ≡ bounds_of plan xs) × (first_over plan xs ≡ None)
BoundsMeet plan xs (Err (Word element need limit)) = (first_over plan xs ≡ Some (element, need)) × (limit ≡ word_limit plan)
BoundsMeet plan xs (Err NoMemory) = ⊤
