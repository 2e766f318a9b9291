-- What the definition of a soak implies.
use Rattle.std.specs.Prelude.{◌≡◌, ℕ, Bool, true, false, List, Result}
use Rattle.wdf_stages.specs.StageLaws.{IsAllowed}
use Rattle.wdf_soak.specs.declared.soak_stop.SoakStop.{SoakStop}
use Rattle.wdf_soak.specs.declared.soak_stop.SoakStop.TheVariants.{PortRange, Bound, NoMemory}
use Rattle.wdf_soak.specs.Soaks.{IsSoaked, SoakRefuses}

abbrev pub rests_on_seed : SoakStop → Bool
rests_on_seed (PortRange side element low) = true
rests_on_seed (Bound side element ratio need limit) = true
rests_on_seed NoMemory = false

-- the contract of a soak allows the answer, which is not want of memory
abbrev pub IsSoakAnswer : (seed order frames : ℕ) → Result (List ℕ) SoakStop → Type 0
IsSoakAnswer seed order frames answer = IsAllowed (IsSoaked seed order frames) (SoakRefuses seed order) rests_on_seed answer

-- a seed, an order and frames have one summary or one refusal, and not both
abbrev pub HasOneSoak : Type 0
HasOneSoak = (seed order frames : ℕ) (x y : Result (List ℕ) SoakStop) → IsSoakAnswer seed order frames x → IsSoakAnswer seed order frames y → x ≡ y
