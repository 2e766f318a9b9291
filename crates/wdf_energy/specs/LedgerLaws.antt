-- What a ledger tells of the frames of its network: each part is at most the energy of the law, over the conductances of
-- the sources, and absorbed and stored together are at most incident.
use Rattle.std.specs.Prelude.{◌≡◌, ℕ, ◌+◌, ◌*◌, ◌<◌, ◌≤◌, ℤ, pos, List, [], ◌∷◌, length, map}
use Rattle.wdf_law.specs.Network.{Network, elements, reactances, source_numbers, absorbing_numbers}
use Rattle.wdf_law.specs.Step.{Frame, IsStep, sent_in}
use Rattle.wdf_law.specs.Run.{states, at_rest, IsRun, at_end}
use Rattle.wdf_law.specs.Energy.{stored, all_absorbed}
use Rattle.wdf_law.specs.Ports.{conductance_at, source_conductance}
use Rattle.wdf_bounds.specs.Plans.{PlanOf, greatest_input}
use Rattle.wdf_bounds.specs.HeldWords.{IsInput}
use Rattle.wdf_energy.specs.Totals.{run_totals}
use Rattle.wdf_energy.specs.Accounts.{AccountOf, HasRoom, FitTotals, opened, noted, all_noted, totals_of}

-- ---- whole runs

pub record TellsRuns (n : Network) : Type 0 where
  -- the account of all frames of a run from rest has the run's totals
  pub totals : (es : List (ℕ → ℤ)) (ss : List Frame) → IsRun n (at_rest n) es ss → totals_of n (all_noted n es ss (opened n)) ≡ run_totals n es ss
  -- absorbed and stored are at most the energies, in units of the sources' conductances
  pub absorbed : (es : List (ℕ → ℤ)) (ss : List Frame) → IsRun n (at_rest n) es ss → source_conductance n * (run_totals n es ss).absorbed ≤ all_absorbed n ss
  pub stored : (es : List (ℕ → ℤ)) (ss : List Frame) → IsRun n (at_rest n) es ss
      → source_conductance n * (run_totals n es ss).stored ≤ stored n (at_end n (at_rest n) ss)
  -- and together at most incident
  pub kept : (es : List (ℕ → ℤ)) (ss : List Frame) → IsRun n (at_rest n) es ss
      → (run_totals n es ss).absorbed + (run_totals n es ss).stored ≤ (run_totals n es ss).incident

-- ---- frame after frame

-- the sum of g·s over elements, from their list and that of a number s for each
abbrev pub weighed : Network → List ℕ → List ℕ → ℕ
weighed n [] ss = 0
weighed n (j ∷ js) [] = 0
weighed n (j ∷ js) (s ∷ ss) = conductance_at n j * s + weighed n js ss

-- what is stored after a frame that sent the elements these waves, and what was taken up in all frames
abbrev pub held : Network → (ℕ → ℤ) → AccountOf → ℕ
held n sent a = stored n (map sent (reactances n)) + weighed n (absorbing_numbers n) a.squares

-- The account holds the frames of a run under a plan, of which so many are done and the last sent the elements these waves.
pub record HoldsFrames (n : Network) (plan : PlanOf) (done : ℕ) (sent : ℕ → ℤ) (a : AccountOf) : Type 0 where
  pub state : a.state ≡ map sent (reactances n)
  pub incident : a.incident ≤ done * (greatest_input plan * greatest_input plan) * length (source_numbers n)
  pub kept : held n sent a ≤ source_conductance n * a.incident
  pub reached : held n sent a ≤ source_conductance n * (done * (greatest_input plan * greatest_input plan))

pub record FollowsFrames (n : Network) (plan : PlanOf) : Type 0 where
  -- a new account holds no frames
  pub begins : HoldsFrames n plan 0 (λ (j : ℕ). pos 0) (opened n)
  -- one that holds frames, of which not all of the plan's are done, has room for one more, and holds it then
  pub room : (done : ℕ) (sent e : ℕ → ℤ) (a : AccountOf) (s : Frame) → done < plan.frames → IsInput n plan e → IsStep n (states n (map sent (reactances n))) e s
      → HoldsFrames n plan done sent a → HasRoom (noted n (map e (source_numbers n)) (sent_in n s) a)
  pub goes_on : (done : ℕ) (sent e : ℕ → ℤ) (a : AccountOf) (s : Frame) → IsInput n plan e → IsStep n (states n (map sent (reactances n))) e s
      → HoldsFrames n plan done sent a → HoldsFrames n plan (done + 1) (sent_in n s) (noted n (map e (source_numbers n)) (sent_in n s) a)
  -- its totals are numbers of 128 bits, and what was absorbed and is stored is at most incident
  pub fits : (done : ℕ) (sent : ℕ → ℤ) (a : AccountOf) → done ≤ plan.frames → HoldsFrames n plan done sent a → FitTotals (totals_of n a)
  pub totals : (done : ℕ) (sent : ℕ → ℤ) (a : AccountOf) → HoldsFrames n plan done sent a
      → (totals_of n a).absorbed + (totals_of n a).stored ≤ (totals_of n a).incident
  -- waves that agree on the elements are noted and held alike
  pub noted_alike : (es : List ℤ) (sent other : ℕ → ℤ) (a : AccountOf) → ((j : ℕ) → j < length (elements n) → sent j ≡ other j)
      → noted n es sent a ≡ noted n es other a
  pub held_alike : (done : ℕ) (sent other : ℕ → ℤ) (a : AccountOf) → ((j : ℕ) → j < length (elements n) → sent j ≡ other j)
      → HoldsFrames n plan done sent a → HoldsFrames n plan done other a
