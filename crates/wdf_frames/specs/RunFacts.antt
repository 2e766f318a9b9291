-- Facts of the runs that the frames of a wave drive: of each run of each network, from rest, on the samples that were read.
use Rattle.std.specs.Prelude.{◌≡◌, ℕ, ◌<◌, ℤ, List, Option, Some}
use Rattle.wdf_law.specs.declared.side.Side.{Side}
use Rattle.wdf_law.specs.Network.{Network}
use Rattle.wdf_law.specs.Step.{Frame}
use Rattle.wdf_law.specs.Run.{IsRun, at_rest}
use Rattle.wdf_energy.specs.declared.totals.Totals.{Totals}
use Rattle.wdf_lattice.specs.Sides.{network_at}
use Rattle.wdf_lattice.specs.Waves.{frames_of, inputs_for}
use Rattle.wdf_lattice.specs.TotalLaws.{AreRunTotals}
use Rattle.wdf_frames.specs.Setting.{Setting, runs_of, samples_in}
use Rattle.wdf_frames.specs.Written.{CountsLimited}

-- ---- the runs on the samples of a body of bytes

-- what a run's samples of a side send into its network, frame after frame
abbrev pub inputs_on : Setting → List ℕ → (run : ℕ) → Network → List (ℕ → ℤ)
inputs_on s body run n = inputs_for s.networks s.plan.guard run n (frames_of s.networks (runs_of s) (samples_in s body))

-- a fact of every run, by its network, its input and its steps
abbrev pub OfEachRun : Setting → List ℕ → (fact : Network → List (ℕ → ℤ) → List Frame → Type 0) → Type 0
OfEachRun s body fact = (side : Side) (n : Network) → network_at s.networks side ≡ Some n → (run : ℕ) → run < runs_of s
    → (steps : List Frame) → IsRun n (at_rest n) (inputs_on s body run n) steps → fact n (inputs_on s body run n) steps

-- ---- where their energy went

-- these are the totals of all their frames, by the side of the network and the number of the run: of each run of each
-- network, and of no other
abbrev pub HasTotals : Setting → List ℕ → (totals : Side → ℕ → Option Totals) → Type 0
HasTotals s body totals = AreRunTotals s.networks s.plan.guard (runs_of s) (samples_in s body) totals

-- ---- what is told of the frames of body besides their wave

pub record TellsRun (s : Setting) (body : List ℕ) (limited : ℕ) (totals : Side → ℕ → Option Totals) : Type 0 where
  -- how many of their output samples are limited
  pub counted : CountsLimited s body limited
  -- where the energy of each run went
  pub ledger : HasTotals s body totals
