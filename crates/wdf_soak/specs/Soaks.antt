-- What is told of a run on a ladder and a wave that were made for it.
use Rattle.std.specs.Prelude.{◌≡◌, ℕ, Bool, List, Option, Some, ⊤}
use Rattle.wdf_law.specs.declared.side.Side.{Side}
use Rattle.wdf_law.specs.declared.side.Side.TheVariants.{Whole}
use Rattle.wdf_law.specs.Network.{Network}
use Rattle.wdf_netlist.specs.Netlists.{NetlistValue}
use Rattle.wdf_bounds.specs.Plans.{PlanOf, plan_of}
use Rattle.wdf_lattice.specs.declared.networks.Networks.{Networks}
use Rattle.wdf_lattice.specs.Sides.{network_at}
use Rattle.wdf_design.specs.Designs.{IsDesigned}
use Rattle.wdf_stages.specs.declared.bound_stop.BoundStop.{BoundStop}
use Rattle.wdf_stages.specs.declared.bound_stop.BoundStop.TheVariants as bounds
use Rattle.wdf_stages.specs.declared.design_stop.DesignStop.TheVariants as designs
use Rattle.wdf_stages.specs.declared.plan_bounds.PlanBounds.{PlanBounds}
use Rattle.wdf_stages.specs.Bounding.{AreBounded, BoundRefuses}
use Rattle.wdf_stages.specs.Designing.{DesignRefuses}
use Rattle.wdf_energy.specs.declared.totals.Totals.{Totals}
use Rattle.wdf_frames.specs.Setting.{Setting, setting}
use Rattle.wdf_frames.specs.Written.{IsWritten}
use Rattle.wdf_frames.specs.RunFacts.{TellsRun}
use Rattle.wdf_reporting.specs.Findings.{IsFinding}
use Rattle.wdf_made.specs.Ladder.{made_netlist}
use Rattle.wdf_made.specs.Wave.{made_data, made_head}
use Rattle.wdf_soak.specs.declared.soak_stop.SoakStop.{SoakStop}
use Rattle.wdf_soak.specs.declared.soak_stop.SoakStop.TheVariants.{PortRange, Bound, NoMemory}
use Rattle.wdf_soak.specs.Figures.{figures_of, output_samples}
use Rattle.wdf_soak.specs.Summary.{summary_text}

-- the plan of a run of 16 bits that no operand changes
abbrev pub usual_plan : PlanOf
usual_plan = plan_of 14 4 0 67108864 32768 16

abbrev pub made_setting : Networks → (frames : ℕ) → Setting
made_setting ns frames = setting ns usual_plan (made_head frames)

-- ---- the certificate

-- whether the network of the whole circuit has a certificate
abbrev pub HasFinding : Networks → (certified : Bool) → Type 0
HasFinding ns certified = (n : Network) × (network_at ns Whole ≡ Some n) × IsFinding n certified

-- ---- the summary

-- the text is the summary of what a run of these networks writes on the made wave
pub record IsSummary (seed order frames : ℕ) (ns : Networks) (text : List ℕ) : Type 0 where
  pub network : Network
  pub whole : network_at ns Whole ≡ Some network
  pub certified : Bool
  pub found : IsFinding network certified
  -- the wave that the run writes
  pub wave : List ℕ
  pub written : IsWritten (made_setting ns frames) (made_data seed order frames) wave
  -- how many output samples are limited, and where the energy of each run went
  pub clipped : ℕ
  pub ledger : Side → ℕ → Option Totals
  pub told : TellsRun (made_setting ns frames) (made_data seed order frames) clipped ledger
  pub totals : Totals
  pub account : ledger Whole 0 ≡ Some totals
  pub summary : text ≡ summary_text seed order network certified frames clipped (figures_of (output_samples wave)) totals

-- the made ladder has networks, whose words the plan holds, and the text is their summary
pub record IsSoaked (seed order frames : ℕ) (text : List ℕ) : Type 0 where
  pub networks : Networks
  pub designed : IsDesigned (made_netlist seed order) usual_plan.k networks
  pub bounds : PlanBounds
  pub bounded : AreBounded networks usual_plan bounds
  pub summary : IsSummary seed order frames networks text

-- ---- why there is none

abbrev pub LadderRefuses : NetlistValue → SoakStop → Type 0
LadderRefuses n (PortRange side name low) = DesignRefuses n usual_plan.k (designs.PortRange side name low)
LadderRefuses n (Bound side name ratio need limit) = ⊥
LadderRefuses n NoMemory = ⊤

abbrev pub stop_of_words : BoundStop → SoakStop
stop_of_words (bounds.Bound side name ratio need limit) = Bound side name ratio need limit
stop_of_words bounds.NoMemory = NoMemory

abbrev pub WordsRefuse : NetlistValue → Networks → SoakStop → Type 0
WordsRefuse n ns (PortRange side name low) = ⊥
WordsRefuse n ns (Bound side name ratio need limit) = BoundRefuses n.form ns usual_plan (bounds.Bound side name ratio need limit)
WordsRefuse n ns NoMemory = ⊤

abbrev pub SoakRefuses : (seed order : ℕ) → SoakStop → Type 0
SoakRefuses seed order (PortRange side name low) = LadderRefuses (made_netlist seed order) (PortRange side name low)
SoakRefuses seed order (Bound side name ratio need limit) =
    (ns : Networks) × IsDesigned (made_netlist seed order) usual_plan.k ns × WordsRefuse (made_netlist seed order) ns (Bound side name ratio need limit)
SoakRefuses seed order NoMemory = ⊤
