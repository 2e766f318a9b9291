-- The stages of `soak` as a chain: the networks of the ladder that is made, and the bounds of their words.
use Rattle.std.proofs.Common.{◌≡◌, Result, refl}
use Rattle.std.specs.Prelude.{IsTrue}
use Rattle.wdf_lattice.specs.declared.networks.Networks.{Networks}
use Rattle.wdf_design.specs.Designs.{IsDesigned}
use Rattle.wdf_made.specs.Ladder.{made_netlist}
use Rattle.wdf_soak.specs.Soaks.{usual_plan}
use Rattle.wdf_stages.specs.declared.bound_stop.BoundStop.{BoundStop}
use Rattle.wdf_stages.specs.declared.bound_stop.BoundStop.TheVariants as bounds
use Rattle.wdf_stages.specs.declared.design_stop.DesignStop.{DesignStop}
use Rattle.wdf_stages.specs.declared.design_stop.DesignStop.TheVariants as designs
use Rattle.wdf_stages.specs.declared.plan_bounds.PlanBounds.{PlanBounds}
use Rattle.wdf_stages.specs.Bounding.{AreBounded}
use Rattle.wdf_stages.specs.StageLaws.{IsBoundAnswer, IsDesignAnswer, HasOneBound, HasOneDesign}
use Rattle.wdf_report.specs.declared.status.Status.{Status}
use Rattle.wdf_report.specs.declared.status.Status.TheVariants.{Done, Usage, NetText, NotSeriesParallel, PortRange, Bound, BadWave, RateMismatch, TooLong, Amplitude, Truncated, Unobservable, CertText, CertWrong, ReadFault, WriteFault, NoteFault, LoadFault, Missing, FileTooLarge, NoMemory, ChannelCount}
use Rattle.wdf_words.specs.declared.order.Order.{Order}
use Rattle.wdf.specs.World.{World}
use Rattle.wdf.specs.Statuses.{status_of_bound, status_of_design}
use Rattle.wdf.specs.AnswerLaws.{rests_on_told}
use Rattle.wdf.specs.SoakAnswer.{DoneSoak, RefusesSoak}
use Rattle.wdf.proofs.Chains.{HasOne, Chain, one_chain, one_value, stopped, passed}
use Rattle.wdf.proofs.NetworksTrace.{no}

abbrev IsLadderDesign : Order → Result Networks DesignStop → Type 0
IsLadderDesign o = IsDesignAnswer (made_netlist o.seed o.order) usual_plan.k

abbrev IsLadderBound : Order → Networks → Result PlanBounds BoundStop → Type 0
IsLadderBound o ns = IsBoundAnswer (made_netlist o.seed o.order).form ns usual_plan

abbrev SoakLater : Order → Networks → Status → Type 0
SoakLater o ns = Chain (IsLadderBound o ns) (λ b s. s ≡ Done) status_of_bound

abbrev pub SoakTrace : Order → Status → Type 0
SoakTrace o = Chain (IsLadderDesign o) (SoakLater o) status_of_design

pub one_soak : HasOneDesign → HasOneBound → (o : Order) → HasOne (SoakTrace o)
one_soak one_design one_bound o =
    one_chain (IsLadderDesign o) (SoakLater o) status_of_design (one_design (made_netlist o.seed o.order) usual_plan.k)
    (λ ns designed. one_chain (IsLadderBound o ns) (λ b s. s ≡ Done) status_of_bound (one_bound (made_netlist o.seed o.order).form ns usual_plan) (λ b bounded. one_value Done))

pub soaked : (o : Order) (ns : Networks) (b : PlanBounds) → IsDesigned (made_netlist o.seed o.order) usual_plan.k ns → AreBounded ns usual_plan b → SoakTrace o Done
soaked o ns b designed bounded =
    passed (IsLadderDesign o) (SoakLater o) status_of_design ns Done designed
    (passed (IsLadderBound o ns) (λ b s. s ≡ Done) status_of_bound b Done bounded refl)

pub soak_done : (w : World) (o : Order) → DoneSoak w o → SoakTrace o Done
soak_done w o h = soaked o h.soaked.networks h.soaked.bounds h.soaked.designed h.soaked.bounded

pub soak_trace : (w : World) (o : Order) (s : Status) → IsTrue (rests_on_told s) → RefusesSoak w o s → SoakTrace o s
soak_trace w o Done r h = absurd h
soak_trace w o (Usage word kind) r h = absurd h
soak_trace w o (NetText fault) r h = absurd h
soak_trace w o (NotSeriesParallel side element core) r h = absurd h
soak_trace w o (PortRange side element low) r h =
    stopped (IsLadderDesign o) (SoakLater o) status_of_design (designs.PortRange side element low) (refl, h.refuses)
soak_trace w o (Bound side element ratio need limit) r h =
    let ns = h.refuses.0 in
    passed (IsLadderDesign o) (SoakLater o) status_of_design ns (Bound side element ratio need limit) h.refuses.1
    (stopped (IsLadderBound o ns) (λ b s. s ≡ Done) status_of_bound (bounds.Bound side element ratio need limit) (refl, h.refuses.2))
soak_trace w o (BadWave kind at) r h = absurd h
soak_trace w o (RateMismatch netlist wave) r h = absurd h
soak_trace w o (TooLong frames limit) r h = absurd h
soak_trace w o (Amplitude frame channel sample) r h = absurd h
soak_trace w o (Truncated frames) r h = absurd h
soak_trace w o (Unobservable side element kernel) r h = absurd h
soak_trace w o (CertText at range) r h = absurd h
soak_trace w o (CertWrong side fault) r h = absurd h
soak_trace w o ReadFault r h = absurd h
soak_trace w o WriteFault r h = absurd (no r)
soak_trace w o NoteFault r h = absurd h
soak_trace w o LoadFault r h = absurd h
soak_trace w o (Missing word) r h = absurd h
soak_trace w o (FileTooLarge word) r h = absurd h
soak_trace w o NoMemory r h = absurd (no r)
soak_trace w o (ChannelCount have want) r h = absurd h
