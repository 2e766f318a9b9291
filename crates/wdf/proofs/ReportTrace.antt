-- The stages of `report` as a chain.
use Rattle.std.proofs.Common.{◌≡◌, ℕ, List, Option, Some, Err, refl}
use Rattle.std.specs.Prelude.{IsTrue}
use Rattle.wdf_io.specs.Files.{Files}
use Rattle.wdf_netlist.specs.Netlists.{NetlistValue}
use Rattle.wdf_lattice.specs.declared.networks.Networks.{Networks}
use Rattle.wdf_stages.specs.StageLaws.{HasOneNetlist, HasOneDesign}
use Rattle.wdf_report.specs.declared.status.Status.{Status}
use Rattle.wdf_report.specs.declared.status.Status.TheVariants.{Done, Usage, NetText, NotSeriesParallel, PortRange, Bound, BadWave, RateMismatch, TooLong, Amplitude, Truncated, Unobservable, CertText, CertWrong, ReadFault, WriteFault, NoteFault, LoadFault, Missing, FileTooLarge, NoMemory, ChannelCount}
use Rattle.wdf_words.specs.declared.order.Order.{Order}
use Rattle.wdf.specs.declared.designed.Designed.{Designed}
use Rattle.wdf.specs.World.{world}
use Rattle.wdf.specs.AnswerLaws.{rests_on_told}
use Rattle.wdf.proofs.Chains.{HasOne, Chain, one_chain, one_value, stopped, passed}
use Rattle.wdf.proofs.NetworksTrace.{NetworksTrace, one_trace, behind_networks, networks_trace, no}
use Rattle.wdf_stages.specs.declared.bound_stop.BoundStop.{BoundStop}
use Rattle.wdf_stages.specs.declared.bound_stop.BoundStop.TheVariants as bounds
use Rattle.wdf_stages.specs.declared.plan_bounds.PlanBounds.{PlanBounds}
use Rattle.wdf_stages.specs.Bounding.{AreBounded}
use Rattle.wdf_stages.specs.StageLaws.{IsBoundAnswer, HasOneBound}
use Rattle.wdf.specs.Statuses.{status_of_bound}
use Rattle.wdf.specs.NetworksAnswer.{HasNetworks}
use Rattle.wdf.specs.ReportAnswer.{DoneReport, AtReportBounds, RefusesReport, report_plan}

abbrev ReportLater : Order → NetlistValue → Networks → Status → Type 0
ReportLater o n ns = Chain (IsBoundAnswer n.form ns (report_plan o)) (λ b s. s ≡ Done) status_of_bound

abbrev pub ReportTrace : Files → List (List ℕ) → Order → Status → Type 0
ReportTrace fs words o = NetworksTrace fs words o (ReportLater o)

pub one_report : HasOneNetlist → HasOneDesign → HasOneBound → (fs : Files) (words : List (List ℕ)) (o : Order) → HasOne (ReportTrace fs words o)
one_report one_netlist one_design one_bound fs words o =
    one_trace one_netlist one_design fs words o (ReportLater o)
    (λ n ns. one_chain (IsBoundAnswer n.form ns (report_plan o)) (λ b s. s ≡ Done) status_of_bound (one_bound n.form ns (report_plan o)) (λ a allowed. one_value Done))

pub reported : (fs : Files) (words : List (List ℕ)) (o : Order) (d : Designed) (b : PlanBounds) → HasNetworks (Some fs) words o d → AreBounded d.networks (report_plan o) b
    → ReportTrace fs words o Done
reported fs words o d b networks h =
    behind_networks fs words o (ReportLater o) Done d networks
    (passed (IsBoundAnswer d.netlist.form d.networks (report_plan o)) (λ b s. s ≡ Done) status_of_bound b Done h refl)

at_report_bounds : (fs : Files) (words : List (List ℕ)) (left left' written written' noted noted' : Option (List ℕ)) (o : Order) (stop : BoundStop) (h : AtReportBounds (world words (Some fs) left left' written written' noted noted') o stop)
    → IsBoundAnswer h.design.netlist.form h.design.networks (report_plan o) (Err stop) → ReportTrace fs words o (status_of_bound stop)
at_report_bounds fs words left left' written written' noted noted' o stop h allowed =
    behind_networks fs words o (ReportLater o) (status_of_bound stop) h.design h.networks
    (stopped (IsBoundAnswer h.design.netlist.form h.design.networks (report_plan o)) (λ b s. s ≡ Done) status_of_bound stop allowed)

pub report_done : (fs : Files) (words : List (List ℕ)) (left left' written written' noted noted' : Option (List ℕ)) (o : Order) → DoneReport (world words (Some fs) left left' written written' noted noted') o → ReportTrace fs words o Done
report_done fs words left left' written written' noted noted' o h = reported fs words o h.has.planned.design h.has.planned.bounds h.has.planned.networks h.has.planned.bounded

pub report_trace : (fs : Files) (words : List (List ℕ)) (left left' written written' noted noted' : Option (List ℕ)) (o : Order) (s : Status)
    → IsTrue (rests_on_told s) → RefusesReport (world words (Some fs) left left' written written' noted noted') o s → ReportTrace fs words o s
report_trace fs words left left' written written' noted noted' o Done r h = networks_trace fs words left left' written written' noted noted' o (ReportLater o) Done r h
report_trace fs words left left' written written' noted noted' o (Usage word kind) r h = networks_trace fs words left left' written written' noted noted' o (ReportLater o) (Usage word kind) r h
report_trace fs words left left' written written' noted noted' o (NetText fault) r h = networks_trace fs words left left' written written' noted noted' o (ReportLater o) (NetText fault) r h
report_trace fs words left left' written written' noted noted' o (NotSeriesParallel side element core) r h = networks_trace fs words left left' written written' noted noted' o (ReportLater o) (NotSeriesParallel side element core) r h
report_trace fs words left left' written written' noted noted' o (PortRange side element low) r h = networks_trace fs words left left' written written' noted noted' o (ReportLater o) (PortRange side element low) r h
report_trace fs words left left' written written' noted noted' o (Bound side element ratio need limit) r h = at_report_bounds fs words left left' written written' noted noted' o (bounds.Bound side element ratio need limit) h (refl, h.refuses)
report_trace fs words left left' written written' noted noted' o (BadWave kind at) r h = networks_trace fs words left left' written written' noted noted' o (ReportLater o) (BadWave kind at) r h
report_trace fs words left left' written written' noted noted' o (RateMismatch netlist wave) r h = networks_trace fs words left left' written written' noted noted' o (ReportLater o) (RateMismatch netlist wave) r h
report_trace fs words left left' written written' noted noted' o (TooLong frames limit) r h = networks_trace fs words left left' written written' noted noted' o (ReportLater o) (TooLong frames limit) r h
report_trace fs words left left' written written' noted noted' o (Amplitude frame channel sample) r h = networks_trace fs words left left' written written' noted noted' o (ReportLater o) (Amplitude frame channel sample) r h
report_trace fs words left left' written written' noted noted' o (Truncated frames) r h = networks_trace fs words left left' written written' noted noted' o (ReportLater o) (Truncated frames) r h
report_trace fs words left left' written written' noted noted' o (Unobservable side element kernel) r h = networks_trace fs words left left' written written' noted noted' o (ReportLater o) (Unobservable side element kernel) r h
report_trace fs words left left' written written' noted noted' o (CertText at range) r h = networks_trace fs words left left' written written' noted noted' o (ReportLater o) (CertText at range) r h
report_trace fs words left left' written written' noted noted' o (CertWrong side fault) r h = networks_trace fs words left left' written written' noted noted' o (ReportLater o) (CertWrong side fault) r h
report_trace fs words left left' written written' noted noted' o ReadFault r h = absurd (no r)
report_trace fs words left left' written written' noted noted' o WriteFault r h = absurd (no r)
report_trace fs words left left' written written' noted noted' o NoteFault r h = absurd (no r)
report_trace fs words left left' written written' noted noted' o LoadFault r h = absurd (no r)
report_trace fs words left left' written written' noted noted' o (Missing word) r h = networks_trace fs words left left' written written' noted noted' o (ReportLater o) (Missing word) r h
report_trace fs words left left' written written' noted noted' o (FileTooLarge word) r h = networks_trace fs words left left' written written' noted noted' o (ReportLater o) (FileTooLarge word) r h
report_trace fs words left left' written written' noted noted' o NoMemory r h = absurd (no r)
report_trace fs words left left' written written' noted noted' o (ChannelCount have want) r h = networks_trace fs words left left' written written' noted noted' o (ReportLater o) (ChannelCount have want) r h
