-- From where a command stopped to its row of the table of answers.
use Rattle.std.proofs.Common.{inl, inr}
use Rattle.wdf_stages.specs.declared.netlist_stop.NetlistStop.TheVariants as netlists
use Rattle.wdf_stages.specs.declared.design_stop.DesignStop.TheVariants as designs
use Rattle.wdf_stages.specs.declared.open_stop.OpenStop.TheVariants as opens
use Rattle.wdf_stages.specs.declared.bound_stop.BoundStop.TheVariants as bounds
use Rattle.wdf_soak.specs.declared.soak_stop.SoakStop.TheVariants as soaks
use Rattle.wdf_frames.specs.declared.frame_stop.FrameStop.TheVariants as frames_
use Rattle.wdf_certificates.specs.declared.certify_stop.CertifyStop.TheVariants as certifies
use Rattle.wdf_certificates.specs.declared.load_stop.LoadStop.TheVariants as loads
use Rattle.wdf_certificates.specs.declared.check_stop.CheckStop.TheVariants as checks
use Rattle.wdf_words.specs.declared.order.Order.{Order}
use Rattle.wdf.specs.declared.networks_stop.NetworksStop.TheVariants.{Netlist, Design}
use Rattle.wdf.specs.declared.certifying_stop.CertifyingStop.{CertifyingStop}
use Rattle.wdf.specs.declared.certifying_stop.CertifyingStop.TheVariants as certifying
use Rattle.wdf.specs.declared.checking_stop.CheckingStop.{CheckingStop}
use Rattle.wdf.specs.declared.checking_stop.CheckingStop.TheVariants as checking
use Rattle.wdf.specs.declared.reporting_stop.ReportingStop.{ReportingStop}
use Rattle.wdf.specs.declared.reporting_stop.ReportingStop.TheVariants as reporting
use Rattle.wdf.specs.declared.beginning_stop.BeginningStop.{BeginningStop}
use Rattle.wdf.specs.declared.beginning_stop.BeginningStop.TheVariants as beginning
use Rattle.wdf.specs.declared.soaking_stop.SoakingStop.{SoakingStop}
use Rattle.wdf.specs.declared.soaking_stop.SoakingStop.TheVariants as soaking
use Rattle.wdf.specs.declared.filtering_stop.FilteringStop.{FilteringStop}
use Rattle.wdf.specs.declared.filtering_stop.FilteringStop.TheVariants as filtering
use Rattle.wdf.specs.World.{World}
use Rattle.wdf.specs.Statuses.{status_of_certifying, status_of_checking, status_of_reporting, status_of_beginning, status_of_filtering, status_of_soaking}
use Rattle.wdf.specs.CertifyAnswer.{CertifyStops, RefusesCertify}
use Rattle.wdf.specs.CheckAnswer.{CheckStops, RefusesCheck}
use Rattle.wdf.specs.ReportAnswer.{ReportStops, RefusesReport}
use Rattle.wdf.specs.RunAnswer.{BeginningStops, RunStops, RefusesRun}
use Rattle.wdf.specs.SoakAnswer.{SoakStops, RefusesSoak}

-- ---- `certify`

pub certify_row : (w : World) (o : Order) (stop : CertifyingStop) → CertifyStops w o stop → RefusesCertify w o (status_of_certifying stop)
certify_row w o (certifying.Networks (Netlist (netlists.Missing word))) h = h
certify_row w o (certifying.Networks (Netlist (netlists.FileTooLarge word))) h = h
certify_row w o (certifying.Networks (Netlist (netlists.NetText fault))) h = h
certify_row w o (certifying.Networks (Netlist netlists.LoadFault)) h = h
certify_row w o (certifying.Networks (Netlist netlists.NoMemory)) h = inl (inl h)
certify_row w o (certifying.Networks (Design (designs.NotSeriesParallel side element core))) h = h
certify_row w o (certifying.Networks (Design (designs.PortRange side element low))) h = h
certify_row w o (certifying.Networks (Design designs.NoMemory)) h = inl (inr h)
certify_row w o (certifying.Certify (certifies.Unobservable side element kernel)) h = h
certify_row w o (certifying.Certify certifies.NoMemory) h = inr h
certify_row w o certifying.Write h = h

-- ---- `check`

pub check_row : (w : World) (o : Order) (stop : CheckingStop) → CheckStops w o stop → RefusesCheck w o (status_of_checking stop)
check_row w o (checking.Networks (Netlist (netlists.Missing word))) h = inl h
check_row w o (checking.Networks (Netlist (netlists.FileTooLarge word))) h = inl h
check_row w o (checking.Networks (Netlist (netlists.NetText fault))) h = h
check_row w o (checking.Networks (Netlist netlists.LoadFault)) h = inl h
check_row w o (checking.Networks (Netlist netlists.NoMemory)) h = inl (inl h)
check_row w o (checking.Networks (Design (designs.NotSeriesParallel side element core))) h = h
check_row w o (checking.Networks (Design (designs.PortRange side element low))) h = h
check_row w o (checking.Networks (Design designs.NoMemory)) h = inl (inr h)
check_row w o (checking.Load (loads.Missing word)) h = inr h
check_row w o (checking.Load (loads.FileTooLarge word)) h = inr h
check_row w o (checking.Load (loads.CertText at range)) h = h
check_row w o (checking.Load loads.LoadFault) h = inr h
check_row w o (checking.Load loads.NoMemory) h = inr (inl h)
check_row w o (checking.Check (checks.CertWrong side fault)) h = h
check_row w o (checking.Check checks.NoMemory) h = inr (inr h)
check_row w o checking.Write h = h

-- ---- `report`

pub report_row : (w : World) (o : Order) (stop : ReportingStop) → ReportStops w o stop → RefusesReport w o (status_of_reporting stop)
report_row w o (reporting.Networks (Netlist (netlists.Missing word))) h = h
report_row w o (reporting.Networks (Netlist (netlists.FileTooLarge word))) h = h
report_row w o (reporting.Networks (Netlist (netlists.NetText fault))) h = h
report_row w o (reporting.Networks (Netlist netlists.LoadFault)) h = h
report_row w o (reporting.Networks (Netlist netlists.NoMemory)) h = inl (inl h)
report_row w o (reporting.Networks (Design (designs.NotSeriesParallel side element core))) h = h
report_row w o (reporting.Networks (Design (designs.PortRange side element low))) h = h
report_row w o (reporting.Networks (Design designs.NoMemory)) h = inl (inr h)
report_row w o (reporting.Bound (bounds.Bound side element ratio need limit)) h = h
report_row w o (reporting.Bound bounds.NoMemory) h = inr (inl h)
report_row w o reporting.NoMemory h = inr (inr h)
report_row w o reporting.Write h = h

-- ---- `run`

begin_row : (w : World) (o : Order) (stop : BeginningStop) → BeginningStops w o stop → RefusesRun w o (status_of_beginning stop)
begin_row w o (beginning.Networks (Netlist (netlists.Missing word))) h = h
begin_row w o (beginning.Networks (Netlist (netlists.FileTooLarge word))) h = h
begin_row w o (beginning.Networks (Netlist (netlists.NetText fault))) h = h
begin_row w o (beginning.Networks (Netlist netlists.LoadFault)) h = h
begin_row w o (beginning.Networks (Netlist netlists.NoMemory)) h = inl (inl h)
begin_row w o (beginning.Networks (Design (designs.NotSeriesParallel side element core))) h = h
begin_row w o (beginning.Networks (Design (designs.PortRange side element low))) h = h
begin_row w o (beginning.Networks (Design designs.NoMemory)) h = inl (inr h)
begin_row w o (beginning.Open (opens.BadWave kind at)) h = h
begin_row w o (beginning.Open (opens.RateMismatch netlist wave)) h = h
begin_row w o (beginning.Open (opens.ChannelCount have want)) h = h
begin_row w o (beginning.Open (opens.TooLong frames limit)) h = h
begin_row w o (beginning.Open opens.ReadFault) h = inl h
begin_row w o (beginning.Bound (bounds.Bound side element ratio need limit)) h = h
begin_row w o (beginning.Bound bounds.NoMemory) h = inr (inl h)
begin_row w o beginning.NoMemory h = inr (inr h)

pub run_row : (w : World) (o : Order) (stop : FilteringStop) → RunStops w o stop → RefusesRun w o (status_of_filtering stop)
run_row w o (filtering.Begin stop) h = begin_row w o stop h
run_row w o (filtering.Frame (frames_.Amplitude frame channel sample)) h = h
run_row w o (filtering.Frame (frames_.Truncated frames)) h = h
run_row w o (filtering.Frame frames_.ReadFault) h = inr h
run_row w o (filtering.Frame frames_.WriteFault) h = h
run_row w o filtering.Note h = h

-- ---- `soak`

pub soak_row : (w : World) (o : Order) (stop : SoakingStop) → SoakStops w o stop → RefusesSoak w o (status_of_soaking stop)
soak_row w o (soaking.Soak (soaks.PortRange side element low)) h = h
soak_row w o (soaking.Soak (soaks.Bound side element ratio need limit)) h = h
soak_row w o (soaking.Soak soaks.NoMemory) h = h
soak_row w o soaking.Write h = h
