-- The answers that the stages' stops become, each with the data of its stop.
use Rattle.wdf_report.specs.declared.status.Status.{Status}
use Rattle.wdf_report.specs.declared.status.Status.TheVariants.{Usage, NetText, NotSeriesParallel, PortRange, Bound, BadWave, RateMismatch, ChannelCount, TooLong, Amplitude, Truncated, Unobservable, CertText, CertWrong, ReadFault, WriteFault, NoteFault, LoadFault, Missing, FileTooLarge, NoMemory}
use Rattle.wdf_words.specs.declared.usage_fault.UsageFault.{UsageFault}
use Rattle.wdf_stages.specs.declared.netlist_stop.NetlistStop.{NetlistStop}
use Rattle.wdf_stages.specs.declared.netlist_stop.NetlistStop.TheVariants as netlists
use Rattle.wdf_stages.specs.declared.design_stop.DesignStop.{DesignStop}
use Rattle.wdf_stages.specs.declared.design_stop.DesignStop.TheVariants as designs
use Rattle.wdf_certificates.specs.declared.certify_stop.CertifyStop.{CertifyStop}
use Rattle.wdf_certificates.specs.declared.certify_stop.CertifyStop.TheVariants as certifies
use Rattle.wdf_certificates.specs.declared.load_stop.LoadStop.{LoadStop}
use Rattle.wdf_certificates.specs.declared.load_stop.LoadStop.TheVariants as loads
use Rattle.wdf_certificates.specs.declared.check_stop.CheckStop.{CheckStop}
use Rattle.wdf_certificates.specs.declared.check_stop.CheckStop.TheVariants as checks
use Rattle.wdf_stages.specs.declared.open_stop.OpenStop.{OpenStop}
use Rattle.wdf_stages.specs.declared.open_stop.OpenStop.TheVariants as opens
use Rattle.wdf_stages.specs.declared.bound_stop.BoundStop.{BoundStop}
use Rattle.wdf_stages.specs.declared.bound_stop.BoundStop.TheVariants as bounds
use Rattle.wdf_soak.specs.declared.soak_stop.SoakStop.{SoakStop}
use Rattle.wdf_soak.specs.declared.soak_stop.SoakStop.TheVariants as soaks
use Rattle.wdf_frames.specs.declared.frame_stop.FrameStop.{FrameStop}
use Rattle.wdf_frames.specs.declared.frame_stop.FrameStop.TheVariants as frames_
use Rattle.wdf.specs.declared.networks_stop.NetworksStop.{NetworksStop}
use Rattle.wdf.specs.declared.networks_stop.NetworksStop.TheVariants.{Netlist, Design}
use Rattle.wdf.specs.declared.certifying_stop.CertifyingStop.{CertifyingStop}
use Rattle.wdf.specs.declared.certifying_stop.CertifyingStop.TheVariants as certifying
use Rattle.wdf.specs.declared.checking_stop.CheckingStop.{CheckingStop}
use Rattle.wdf.specs.declared.checking_stop.CheckingStop.TheVariants as checking
use Rattle.wdf.specs.declared.reporting_stop.ReportingStop.{ReportingStop}
use Rattle.wdf.specs.declared.reporting_stop.ReportingStop.TheVariants as reporting
use Rattle.wdf.specs.declared.beginning_stop.BeginningStop.{BeginningStop}
use Rattle.wdf.specs.declared.beginning_stop.BeginningStop.TheVariants as beginning
use Rattle.wdf.specs.declared.soaking_stop.SoakingStop.{SoakingStop}
use Rattle.wdf.specs.declared.soaking_stop.SoakingStop.TheVariants as soaking
use Rattle.wdf.specs.declared.filtering_stop.FilteringStop.{FilteringStop}
use Rattle.wdf.specs.declared.filtering_stop.FilteringStop.TheVariants as filtering

abbrev pub status_of_usage : UsageFault → Status
status_of_usage fault = Usage fault.word fault.kind

abbrev pub status_of_netlist : NetlistStop → Status
status_of_netlist (netlists.Missing word) = Missing word
status_of_netlist (netlists.FileTooLarge word) = FileTooLarge word
status_of_netlist (netlists.NetText fault) = NetText fault
status_of_netlist netlists.LoadFault = LoadFault
status_of_netlist netlists.NoMemory = NoMemory

abbrev pub status_of_design : DesignStop → Status
status_of_design (designs.NotSeriesParallel side element core) = NotSeriesParallel side element core
status_of_design (designs.PortRange side element low) = PortRange side element low
status_of_design designs.NoMemory = NoMemory

abbrev pub status_of_networks : NetworksStop → Status
status_of_networks (Netlist stop) = status_of_netlist stop
status_of_networks (Design stop) = status_of_design stop

-- ---- the command `certify`

abbrev pub status_of_certify : CertifyStop → Status
status_of_certify (certifies.Unobservable side element kernel) = Unobservable side element kernel
status_of_certify certifies.NoMemory = NoMemory

abbrev pub status_of_certifying : CertifyingStop → Status
status_of_certifying (certifying.Networks stop) = status_of_networks stop
status_of_certifying (certifying.Certify stop) = status_of_certify stop
status_of_certifying certifying.Write = WriteFault

-- ---- the command `check`

abbrev pub status_of_load : LoadStop → Status
status_of_load (loads.Missing word) = Missing word
status_of_load (loads.FileTooLarge word) = FileTooLarge word
status_of_load (loads.CertText at range) = CertText at range
status_of_load loads.LoadFault = LoadFault
status_of_load loads.NoMemory = NoMemory

abbrev pub status_of_check : CheckStop → Status
status_of_check (checks.CertWrong side fault) = CertWrong side fault
status_of_check checks.NoMemory = NoMemory

abbrev pub status_of_checking : CheckingStop → Status
status_of_checking (checking.Networks stop) = status_of_networks stop
status_of_checking (checking.Load stop) = status_of_load stop
status_of_checking (checking.Check stop) = status_of_check stop
status_of_checking checking.Write = WriteFault

-- ---- the commands `report` and `run`

abbrev pub status_of_bound : BoundStop → Status
status_of_bound (bounds.Bound side element ratio need limit) = Bound side element ratio need limit
status_of_bound bounds.NoMemory = NoMemory

abbrev pub status_of_reporting : ReportingStop → Status
status_of_reporting (reporting.Networks stop) = status_of_networks stop
status_of_reporting (reporting.Bound stop) = status_of_bound stop
status_of_reporting reporting.NoMemory = NoMemory
status_of_reporting reporting.Write = WriteFault

abbrev pub status_of_open : OpenStop → Status
status_of_open (opens.BadWave kind at) = BadWave kind at
status_of_open (opens.RateMismatch netlist wave) = RateMismatch netlist wave
status_of_open (opens.ChannelCount have want) = ChannelCount have want
status_of_open (opens.TooLong frames limit) = TooLong frames limit
status_of_open opens.ReadFault = ReadFault

abbrev pub status_of_frame : FrameStop → Status
status_of_frame (frames_.Amplitude frame channel sample) = Amplitude frame channel sample
status_of_frame (frames_.Truncated frames) = Truncated frames
status_of_frame frames_.ReadFault = ReadFault
status_of_frame frames_.WriteFault = WriteFault

abbrev pub status_of_beginning : BeginningStop → Status
status_of_beginning (beginning.Networks stop) = status_of_networks stop
status_of_beginning (beginning.Open stop) = status_of_open stop
status_of_beginning (beginning.Bound stop) = status_of_bound stop
status_of_beginning beginning.NoMemory = NoMemory

abbrev pub status_of_filtering : FilteringStop → Status
status_of_filtering (filtering.Begin stop) = status_of_beginning stop
status_of_filtering (filtering.Frame stop) = status_of_frame stop
status_of_filtering filtering.Note = NoteFault

-- ---- the command `soak`

abbrev pub status_of_soak : SoakStop → Status
status_of_soak (soaks.PortRange side element low) = PortRange side element low
status_of_soak (soaks.Bound side element ratio need limit) = Bound side element ratio need limit
status_of_soak soaks.NoMemory = NoMemory

abbrev pub status_of_soaking : SoakingStop → Status
status_of_soaking (soaking.Soak stop) = status_of_soak stop
status_of_soaking soaking.Write = WriteFault
