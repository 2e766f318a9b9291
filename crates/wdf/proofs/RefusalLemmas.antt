-- What holds of every refusal: it is not `Done`, and it has a fault line.
use Rattle.std.proofs.Common.{Option, None, Some, Result, Ok, Err, inl, inr}
use Rattle.std.specs.Prelude.{◌≢◌}
use Rattle.wdf_check.specs.Certificate.{Certificate}
use Rattle.wdf_check.specs.declared.cert_fault.CertFault.{CertFault}
use Rattle.wdf_check.specs.declared.cert_fault.CertFault.TheVariants as faults
use Rattle.wdf_law.specs.declared.side.Side.{Side}
use Rattle.wdf_lattice.specs.declared.networks.Networks.{Networks}
use Rattle.wdf_lattice.specs.declared.networks.Networks.TheVariants.{Ladder, Lattice}
use Rattle.wdf_certificates.specs.declared.check_stop.CheckStop.TheVariants as checks
use Rattle.wdf_certificates.specs.CertChecking.{CheckRefuses}
use Rattle.wdf_report.specs.declared.status.Status.{Status}
use Rattle.wdf_report.specs.declared.status.Status.TheVariants.{Done, Usage, NetText, NotSeriesParallel, PortRange, Bound, BadWave, RateMismatch, TooLong, Amplitude, Truncated, Unobservable, CertText, CertWrong, ReadFault, WriteFault, NoteFault, LoadFault, Missing, FileTooLarge, NoMemory, ChannelCount}
use Rattle.wdf_report.specs.FaultLine.{HasFaultLine}
use Rattle.wdf_words.specs.declared.command.Command.{Command}
use Rattle.wdf_words.specs.declared.command.Command.TheVariants as commands
use Rattle.wdf_words.specs.declared.order.Order.{Order}
use Rattle.wdf_words.specs.declared.usage_fault.UsageFault.{UsageFault}
use Rattle.wdf.specs.World.{World}
use Rattle.wdf.specs.Answer.{RefusesOrder, RefusesWords}

-- ---- `Done` is no refusal

order_not_done : (c : Command) (w : World) (o : Order) → RefusesOrder c w o Done → ⊥
order_not_done commands.Run w o h = h
order_not_done commands.Certify w o h = h
order_not_done commands.Check w o h = h
order_not_done commands.Report w o h = h
order_not_done commands.Soak w o h = h

pub not_done : (m : Result Order UsageFault) (w : World) → RefusesWords m w Done → ⊥
not_done (Ok o) w h = order_not_done o.command w o h
not_done (Err fault) w h = let e = h.is in absurd (cc)

-- ---- a certificate is never refused for want of memory

wrong_line : (ns : Networks) (first : Certificate) (second : Option Certificate) (side : Side) (fault : CertFault)
    → CheckRefuses ns first second (checks.CertWrong side fault) → fault ≢ faults.NoMemory
wrong_line (Ladder n) first None side fault h = h.1.memory
wrong_line (Ladder n) first (Some second) side fault h = λ e. let wrong = h.1 in absurd (cc)
wrong_line (Lattice a b) first None side fault h = λ e. let wrong = h.1 in absurd (cc)
wrong_line (Lattice a b) first (Some second) side fault (inl h) = h.1.memory
wrong_line (Lattice a b) first (Some second) side fault (inr h) = h.2.memory

order_line : (c : Command) (w : World) (o : Order) (side : Side) (fault : CertFault) → RefusesOrder c w o (CertWrong side fault) → fault ≢ faults.NoMemory
order_line commands.Run w o side fault h = absurd h
order_line commands.Certify w o side fault h = absurd h
order_line commands.Check w o side fault h = wrong_line h.has.design.networks h.has.certs.first h.has.certs.second side fault h.refuses
order_line commands.Report w o side fault h = absurd h
order_line commands.Soak w o side fault h = absurd h

words_line : (m : Result Order UsageFault) (w : World) (side : Side) (fault : CertFault) → RefusesWords m w (CertWrong side fault) → fault ≢ faults.NoMemory
words_line (Ok o) w side fault h = order_line o.command w o side fault h
words_line (Err usage) w side fault h = let e = h.is in absurd (cc)

pub has_line : (m : Result Order UsageFault) (w : World) (s : Status) → RefusesWords m w s → HasFaultLine s
has_line m w Done h = tt
has_line m w (Usage word kind) h = tt
has_line m w (NetText fault) h = tt
has_line m w (NotSeriesParallel side element core) h = tt
has_line m w (PortRange side element low) h = tt
has_line m w (Bound side element ratio need limit) h = tt
has_line m w (BadWave kind at) h = tt
has_line m w (RateMismatch netlist wave) h = tt
has_line m w (TooLong frames limit) h = tt
has_line m w (Amplitude frame channel sample) h = tt
has_line m w (Truncated frames) h = tt
has_line m w (Unobservable side element kernel) h = tt
has_line m w (CertText at range) h = tt
has_line m w (CertWrong side fault) h = words_line m w side fault h
has_line m w ReadFault h = tt
has_line m w WriteFault h = tt
has_line m w NoteFault h = tt
has_line m w LoadFault h = tt
has_line m w (Missing word) h = tt
has_line m w (FileTooLarge word) h = tt
has_line m w NoMemory h = tt
has_line m w (ChannelCount have want) h = tt
