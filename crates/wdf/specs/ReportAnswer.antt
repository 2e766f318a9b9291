-- The answers of the command `report`, which writes what the netlist becomes under the plan that the words say. Its
-- stages are the networks, the bounds of words, the text and its write; it neither reads the input nor writes the note.
use Rattle.std.specs.Prelude.{ℕ, ◌⊎◌, List}
use Rattle.std.specs.Io.KnownBytes.{Appends}
use Rattle.wdf_io.specs.Moved.{AppendsPart}
use Rattle.wdf_bounds.specs.Plans.{PlanOf}
use Rattle.wdf_stages.specs.declared.bound_stop.BoundStop.{BoundStop}
use Rattle.wdf_stages.specs.declared.bound_stop.BoundStop.TheVariants as bounds
use Rattle.wdf_stages.specs.declared.plan_bounds.PlanBounds.{PlanBounds}
use Rattle.wdf_stages.specs.Bounding.{AreBounded, BoundRefuses}
use Rattle.wdf_reporting.specs.Findings.{IsReport}
use Rattle.wdf_words.specs.declared.order.Order.{Order}
use Rattle.wdf_words.specs.Orders.{plan_for}
use Rattle.wdf_report.specs.declared.status.Status.{Status}
use Rattle.wdf_report.specs.declared.status.Status.TheVariants.{Bound, WriteFault, NoMemory}
use Rattle.wdf.specs.declared.designed.Designed.{Designed}
use Rattle.wdf.specs.declared.reporting_stop.ReportingStop.{ReportingStop}
use Rattle.wdf.specs.declared.reporting_stop.ReportingStop.TheVariants as stops
use Rattle.wdf.specs.World.{World, KeepsInput, KeepsNote, IsQuiet}
use Rattle.wdf.specs.NetworksAnswer.{HasNetworks, AtNetworks, RefusesNetworks}

-- the plan is for samples of the width that the words say
abbrev pub report_plan : Order → PlanOf
report_plan o = plan_for o o.bits

-- it fits the networks
pub record Planned (w : World) (o : Order) : Type 0 where
  pub design : Designed
  pub networks : HasNetworks w.files w.words o design
  pub bounds : PlanBounds
  pub bounded : AreBounded design.networks (report_plan o) bounds

-- and this is their report
pub record HasReport (w : World) (o : Order) (text : List ℕ) : Type 0 where
  pub planned : Planned w o
  pub report : IsReport planned.design.netlist planned.design.networks (report_plan o) text

-- the output gained it
pub record DoneReport (w : World) (o : Order) : Type 0 where
  pub text : List ℕ
  pub has : HasReport w o text
  pub input : KeepsInput w
  pub output : Appends w.written w.written' text
  pub note : KeepsNote w

-- the plan does not fit the networks
pub record AtReportBounds (w : World) (o : Order) (stop : BoundStop) : Type 0 where
  pub design : Designed
  pub networks : HasNetworks w.files w.words o design
  pub refuses : BoundRefuses design.netlist.form design.networks (report_plan o) stop
  pub quiet : IsQuiet w

-- there was no memory for the text
pub record AtReportMemory (w : World) (o : Order) : Type 0 where
  pub planned : Planned w o
  pub quiet : IsQuiet w

-- the write of the text failed
pub record AtReportWrite (w : World) (o : Order) : Type 0 where
  pub text : List ℕ
  pub has : HasReport w o text
  pub input : KeepsInput w
  pub output : AppendsPart w.written w.written' text
  pub note : KeepsNote w

-- where the command stopped
abbrev pub ReportStops : World → Order → ReportingStop → Type 0
ReportStops w o (stops.Networks stop) = AtNetworks w o stop
ReportStops w o (stops.Bound stop) = AtReportBounds w o stop
ReportStops w o stops.NoMemory = AtReportMemory w o
ReportStops w o stops.Write = AtReportWrite w o

-- its rows of the table of answers
abbrev pub RefusesReport : World → Order → Status → Type 0
RefusesReport w o (Bound side element ratio need limit) = AtReportBounds w o (bounds.Bound side element ratio need limit)
RefusesReport w o WriteFault = AtReportWrite w o
RefusesReport w o NoMemory = RefusesNetworks w o NoMemory ⊎ (AtReportBounds w o bounds.NoMemory ⊎ AtReportMemory w o)
RefusesReport w o s = RefusesNetworks w o s
