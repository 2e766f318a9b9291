-- The answers of the command `run`, which filters the wave on the input by the netlist's networks, and tells of it on the
-- note. Its stages are the networks, the head of the wave, the bounds of words, the memory of the report and of the run,
-- the frames, and the note; an answer of a stage says that all stages before it were passed.
use Rattle.std.specs.Prelude.{◌≡◌, ℕ, ◌⊎◌, List, Option}
use Rattle.std.specs.Io.KnownBytes.{Appends}
use Rattle.wdf_io.specs.Moved.{AppendsPart}
use Rattle.wdf_wav.specs.declared.head.Head.{Head}
use Rattle.wdf_stages.specs.declared.open_stop.OpenStop.{OpenStop}
use Rattle.wdf_stages.specs.declared.open_stop.OpenStop.TheVariants as opens
use Rattle.wdf_stages.specs.declared.bound_stop.BoundStop.{BoundStop}
use Rattle.wdf_stages.specs.declared.bound_stop.BoundStop.TheVariants as bounds
use Rattle.wdf_stages.specs.declared.plan_bounds.PlanBounds.{PlanBounds}
use Rattle.wdf_stages.specs.Opening.{Terms, terms_of, Opens, OpenRefuses}
use Rattle.wdf_stages.specs.Bounding.{AreBounded, BoundRefuses}
use Rattle.wdf_bounds.specs.Plans.{PlanOf}
use Rattle.wdf_frames.specs.declared.frame_stop.FrameStop.{FrameStop}
use Rattle.wdf_frames.specs.declared.frame_stop.FrameStop.TheVariants as frames_
use Rattle.wdf_frames.specs.Setting.{Setting, setting}
use Rattle.wdf_frames.specs.RunStates.{IsReady}
use Rattle.wdf_frames.specs.WaveRuns.{WritesWave}
use Rattle.wdf_frames.specs.Stops.{FrameStops}
use Rattle.wdf_reporting.specs.Findings.{IsReport}
use Rattle.wdf_words.specs.declared.order.Order.{Order}
use Rattle.wdf_words.specs.Orders.{plan_for}
use Rattle.wdf_report.specs.declared.status.Status.{Status}
use Rattle.wdf_report.specs.declared.status.Status.TheVariants.{Bound, BadWave, RateMismatch, ChannelCount, TooLong, Amplitude, Truncated, ReadFault, WriteFault, NoteFault, NoMemory}
use Rattle.wdf.specs.declared.designed.Designed.{Designed}
use Rattle.wdf.specs.declared.begun.Begun.{Begun}
use Rattle.wdf.specs.declared.beginning_stop.BeginningStop.{BeginningStop}
use Rattle.wdf.specs.declared.beginning_stop.BeginningStop.TheVariants as begins
use Rattle.wdf.specs.declared.filtering_stop.FilteringStop.{FilteringStop}
use Rattle.wdf.specs.declared.filtering_stop.FilteringStop.TheVariants as stops
use Rattle.wdf.specs.RunNote.{IsNote}
use Rattle.wdf.specs.Runs.{KeepCertified, KeepEnergy, KeepKirchhoff, KeepWords, KeepsRuns}
use Rattle.wdf.specs.World.{World, KeepsOutput, KeepsNote}
use Rattle.wdf.specs.NetworksAnswer.{HasNetworks, AtNetworks, RefusesNetworks}

-- ---- what stands after the stages

-- what the run asks of its wave
abbrev pub terms_for : Order → Designed → Terms
terms_for o d = terms_of d.netlist o.frames

-- there are networks and a wave for them; `between` is the input behind its head
pub record Opened (w : World) (o : Order) (between : Option (List ℕ)) : Type 0 where
  pub design : Designed
  pub networks : HasNetworks w.files w.words o design
  pub head : Head
  pub opens : Opens (terms_for o design) w.left between head

-- the plan is for samples of the wave's width
abbrev pub plan_in : Order → Head → PlanOf
plan_in o head = plan_for o head.bits

-- and it fits the networks
pub record Prepared (w : World) (o : Order) (between : Option (List ℕ)) : Type 0 where
  pub opened : Opened w o between
  pub bounds : PlanBounds
  pub bounded : AreBounded opened.design.networks (plan_in o opened.head) bounds

-- what its frames are run by
abbrev pub setting_for : Order → Designed → Head → Setting
setting_for o d head = setting d.networks (plan_in o head) head

-- its report is made, and the memory of the run is taken
pub record HasBegun (w : World) (o : Order) (between : Option (List ℕ)) (b : Begun) : Type 0 where
  pub prepared : Prepared w o between
  pub report : IsReport prepared.opened.design.netlist prepared.opened.design.networks (plan_in o prepared.opened.head) b.report.items
  pub frames : b.frames ≡ prepared.opened.head.frames
  pub ready : IsReady (setting_for o prepared.opened.design prepared.opened.head) b.wave_run
  pub keeps : KeepsRuns (setting_for o prepared.opened.design prepared.opened.head)

-- the output gained the wave of the load waves, and this is the note's text
pub record HasFiltered (w : World) (o : Order) (text : List ℕ) : Type 0 where
  pub between : Option (List ℕ)
  pub prepared : Prepared w o between
  pub writes : WritesWave (setting_for o prepared.opened.design prepared.opened.head) between w.left' w.written w.written'
  pub note : IsNote prepared.opened.design.netlist (setting_for o prepared.opened.design prepared.opened.head) writes.body text

-- ---- where it stops

-- at the head of the wave
pub record AtOpen (w : World) (o : Order) (stop : OpenStop) : Type 0 where
  pub design : Designed
  pub networks : HasNetworks w.files w.words o design
  pub refuses : OpenRefuses (terms_for o design) w.left w.left' stop
  pub output : KeepsOutput w
  pub note : KeepsNote w

-- at the bounds: of the input only the head was read
pub record AtBounds (w : World) (o : Order) (stop : BoundStop) : Type 0 where
  pub opened : Opened w o w.left'
  pub refuses : BoundRefuses opened.design.netlist.form opened.design.networks (plan_in o opened.head) stop
  pub output : KeepsOutput w
  pub note : KeepsNote w

-- for want of memory, for the report or for the run
pub record AtMemory (w : World) (o : Order) : Type 0 where
  pub prepared : Prepared w o w.left'
  pub output : KeepsOutput w
  pub note : KeepsNote w

-- at the frames: the stop says what was read behind the head and what the output gained
pub record AtFrames (w : World) (o : Order) (stop : FrameStop) : Type 0 where
  pub between : Option (List ℕ)
  pub prepared : Prepared w o between
  pub stopped : FrameStops (setting_for o prepared.opened.design prepared.opened.head) between w.left' w.written w.written' stop
  pub note : KeepsNote w

-- at the note, which gained a front of its text
pub record AtNote (w : World) (o : Order) : Type 0 where
  pub text : List ℕ
  pub filtered : HasFiltered w o text
  pub note : AppendsPart w.noted w.noted' text

-- nowhere: the output gained the wave of the load waves, and the note its text. In every run on the frames that were read
-- Kirchhoff's laws hold, no energy was gained and every word kept its bound; and no state returns of a network that the note
-- tells to be certified.
pub record DoneRun (w : World) (o : Order) : Type 0 where
  pub text : List ℕ
  pub filtered : HasFiltered w o text
  pub note : Appends w.noted w.noted' text
  pub kirchhoff : KeepKirchhoff (setting_for o filtered.prepared.opened.design filtered.prepared.opened.head) filtered.writes.body
  pub energy : KeepEnergy (setting_for o filtered.prepared.opened.design filtered.prepared.opened.head) filtered.writes.body
  pub words : KeepWords (setting_for o filtered.prepared.opened.design filtered.prepared.opened.head) filtered.writes.body
  pub certified : KeepCertified (setting_for o filtered.prepared.opened.design filtered.prepared.opened.head) filtered.note.certified

-- by the stages' stops
abbrev pub BeginningStops : World → Order → BeginningStop → Type 0
BeginningStops w o (begins.Networks stop) = AtNetworks w o stop
BeginningStops w o (begins.Open stop) = AtOpen w o stop
BeginningStops w o (begins.Bound stop) = AtBounds w o stop
BeginningStops w o begins.NoMemory = AtMemory w o

abbrev pub RunStops : World → Order → FilteringStop → Type 0
RunStops w o (stops.Begin stop) = BeginningStops w o stop
RunStops w o (stops.Frame stop) = AtFrames w o stop
RunStops w o stops.Note = AtNote w o

-- ---- its rows of the table of answers

abbrev pub RefusesRun : World → Order → Status → Type 0
RefusesRun w o (BadWave kind at) = AtOpen w o (opens.BadWave kind at)
RefusesRun w o (RateMismatch netlist wave) = AtOpen w o (opens.RateMismatch netlist wave)
RefusesRun w o (ChannelCount have want) = AtOpen w o (opens.ChannelCount have want)
RefusesRun w o (TooLong frames limit) = AtOpen w o (opens.TooLong frames limit)
RefusesRun w o (Bound side element ratio need limit) = AtBounds w o (bounds.Bound side element ratio need limit)
RefusesRun w o (Amplitude frame channel sample) = AtFrames w o (frames_.Amplitude frame channel sample)
RefusesRun w o (Truncated frames) = AtFrames w o (frames_.Truncated frames)
RefusesRun w o ReadFault = AtOpen w o opens.ReadFault ⊎ AtFrames w o frames_.ReadFault
RefusesRun w o WriteFault = AtFrames w o frames_.WriteFault
RefusesRun w o NoteFault = AtNote w o
RefusesRun w o NoMemory = RefusesNetworks w o NoMemory ⊎ (AtBounds w o bounds.NoMemory ⊎ AtMemory w o)
RefusesRun w o s = RefusesNetworks w o s
