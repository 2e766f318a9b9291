-- The answers of the command `soak`, which writes the summary of a run on a ladder and a wave that are made from the
-- numbers of a seed. It loads no file, reads no input and writes no note.
use Rattle.std.specs.Prelude.{ℕ, List}
use Rattle.std.specs.Io.KnownBytes.{Appends}
use Rattle.wdf_io.specs.Moved.{AppendsPart}
use Rattle.wdf_soak.specs.declared.soak_stop.SoakStop.{SoakStop}
use Rattle.wdf_soak.specs.declared.soak_stop.SoakStop.TheVariants as soaks
use Rattle.wdf_soak.specs.Soaks.{IsSoaked, SoakRefuses}
use Rattle.wdf_words.specs.declared.order.Order.{Order}
use Rattle.wdf_report.specs.declared.status.Status.{Status}
use Rattle.wdf_report.specs.declared.status.Status.TheVariants.{PortRange, Bound, WriteFault, NoMemory}
use Rattle.wdf.specs.declared.soaking_stop.SoakingStop.{SoakingStop}
use Rattle.wdf.specs.declared.soaking_stop.SoakingStop.TheVariants.{Soak, Write}
use Rattle.wdf.specs.World.{World, KeepsInput, KeepsNote, IsQuiet}

-- this is the summary for the seed, the order and the frames that the words say
abbrev pub IsSummaryFor : Order → List ℕ → Type 0
IsSummaryFor o text = IsSoaked o.seed o.order o.frames text

-- the output gained it
pub record DoneSoak (w : World) (o : Order) : Type 0 where
  pub text : List ℕ
  pub soaked : IsSummaryFor o text
  pub input : KeepsInput w
  pub output : Appends w.written w.written' text
  pub note : KeepsNote w

-- there is none
pub record AtSoak (w : World) (o : Order) (stop : SoakStop) : Type 0 where
  pub refuses : SoakRefuses o.seed o.order stop
  pub quiet : IsQuiet w

-- the write of the summary failed
pub record AtSoakWrite (w : World) (o : Order) : Type 0 where
  pub text : List ℕ
  pub soaked : IsSummaryFor o text
  pub input : KeepsInput w
  pub output : AppendsPart w.written w.written' text
  pub note : KeepsNote w

-- where the command stopped
abbrev pub SoakStops : World → Order → SoakingStop → Type 0
SoakStops w o (Soak stop) = AtSoak w o stop
SoakStops w o Write = AtSoakWrite w o

-- its rows of the table of answers, and no other answer
abbrev pub RefusesSoak : World → Order → Status → Type 0
RefusesSoak w o (PortRange side element low) = AtSoak w o (soaks.PortRange side element low)
RefusesSoak w o (Bound side element ratio need limit) = AtSoak w o (soaks.Bound side element ratio need limit)
RefusesSoak w o WriteFault = AtSoakWrite w o
RefusesSoak w o NoMemory = AtSoak w o soaks.NoMemory
RefusesSoak w o s = ⊥
