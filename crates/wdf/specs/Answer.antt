-- The table of answers: what each answer of a call says of the words, the files and the input, and what was read, written
-- and noted. It is told command by command; another command has lines of its own.
use Rattle.std.specs.Prelude.{◌≡◌, ℕ, ◌≤◌, List, Option, Result, Ok, Err}
use Rattle.wdf_words.specs.declared.command.Command.{Command}
use Rattle.wdf_words.specs.declared.command.Command.TheVariants.{Run, Report, Certify, Check, Soak}
use Rattle.wdf_words.specs.declared.order.Order.{Order}
use Rattle.wdf_words.specs.declared.usage_fault.UsageFault.{UsageFault}
use Rattle.wdf_words.specs.Orders.{order_of}
use Rattle.wdf_stages.specs.Noting.{GainsLine}
use Rattle.wdf_report.specs.FaultLine.{fault_line_of}
use Rattle.wdf_report.specs.declared.status.Status.{Status}
use Rattle.wdf.specs.World.{World, IsQuiet}
use Rattle.wdf.specs.Statuses.{status_of_usage}
use Rattle.wdf.specs.CertifyAnswer.{DoneCertify, RefusesCertify}
use Rattle.wdf.specs.CheckAnswer.{DoneCheck, RefusesCheck}
use Rattle.wdf.specs.ReportAnswer.{DoneReport, RefusesReport}
use Rattle.wdf.specs.RunAnswer.{DoneRun, RefusesRun}
use Rattle.wdf.specs.SoakAnswer.{DoneSoak, RefusesSoak}

-- this is the answer, and nothing was read, written or noted
pub record Answers (w : World) (s answer : Status) : Type 0 where
  pub is : s ≡ answer
  pub quiet : IsQuiet w

-- what an order of each command did
abbrev pub DoesOrder : Command → World → Order → Type 0
DoesOrder Run w o = DoneRun w o
DoesOrder Certify w o = DoneCertify w o
DoesOrder Check w o = DoneCheck w o
DoesOrder Report w o = DoneReport w o
DoesOrder Soak w o = DoneSoak w o

-- why it was not done
abbrev pub RefusesOrder : Command → World → Order → Status → Type 0
RefusesOrder Run w o s = RefusesRun w o s
RefusesOrder Certify w o s = RefusesCertify w o s
RefusesOrder Check w o s = RefusesCheck w o s
RefusesOrder Report w o s = RefusesReport w o s
RefusesOrder Soak w o s = RefusesSoak w o s

-- what words did, by what they ask for
abbrev pub DoesWords : Result Order UsageFault → World → Type 0
DoesWords (Ok o) w = DoesOrder o.command w o
DoesWords (Err fault) w = ⊥

-- why they did not
abbrev pub RefusesWords : Result Order UsageFault → World → Status → Type 0
RefusesWords (Ok o) w s = RefusesOrder o.command w o s
RefusesWords (Err fault) w s = Answers w s (status_of_usage fault)

-- the call did what its words ask for
abbrev pub IsDone : World → Type 0
IsDone w = DoesWords (order_of w.words) w

-- it did not, for the cause that the answer tells
abbrev pub Refuses : World → Status → Type 0
Refuses w s = RefusesWords (order_of w.words) w s

-- and behind what was noted until then, the fault line of that answer was tried. `noted'` is what the note held before it,
-- and `count` how often its calls had failed; `noted''` and `now` are those behind it.
pub record IsRefused (w : (noted' : Option (List ℕ)) → World) (noted'' : Option (List ℕ)) (before now : ℕ) (s : Status) : Type 0 where
  pub noted' : Option (List ℕ)
  pub count : ℕ
  pub refuses : Refuses (w noted') s
  pub later : before ≤ count
  pub line : GainsLine noted' noted'' count now (fault_line_of s)
