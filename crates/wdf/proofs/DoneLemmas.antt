-- What holds of the run of a call that was done.
use Rattle.std.proofs.Common.{Result, subst}
use Rattle.wdf_words.specs.declared.command.Command.{Command}
use Rattle.wdf_words.specs.declared.order.Order.{Order}
use Rattle.wdf_words.specs.declared.usage_fault.UsageFault.{UsageFault}
use Rattle.wdf.specs.World.{World}
use Rattle.wdf.specs.Answer.{IsDone, DoesOrder, DoesWords}
use Rattle.wdf.specs.RunAnswer.{DoneRun}
use Rattle.wdf.specs.Filtered.{AsksRun, HasRun}
use Rattle.wdf.specs.Runs.{KeepCertified, KeepEnergy, KeepKirchhoff, KeepWords}

run_done : (w : World) → (asks : AsksRun w.words) → IsDone w → DoneRun w asks.order
run_done w asks done =
    let does : DoesOrder asks.order.command w asks.order = subst (λ (m : Result Order UsageFault). DoesWords m w) asks.asked done in
    subst (λ (c : Command). DoesOrder c w asks.order) asks.command does

pub kept_kirchhoff : (w : World) → IsDone w → AsksRun w.words → HasRun w (λ s body certified. KeepKirchhoff s body)
kept_kirchhoff w done asks = let run = run_done w asks done in record { order = asks.order; asked = asks.asked; done = run; holds = run.kirchhoff }

pub kept_energy : (w : World) → IsDone w → AsksRun w.words → HasRun w (λ s body certified. KeepEnergy s body)
kept_energy w done asks = let run = run_done w asks done in record { order = asks.order; asked = asks.asked; done = run; holds = run.energy }

pub kept_words : (w : World) → IsDone w → AsksRun w.words → HasRun w (λ s body certified. KeepWords s body)
kept_words w done asks = let run = run_done w asks done in record { order = asks.order; asked = asks.asked; done = run; holds = run.words }

pub kept_certified : (w : World) → IsDone w → AsksRun w.words → HasRun w (λ s body certified. KeepCertified s certified)
kept_certified w done asks = let run = run_done w asks done in record { order = asks.order; asked = asks.asked; done = run; holds = run.certified }
