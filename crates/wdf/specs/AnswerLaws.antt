-- What is told leaves the program one answer.
use Rattle.std.specs.Prelude.{◌≡◌, ◌≢◌, ℕ, Bool, true, false, List, Option, Some, IsTrue}
use Rattle.wdf_io.specs.Files.{Files}
use Rattle.wdf_report.specs.declared.status.Status.{Status}
use Rattle.wdf_report.specs.declared.status.Status.TheVariants.{Done, ReadFault, WriteFault, NoteFault, LoadFault, NoMemory}
use Rattle.wdf.specs.World.{World, world}
use Rattle.wdf.specs.Answer.{IsDone, Refuses}
use Rattle.wdf.specs.Complete.{HasAll}

-- the answer rests on what is told: it is neither a fault nor want of memory
abbrev pub rests_on_told : Status → Bool
rests_on_told ReadFault = false
rests_on_told WriteFault = false
rests_on_told NoteFault = false
rests_on_told LoadFault = false
rests_on_told NoMemory = false
rests_on_told s = true

-- the table allows it
pub record IsAnswer (w : World) (s : Status) : Type 0 where
  pub done : s ≡ Done → IsDone w
  pub refused : s ≢ Done → Refuses w s

-- Two such answers to the same words, told files and told input are equal, whatever the calls read and wrote.
abbrev pub HasOneAnswer : Type 0
HasOneAnswer = (words : List (List ℕ)) (files : Files) (bytes : List ℕ) (left left' gained gained' written written' told told' noted noted' : Option (List ℕ)) (s t : Status)
    → IsTrue (rests_on_told s) → IsTrue (rests_on_told t)
    → IsAnswer (world words (Some files) (Some bytes) left gained gained' told told') s
    → IsAnswer (world words (Some files) (Some bytes) left' written written' noted noted') t
    → s ≡ t

-- Where all is there that the words ask for, the answer is `Done`, a fault or want of memory.
abbrev pub IsComplete : Type 0
IsComplete = (w : World) (s : Status) → HasAll w.words w.files w.left → Refuses w s → s ≢ Done → s ≢ LoadFault → s ≢ ReadFault → s ≢ WriteFault → s ≢ NoteFault → s ≡ NoMemory
