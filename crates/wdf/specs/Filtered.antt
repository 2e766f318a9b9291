-- The run that a call made, and what holds of it.
use Rattle.std.specs.Prelude.{◌≡◌, ℕ, Bool, List, Ok}
use Rattle.wdf_law.specs.declared.side.Side.{Side}
use Rattle.wdf_frames.specs.Setting.{Setting}
use Rattle.wdf_words.specs.declared.command.Command.TheVariants.{Run}
use Rattle.wdf_words.specs.declared.order.Order.{Order}
use Rattle.wdf_words.specs.Orders.{order_of}
use Rattle.wdf.specs.World.{World}
use Rattle.wdf.specs.RunAnswer.{DoneRun, setting_for}

-- the words ask for a run
pub record AsksRun (words : List (List ℕ)) : Type 0 where
  pub order : Order
  pub asked : order_of words ≡ Ok order
  pub command : order.command ≡ Run

-- it was done, and this holds of its setting, the frames that it read, and what its note tells of certificates
pub record HasRun (w : World) (fact : Setting → (body : List ℕ) → (certified : Side → Bool) → Type 0) : Type 0 where
  pub order : Order
  pub asked : order_of w.words ≡ Ok order
  pub done : DoneRun w order
  pub holds : fact (setting_for order done.filtered.prepared.opened.design done.filtered.prepared.opened.head) done.filtered.writes.body done.filtered.note.certified
