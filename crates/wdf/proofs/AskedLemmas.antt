-- From the answers of a command to those of what was asked for.
use Rattle.std.proofs.Common.{◌≡◌, Result, Err, sym, subst}
use Rattle.std.specs.Prelude.{IfErr}
use Rattle.wdf_report.specs.declared.status.Status.{Status}
use Rattle.wdf_words.specs.declared.command.Command.{Command}
use Rattle.wdf_words.specs.declared.order.Order.{Order}
use Rattle.wdf.specs.World.{World}
use Rattle.wdf.specs.Answer.{RefusesOrder}

pub as_asked : (r : Result (Unit {0}) Status) (w : World) (o : Order) (c asked : Command) → asked ≡ c → IfErr r (RefusesOrder c w o) → IfErr r (RefusesOrder asked w o)
as_asked r w o c asked e h = subst (λ (d : Command). IfErr r (RefusesOrder d w o)) (sym e) h

-- the row of the table that allows an answer
pub row_of : (r : Result (Unit {0}) Status) (rows : Status → Type 0) (s : Status) → r ≡ Err s → IfErr r rows → rows s
row_of r rows s e h = subst (λ (x : Result (Unit {0}) Status). IfErr x rows) e h
