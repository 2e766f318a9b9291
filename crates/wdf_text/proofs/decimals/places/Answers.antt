use Rattle.std.proofs.Common.{sym, ◌∙◌}
use Rattle.wdf_text.proofs.DecimalLemmas.{places_none, places_some}
use Rattle.wdf_text.proofs.decimals.places.Goals as goal

pub returns-in-Some : goal.returns-in-Some
returns-in-Some c = places_some c.args.text.now c.in-Some.at (sym c.dot.ensures ∙ c.in-Some.is)

pub returns-in-None : goal.returns-in-None
returns-in-None c = places_none c.args.text.now (sym c.dot.ensures ∙ c.in-None.is)
