use Rattle.wdf.proofs.keeping.no_return.Goals as goal

pub returns : goal.returns
returns c = record { never = c.no_return.ensures }
