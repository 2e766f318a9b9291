use Rattle.wdf_stages.proofs.AnswerLemmas.{one_opening}
use Rattle.wdf_stages.proofs.laws.one_opening.Goals as goal

pub returns : goal.returns
returns c = one_opening c.one_answer.ensures.head c.one_answer.ensures.fault c.one_answer.ensures.either
