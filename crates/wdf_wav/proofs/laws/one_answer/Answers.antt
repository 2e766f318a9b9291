use Rattle.wdf_wav.proofs.AnsweredLemmas.{answered}
use Rattle.wdf_wav.proofs.OneAnswerLemmas.{either, one_fault, one_head}
use Rattle.wdf_wav.proofs.laws.one_answer.Goals as goal

pub returns : goal.returns
returns c = record { head = one_head; fault = one_fault; either = either; answered = answered }
