use Rattle.wdf_sp.proofs.SpanLemmas.{reversed_spans, reversed-reversed}
use Rattle.wdf_sp.proofs.laws.reversal.Goals as goal

pub returns : goal.returns
returns c = record { spans = reversed_spans; twice = reversed-reversed }
