use Rattle.wdf_netlist.proofs.PlaceLemmas.{next_words}
use Rattle.wdf_netlist.proofs.line_reader.LineReader.take.Goals as goal

pub invariant_of-self : goal.invariant_of-self
invariant_of-self c = next_words c.self.inside.text.now c.self.inside.previous c.in-Some.word.now c.in-Some.rest.now (rw c.in-Some.ensures.cases.0 at c.self.invariant)
