use Rattle.wdf_loop.specs.Advances.{root_of}
use Rattle.wdf_loop.specs.Parts.{AreParts}
use Rattle.wdf_loop.proofs.parts.every_part.Given as goal

abbrev pub invariant-loop-number : goal.invariant-loop-number
invariant-loop-number l = AreParts l.schedule (root_of l.layout.shares.items) l.layout.marks.items l.number (λ i. i) l.parts.items
