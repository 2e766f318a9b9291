use Rattle.std.proofs.Common.{◌∙◌, arith}
use Rattle.wdf_loop.proofs.notes.note_run.Goals as goal

pub returns-clause-notes : goal.returns-clause-notes
returns-clause-notes g c = λ sent waves last.
    c.note_block.ensures.account sent waves (λ f j end small. c.sent_last.ensures j (omega (arith, small, c.requires.each)) ∙ last f j end small)
