use Rattle.wdf_text.proofs.CuttingLemmas.{cut_text}
use Rattle.wdf_text.proofs.cursor.Cursor.new.Goals as goal

pub returns-clause-words : goal.returns-clause-words
returns-clause-words c = cut_text c.args.text.now
