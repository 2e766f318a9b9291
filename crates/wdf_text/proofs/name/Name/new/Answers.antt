use Rattle.std.proofs.Common.{arith, rules}
use Rattle.wdf_text.proofs.PaddingLemmas.{padded_name}
use Rattle.wdf_text.proofs.name.Name.new.Goals as goal

pub invariant_of-result : goal.invariant_of-result
invariant_of-result c = rw c.copy_from_slice.ensures.after (padded_name c.args.bytes.now (grind arith) (omega arith) (search rules))
