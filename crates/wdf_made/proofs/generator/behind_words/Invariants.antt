use Rattle.std.proofs.Common.{◌≡◌}
use Rattle.wdf_made.specs.Generator.{behind_words}
use Rattle.wdf_made.proofs.generator.behind_words.Given as goal

abbrev pub invariant-loop : goal.invariant-loop
invariant-loop l = l.generator ≡ behind_words l.seed l.counter
