use Rattle.std.proofs.Common.{◌≡◌, ◌+◌}
use Rattle.wdf_made.specs.Generator.{behind_words}
use Rattle.wdf_made.specs.Wave.{made_data}
use Rattle.wdf_made.proofs.wave.made_data.Given as goal

abbrev pub invariant-loop : goal.invariant-loop
invariant-loop l =
    (l.made.items ≡ made_data l.seed l.order l.counter)
    × (l.generator ≡ behind_words l.seed (l.order + l.counter))
