-- The next sample is not over amp.
use Rattle.std.proofs.Common.{◌≤◌, get_or, rules, pos}
use Rattle.std.specs.Prelude.{unsigned_abs}
use Rattle.std.proofs.lemmas.List.Elements.{All-more}
use Rattle.wdf_frames.proofs.samples.first_over.Goals as goal

pub loop-at-preserved : goal.loop-at-preserved
loop-at-preserved c =
    let small : unsigned_abs (get_or c.args.samples.now c.loop-at.at (pos 0)) ≤ c.args.amp = search rules in
    All-more (λ z. unsigned_abs z ≤ c.args.amp) c.args.samples.now c.loop-at.at (pos 0) c.loop-at-test.true c.loop-at.invariant small
