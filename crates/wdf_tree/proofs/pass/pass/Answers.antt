use Rattle.std.proofs.Common.{ℕ, ◌-◌, ◌^◌, ◌<◌, length, sym, ◌∙◌, subst, arith}
use Rattle.std.specs.Prelude.{All}
use Rattle.wdf_law.specs.Network.{elements, has_source}
use Rattle.wdf_law.specs.OutputRule.{drive}
use Rattle.wdf_law.specs.Run.{states}
use Rattle.wdf_law.specs.Solved.{solved}
use Rattle.wdf_tree.specs.Numbers.{fed}
use Rattle.wdf_bounds.specs.HeldWords.{IsFrameLimited}
use Rattle.wdf_tree.specs.Places.{at_place, gathered}
use Rattle.wdf_tree.proofs.PassLemmas.{passing_below}
use Rattle.wdf_tree.proofs.PassParts.{walk_solves, step_limited, pass_of}
use Rattle.wdf_tree.proofs.pass.pass.Goals as goal

pub feed-requires-clause-placed : goal.feed-requires-clause-placed
feed-requires-clause-placed c =
    let most = c.rules.ensures.most in
    subst (All (λ (i : ℕ). i < 128)) (sym c.requires.numbers)
    (passing_below (has_source (elements c.args.net.now)) 0 (length (elements c.args.net.now)) 128 (omega arith))

pub walk-requires-clause-words : goal.walk-requires-clause-words
walk-requires-clause-words c =
    let n = c.args.net.now in
    let plan = c.args.plan.now in
    let most = c.rules.ensures.most in
    let long = c.told-waves in
    let written = c.feed.ensures ∙ (λ i. fed (c.guard.ensures.value i) (c.requires.numbers i) c.args.samples.now c.args.waves.now.inputs) in
    let solves = walk_solves n plan.guard c.args.samples.now c.args.waves.now.downs c.args.waves.now.inputs c.feed.new.inputs c.numbers.ensures (omega arith) c.requires.each written in
    subst (IsFrameLimited (2 ^ (60 - n.k))) (sym solves)
    (subst (λ (k : ℕ). IsFrameLimited (2 ^ (60 - k)) (solved n (states n (gathered n c.args.waves.now.downs)) (drive plan.guard n c.args.samples.now))) c.requires.fits.width
    (step_limited n plan c.args.done.now c.args.samples.now c.args.waves.now.downs c.one_step.ensures c.every_word.ensures c.requires.frames c.requires.amplitude c.requires.energy))

pub returns-clause-pass : goal.returns-clause-pass
returns-clause-pass c =
    let n = c.args.net.now in
    let plan = c.args.plan.now in
    let most = c.rules.ensures.most in
    let long = c.told-waves in
    let written = c.feed.ensures ∙ (λ i. fed (c.guard.ensures.value i) (c.requires.numbers i) c.args.samples.now c.args.waves.now.inputs) in
    let solves = walk_solves n plan.guard c.args.samples.now c.args.waves.now.downs c.args.waves.now.inputs c.feed.new.inputs c.numbers.ensures (omega arith) c.requires.each written in
    pass_of n plan c.args.done.now c.args.samples.now c.args.waves.now.downs c.walk.new.downs (at_place c.args.waves.now.downs) (at_place c.feed.new.inputs) c.numbers.ensures c.one_step.ensures c.every_word.ensures
    c.requires.frames c.requires.amplitude c.requires.energy (omega arith) solves c.walk.ensures.downs
