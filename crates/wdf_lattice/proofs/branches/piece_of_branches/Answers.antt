-- Each branch makes the frames, and what branch A gave is taken from what branch B gave.
use Rattle.std.proofs.Common.{◌≡◌, ℕ, ◌*◌, ◌<◌, length, sym, ap, ◌∙◌, subst, take}
use Rattle.std.proofs.lemmas.List.{length-take-le}
use Rattle.wdf_loop.specs.Engines.{runs_of}
use Rattle.wdf_lattice.proofs.GoOnLemmas.{go_two}
use Rattle.wdf_lattice.proofs.branches.piece_of_branches.Goals as goal

pub returns : goal.returns
returns c = λ count given.
    let alike = c.requires.alike in
    let room : length (take (length c.args.output.now) c.args.room.now) ≡ count * runs_of c.args.first.now.engine
    = length-take-le (length c.args.output.now) c.args.room.now c.requires.room ∙ given in
    let second : length c.args.output.now ≡ count * runs_of c.args.second.now.engine = given ∙ ap (λ (k : ℕ). count * k) (sym alike.3) in
    go_two c.args.first.now c.args.second.now c.block.new.self c.block-2.new.self count c.args.input.now c.block.new.output c.block-2.new.output c.subtract.new.waves
    (c.subtract.auto.waves ∙ (c.block-2.auto.output ∙ given)) alike c.requires.driven (c.block.ensures.kept count room) (c.block-2.ensures.kept count second)
    (c.block.ensures.over count room) (c.block-2.ensures.over count second)
    (λ i inside. c.subtract.ensures i (subst (λ (n : ℕ). i < n) c.subtract.auto.waves inside))
