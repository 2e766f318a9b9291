-- A ladder's runs go on by themselves.
use Rattle.std.proofs.Common.{◌≡◌, ℕ, ◌*◌, length, sym, ap, ◌∙◌, subst}
use Rattle.wdf_loop.specs.Engines.{runs_of}
use Rattle.wdf_lattice.specs.declared.engines.Engines.{Engines}
use Rattle.wdf_lattice.specs.declared.engines.Engines.TheVariants.{One}
use Rattle.wdf_lattice.specs.RunSides.{GoOn, runs_by}
use Rattle.wdf_lattice.proofs.GoOnLemmas.{go_one}
use Rattle.wdf_lattice.proofs.engines.Engines.block.Goals as goal

pub returns-in-One : goal.returns-in-One
returns-in-One c = λ count given.
    let own : length c.args.output.now ≡ count * runs_of c.in-One.first.engine = given ∙ ap (λ (k : ℕ). count * k) (c.requires.runs ∙ ap runs_by c.in-One.is) in
    subst (λ (es : Engines). GoOn count c.args.input.now c.block.new.output es (One c.block.new.self)) (sym c.in-One.is)
    (go_one c.in-One.first c.block.new.self count c.args.input.now c.block.new.output (c.block.auto.output ∙ own) (c.block.ensures.kept count own) (c.block.ensures.over count own))
