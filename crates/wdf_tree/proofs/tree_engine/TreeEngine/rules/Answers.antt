-- What is kept by the fields is kept by the value.
use Rattle.std.proofs.Common.{List, sym, subst}
use Rattle.std.specs.Prelude.{ℤ}
use Rattle.wdf_bounds.specs.HeldWords.{IsReached}
use Rattle.wdf_tree.specs.Engines.{EngineValue, KeepsPlan}
use Rattle.wdf_tree.proofs.EngineLemmas.{gathered-take}
use Rattle.wdf_tree.proofs.tree_engine.TreeEngine.rules.Goals as goal

pub returns : goal.returns
returns c =
    let n = c.self.inside.net in
    let plan = c.self.inside.plan in
    let kept = c.self.invariant in
    subst KeepsPlan c.self.view_is (record {
      fits = kept.fits;
      frames = kept.frames;
      reached = subst (λ (zs : List ℤ). IsReached n plan c.self.inside.done zs) (sym (gathered-take n c.self.inside.waves.downs)) kept.energy;
    })
