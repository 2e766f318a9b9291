use Rattle.std.proofs.Common.{◌≡◌, ℕ, Vec, Global, IfOk, ap, ◌∙◌, subst}
use Rattle.wdf_lattice.specs.declared.networks.Networks.{Networks}
use Rattle.wdf_frames.specs.RunStates.{setting_of}
use Rattle.wdf_frames.specs.Setting.{Setting}
use Rattle.wdf_soak.specs.Soaks.{IsSummary}
use Rattle.wdf_soak.proofs.soaking.run_ladder.Goals as goal

pub returns : goal.returns
returns c =
    let same : (setting_of c.write_wave.new.run).networks ≡ c.args.networks = ap (λ (s : Setting). s.networks) (c.write_wave.ensures.same ∙ c.in_ok-run.ensures.set) in
    subst (λ (ns : Networks). IfOk c.tell_run.result (λ (text : Vec ℕ Global). IsSummary c.args.seed c.args.order c.args.frames ns text.items)) same c.tell_run.ensures
