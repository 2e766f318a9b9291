use Rattle.std.proofs.Common.{rules, ◌≡◌, subst}
use Rattle.std.specs.Result.{OnOk}
use Rattle.wdf_lattice.specs.Runners.{totals_by}
use Rattle.wdf_frames.specs.declared.round.Round.{Round}
use Rattle.wdf_frames.specs.RunFacts.{TellsRun}
use Rattle.wdf_frames.specs.WaveRuns.{WritesWave}
use Rattle.wdf_frames.specs.Progress.{round_setting}
use Rattle.wdf_frames.proofs.wave_run.WaveRun.write.Goals as goal

pub returns-clause-told : goal.returns-clause-told
returns-clause-told g c =
    let same : c.deref_mut.result.now ≡ c.args.self.now.round.value = search rules in
    let behind = c.write_wave.new.round in
    subst (λ (r : Round). OnOk c.write_wave.result ((wave : WritesWave (round_setting r) (g.I.Source.left c.args.input.now) (g.I.Source.left c.write_wave.new.input) (g.O.Sink.written c.args.out.now) (g.O.Sink.written c.write_wave.new.out))
    × TellsRun (round_setting r) wave.body behind.limited (totals_by behind.runner)))
    same c.write_wave.ensures.told
