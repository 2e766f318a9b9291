-- The frames of a block are those of its samples.
use Rattle.std.proofs.Common.{sym, subst}
use Rattle.wdf_lattice.specs.Sides.{sources_driven}
use Rattle.wdf_lattice.specs.Waves.{frames_of}
use Rattle.wdf_lattice.specs.Runners.{IsBlock, NoteOver, RunnerValue, RunOver, ShowLast, accounts_by, accounts_of, states_by, states_of}
use Rattle.wdf_lattice.proofs.GoOnLemmas.{runner_over}
use Rattle.wdf_lattice.proofs.runner.Runner.block.Goals as goal

pub returns-clause-on : goal.returns-clause-on
returns-clause-on c =
    let frames = subst (λ (r : RunnerValue). IsBlock r.runs (sources_driven r.networks) r.done r.plan.frames c.args.input.now c.args.output.now) (sym c.self.view_is) c.requires.frames in
    let kept = c.self.invariant in
    let over = runner_over c.self.inside.networks c.self.inside.plan c.self.inside.runs c.sources_driven.result frames.0 c.self.inside.engines c.block.new.self c.args.input.now c.block.new.output
    kept.some_run c.sources_driven.ensures.some c.sources_driven.ensures.count kept.networks_are kept.plan_is kept.runs_are frames.1.taken (c.block.ensures frames.0 frames.1.given) in
    subst (λ (r : RunnerValue). RunOver r.networks r.plan.guard r.runs (states_of r) (states_by c.block.new.self) (frames_of r.networks r.runs c.args.input.now) c.block.new.output) c.self.view_is over.on

pub returns-clause-accounts : goal.returns-clause-accounts
returns-clause-accounts c =
    let frames = subst (λ (r : RunnerValue). IsBlock r.runs (sources_driven r.networks) r.done r.plan.frames c.args.input.now c.args.output.now) (sym c.self.view_is) c.requires.frames in
    let kept = c.self.invariant in
    let over = runner_over c.self.inside.networks c.self.inside.plan c.self.inside.runs c.sources_driven.result frames.0 c.self.inside.engines c.block.new.self c.args.input.now c.block.new.output
    kept.some_run c.sources_driven.ensures.some c.sources_driven.ensures.count kept.networks_are kept.plan_is kept.runs_are frames.1.taken (c.block.ensures frames.0 frames.1.given) in
    subst (λ (r : RunnerValue). NoteOver r.networks r.plan.guard r.runs (states_of r) (accounts_of r) (accounts_by c.block.new.self) (frames_of r.networks r.runs c.args.input.now)) c.self.view_is over.notes

pub returns-clause-leaves : goal.returns-clause-leaves
returns-clause-leaves c =
    let frames = subst (λ (r : RunnerValue). IsBlock r.runs (sources_driven r.networks) r.done r.plan.frames c.args.input.now c.args.output.now) (sym c.self.view_is) c.requires.frames in
    let kept = c.self.invariant in
    let over = runner_over c.self.inside.networks c.self.inside.plan c.self.inside.runs c.sources_driven.result frames.0 c.self.inside.engines c.block.new.self c.args.input.now c.block.new.output
    kept.some_run c.sources_driven.ensures.some c.sources_driven.ensures.count kept.networks_are kept.plan_is kept.runs_are frames.1.taken (c.block.ensures frames.0 frames.1.given) in
    subst (λ (r : RunnerValue). ShowLast r.networks r.plan.guard r.runs (states_of r) c.block.new.self (frames_of r.networks r.runs c.args.input.now)) c.self.view_is over.leaves
