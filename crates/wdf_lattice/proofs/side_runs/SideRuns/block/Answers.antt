-- The engine's block, of as many frames as there is room for.
use Rattle.std.proofs.Common.{◌≡◌, ◌≢◌, ℕ, length, rules, ap, subst, ◌∙◌}
use Rattle.wdf_law.specs.Laws.{HasOneStep}
use Rattle.wdf_sched.specs.Schedules.{ScheduleValue}
use Rattle.wdf_lattice.specs.declared.side_runs.SideRuns.{SideRuns}
use Rattle.wdf_loop.specs.Engines.{runs_of}
use Rattle.wdf_lattice.specs.RunSides.{GoesOver}
use Rattle.wdf_lattice.proofs.SideLemmas.{all_small, made_block, no_count, none_over, side_kept, side_over, some_count}
use Rattle.wdf_lattice.proofs.side_runs.SideRuns.block.Goals as goal

pub returns-clause-kept : goal.returns-clause-kept
returns-clause-kept c = λ count given.
    let y : SideRuns = record { engine = c.block.new.self; ledger = c.block.new.ledger } in
    let full : length c.args.output.now ≢ 0 = search rules in
    side_kept c.args.self.now y count c.args.input.now c.block.new.output (some_count (runs_of c.args.self.now.engine) count (length c.args.output.now) full given)
    (made_block c.args.self.now c.block.new.self c.block.new.ledger c.args.input.now c.args.output.now c.block.new.output c.requires.some c.requires.frames c.block.ensures count given)

pub returns-clause-over : goal.returns-clause-over
returns-clause-over c = λ count given.
    let y : SideRuns = record { engine = c.block.new.self; ledger = c.block.new.ledger } in
    let one : HasOneStep c.args.self.now.engine.schedule.net = subst HasOneStep (c.net.ensures ∙ ap (λ (s : ScheduleValue). s.net) c.schedule.ensures) c.one_step.ensures in
    side_over c.args.self.now y count c.args.input.now c.block.new.output one
    (made_block c.args.self.now c.block.new.self c.block.new.ledger c.args.input.now c.args.output.now c.block.new.output c.requires.some c.requires.frames c.block.ensures count given)

pub returns-clause-small : goal.returns-clause-small
returns-clause-small c =
    let count = c.requires.frames.0 in
    let block = made_block c.args.self.now c.block.new.self c.block.new.ledger c.args.input.now c.args.output.now c.block.new.output c.requires.some c.requires.frames c.block.ensures count
    c.requires.frames.1.given in
    all_small c.args.self.now.engine.plan (runs_of c.args.self.now.engine) count c.block.new.output (c.block.auto.output ∙ c.requires.frames.1.given) (λ f run below few. (block.on run few).words f below)

pub returns-then-is_empty-clause-over : goal.returns-then-is_empty-clause-over
returns-then-is_empty-clause-over c = λ count given.
    let none : length c.args.output.now ≡ 0 = search rules in
    subst (λ (n : ℕ). GoesOver n c.args.input.now c.args.output.now c.args.self.now c.args.self.now)
    (no_count (runs_of c.args.self.now.engine) count (length c.args.output.now) c.requires.some none given) (none_over c.args.self.now c.args.input.now c.args.output.now)
