use Rattle.std.proofs.Common.{rules, ◌≡◌, ℕ, ◌+◌, ◌*◌, ◌≤◌, List, length, refl, sym, ◌∙◌, arith}
use Rattle.std.specs.Prelude.{ℤ}
use Rattle.wdf_law.specs.Network.{source_numbers}
use Rattle.wdf_quant.specs.WorkedWalks.{one_source}
use Rattle.wdf_loop.specs.Engines.{AreFrames, EngineValue, runs_of}
use Rattle.wdf_loop.proofs.engine_tests.pulses.Goals as goal

frames_are : (a : EngineValue) (count : ℕ) (input output : List ℤ) → a.schedule.net ≡ one_source → runs_of a ≡ 7 → length input ≡ count * 7 → length output ≡ count * 7 → a.done + count ≤ a.plan.frames → AreFrames a count input output
frames_are a count input output net runs ins outs left = record {
  samples = ins ∙ sym (λ i. count * (runs i * length (source_numbers (net i))));
  places = outs ∙ sym (λ i. count * runs i);
  left = left;
}

pub block-requires-clause-frames : goal.block-requires-clause-frames
block-requires-clause-frames c =
    let long : length c.args.first.now ≡ 7 = search rules in
    let done = c.requires.done in
    let most = c.requires.frames in
    (1, frames_are c.args.engine.now 1 _ _ c.requires.net c.requires.runs refl long (omega (arith, done, most)))

pub block-requires-2-clause-frames : goal.block-requires-2-clause-frames
block-requires-2-clause-frames c =
    let long : length c.args.first.now ≡ 7 = search rules in
    let rest : length c.args.rest.now ≡ 14 = search rules in
    let done = c.requires.done in
    let most = c.requires.frames in
    let block = c.block.ensures 1 (frames_are c.args.engine.now 1 _ _ c.requires.net c.requires.runs refl long (omega (arith, done, most))) in
    let next : c.block.new.self.done ≡ 1 = block.done ∙ (λ i. done i + 1) in
    let frames : c.block.new.self.plan.frames ≡ 3 = (λ i. (block.plans i).frames) ∙ most in
    (2, frames_are c.block.new.self 2 _ _ ((λ i. (block.schedules i).net) ∙ c.requires.net) (block.runs ∙ c.requires.runs) refl rest (omega (arith, next, frames)))

pub block-requires-2-clause-amplitude : goal.block-requires-2-clause-amplitude
block-requires-2-clause-amplitude c =
    let long : length c.args.first.now ≡ 7 = search rules in
    let done = c.requires.done in
    let most = c.requires.frames in
    let block = c.block.ensures 1 (frames_are c.args.engine.now 1 _ _ c.requires.net c.requires.runs refl long (omega (arith, done, most))) in
    let amp : c.block.new.self.plan.amp ≡ 32768 = (λ i. (block.plans i).amp) ∙ c.requires.amplitude in
    search rules

pub block-requires-2-clause-ledger : goal.block-requires-2-clause-ledger
block-requires-2-clause-ledger c =
    let long : length c.args.first.now ≡ 7 = search rules in
    let done = c.requires.done in
    let most = c.requires.frames in
    let block = c.block.ensures 1 (frames_are c.args.engine.now 1 _ _ c.requires.net c.requires.runs refl long (omega (arith, done, most))) in
    block.ledger

pub returns-clause-net : goal.returns-clause-net
returns-clause-net c =
    let long : length c.args.first.now ≡ 7 = search rules in
    let rest : length c.args.rest.now ≡ 14 = search rules in
    let done = c.requires.done in
    let most = c.requires.frames in
    let block = c.block.ensures 1 (frames_are c.args.engine.now 1 _ _ c.requires.net c.requires.runs refl long (omega (arith, done, most))) in
    let net = (λ i. (block.schedules i).net) ∙ c.requires.net in
    let next : c.block.new.self.done ≡ 1 = block.done ∙ (λ i. done i + 1) in
    let frames : c.block.new.self.plan.frames ≡ 3 = (λ i. (block.plans i).frames) ∙ most in
    let last = c.block-2.ensures 2 (frames_are c.block.new.self 2 _ _ net (block.runs ∙ c.requires.runs) refl rest (omega (arith, next, frames))) in
    (λ i. (last.schedules i).net) ∙ net

pub returns-clause-runs : goal.returns-clause-runs
returns-clause-runs c =
    let long : length c.args.first.now ≡ 7 = search rules in
    let rest : length c.args.rest.now ≡ 14 = search rules in
    let done = c.requires.done in
    let most = c.requires.frames in
    let block = c.block.ensures 1 (frames_are c.args.engine.now 1 _ _ c.requires.net c.requires.runs refl long (omega (arith, done, most))) in
    let net = (λ i. (block.schedules i).net) ∙ c.requires.net in
    let next : c.block.new.self.done ≡ 1 = block.done ∙ (λ i. done i + 1) in
    let frames : c.block.new.self.plan.frames ≡ 3 = (λ i. (block.plans i).frames) ∙ most in
    let last = c.block-2.ensures 2 (frames_are c.block.new.self 2 _ _ net (block.runs ∙ c.requires.runs) refl rest (omega (arith, next, frames))) in
    last.runs ∙ (block.runs ∙ c.requires.runs)
