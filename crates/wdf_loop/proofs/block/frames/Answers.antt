use Rattle.std.proofs.Common.{◌≡◌, ℕ, ◌+◌, ◌-◌, ◌*◌, ◌<◌, ◌≤◌, ◌^◌, length, map, take, drop, refl, sym, ap, ◌∙◌, subst, arith, rules}
use Rattle.std.proofs.lemmas.List.{length-drop, length-take-le}
use Rattle.wdf_loop.specs.Blocks.{HaveRun}
use Rattle.wdf_loop.specs.Layouts.{chain_at}
use Rattle.wdf_loop.specs.Parts.{AreWithin, part_at}
use Rattle.wdf_loop.specs.Shows.{AreSmallValues}
use Rattle.wdf_loop.specs.Steps.{AllCanStep, HaveStepped}
use Rattle.wdf_loop.proofs.BlockLemmas.{all_can_step, frame_inside, frame_small, run_more, run_none}
use Rattle.wdf_loop.proofs.block.frames.Goals as goal

pub loop-f-init : goal.loop-f-init
loop-f-init g c = record {
  long = refl;
  waves_long = refl;
  run = run_none g.row.C (2 ^ g.row.K) c.args.root c.args.shares.now c.args.chains.now c.args.feeds.now c.args.watched.now c.args.count (map g.R.RunRow.cells c.args.cells.now) c.args.values.now c.args.waves.now;
}

pub step-requires : goal.step-requires
step-requires g c =
    let less : c.loop-f.f < c.args.count = c.loop-f-test.true in
    let inside = frame_inside c.loop-f.f c.args.count (length c.args.feeds.now) (length c.args.values.now) less c.requires.sources in
    let size : c.loop-f.f * length c.args.feeds.now + length c.args.feeds.now - c.loop-f.f * length c.args.feeds.now ≡ length c.args.feeds.now = omega arith in
    let rest : length (drop (c.loop-f.f * length c.args.feeds.now) c.args.values.now) ≡ length c.args.values.now - c.loop-f.f * length c.args.feeds.now = length-drop (c.loop-f.f * length c.args.feeds.now) c.args.values.now in
    let long : length (take (length c.args.feeds.now) (drop (c.loop-f.f * length c.args.feeds.now) c.args.values.now)) ≡ length c.args.feeds.now =
    length-take-le (length c.args.feeds.now) (drop (c.loop-f.f * length c.args.feeds.now) c.args.values.now) (omega arith) in
    let sources = subst (λ (m : ℕ). length (take m (drop (c.loop-f.f * length c.args.feeds.now) c.args.values.now)) ≡ length c.args.feeds.now) (sym size) long in
    let small = subst (λ (m : ℕ). AreSmallValues g.row.C (take m (drop (c.loop-f.f * length c.args.feeds.now) c.args.values.now))) (sym size)
    (frame_small g.row.C (length c.args.feeds.now) c.loop-f.f c.args.values.now inside c.requires.small) in
    let can = subst (λ (m : ℕ). AllCanStep g.row.C (2 ^ g.row.K) c.args.root c.args.shares.now c.args.chains.now c.args.feeds.now (map g.R.RunRow.cells c.loop-f.cells) (take m (drop (c.loop-f.f * length c.args.feeds.now) c.args.values.now))) (sym size)
    (all_can_step g.row.C (2 ^ g.row.K) c.args.root c.args.shares.now c.args.chains.now c.args.feeds.now c.args.watched.now c.args.count c.loop-f.f (map g.R.RunRow.cells c.args.cells.now) (map g.R.RunRow.cells c.loop-f.cells) c.args.values.now c.loop-f.waves less
    c.requires.can c.loop-f.invariant.run) in
    let stages : length c.loop-f.cells ≡ c.args.root + 1 = c.loop-f.invariant.long ∙ c.requires.stages in
    let runs : g.row.C ≤ 8 = c.requires.runs in
    let room : g.row.C * 8 < 9223372036854775808 = omega arith in
    (room, (c.requires.some, (c.requires.few, (c.requires.runs, (stages, (c.requires.each, (c.requires.shares, (c.requires.chains, (refl, (c.pairs_of-pairs.ensures, (c.requires.signs, (sources, (c.requires.feeds, (small, can))))))))))))))

pub watch-requires : goal.watch-requires
watch-requires g c =
    let less : c.loop-f.f < c.args.count = c.loop-f-test.true in
    let stages : length c.step.new.cells ≡ c.args.root + 1 = c.step.auto.cells ∙ (c.loop-f.invariant.long ∙ c.requires.stages) in
    let inside = subst (λ (n : ℕ). AreWithin n c.args.watched.now) (sym stages) c.requires.inside in
    let room = frame_inside c.loop-f.f c.args.count (length c.args.watched.now) (length c.args.waves.now) less c.requires.watched in
    let long = c.loop-f.invariant.waves_long in
    let runs : g.row.C ≤ 8 = c.requires.runs in
    let size : g.row.C * 8 < 9223372036854775808 = omega arith in
    let last : c.saturating_sub.result ≡ length c.args.watched.now - 1 = search rules in
    let other = c.part_of-other.ensures ∙ ap (λ (n : ℕ). part_at c.args.watched.now n) last in
    (size, (runs, (c.part_of-one.ensures, (other, (inside, omega (arith, room, long))))))

pub loop-f-preserved : goal.loop-f-preserved
loop-f-preserved g c =
    let less : c.loop-f.f < c.args.count = c.loop-f-test.true in
    let size : c.loop-f.f * length c.args.feeds.now + length c.args.feeds.now - c.loop-f.f * length c.args.feeds.now ≡ length c.args.feeds.now = omega arith in
    let stepped = subst (λ (m : ℕ). HaveStepped g.row.C (2 ^ g.row.K) c.args.root c.args.shares.now c.args.chains.now c.args.feeds.now (map g.R.RunRow.cells c.loop-f.cells) (take m (drop (c.loop-f.f * length c.args.feeds.now) c.args.values.now)) (map g.R.RunRow.cells c.step.new.cells))
    size c.step.ensures in
    record {
      long = c.step.auto.cells ∙ c.loop-f.invariant.long;
      waves_long = c.watch.auto.rows ∙ c.loop-f.invariant.waves_long;
      run = run_more g.row.C (2 ^ g.row.K) c.args.root c.args.shares.now c.args.chains.now c.args.feeds.now c.args.watched.now c.args.count c.loop-f.f (map g.R.RunRow.cells c.args.cells.now) (map g.R.RunRow.cells c.loop-f.cells) (map g.R.RunRow.cells c.step.new.cells) c.args.values.now
          c.loop-f.waves c.watch.new.rows less c.requires.inside c.loop-f.invariant.run stepped c.watch.ensures.sent c.watch.ensures.others;
    }

pub returns : goal.returns
returns g c =
    let done : c.loop-f.f ≡ c.args.count = let most = c.loop-f.auto.f-end in let least = c.loop-f-test.false in omega arith in
    subst (λ (f : ℕ). HaveRun g.row.C (2 ^ g.row.K) c.args.root c.args.shares.now c.args.chains.now c.args.feeds.now c.args.watched.now c.args.count f (map g.R.RunRow.cells c.args.cells.now) c.args.values.now (map g.R.RunRow.cells c.loop-f.cells) c.loop-f.waves)
    done c.loop-f.invariant.run
