use Rattle.std.proofs.Common.{◌≡◌, ℕ, ◌+◌, ◌*◌, ◌<◌, ◌≤◌, ◌^◌, length, map, refl, sym, ◌∙◌, subst, arith, w64, to_z, of_z}
use Rattle.std.specs.Prelude.{ℤ, unsigned_abs}
use Rattle.wdf_loop.specs.Pairs.{IsPairAt}
use Rattle.wdf_loop.specs.Runs.{HaveClimbed, KeepsOthers}
use Rattle.wdf_loop.proofs.PairLemmas.{climb_joined, climb_none, climb_part, keeps_none, others_joined, sign-kept}
use Rattle.wdf_loop.proofs.pair_passes.climb_pairs.Goals as goal

pub loop-i-init : goal.loop-i-init
loop-i-init g c =
    let none : c.args.start ≡ c.args.start + 2 * 0 = omega arith in
    record {
      long = refl;
      climbed = subst (λ (to : ℕ). HaveClimbed g.row.C (2 ^ g.row.K) c.args.shares.now c.args.start (c.args.start + 2 * c.args.count) to (map g.R.RunRow.cells c.args.cells.now) c.args.waves.now (map g.R.RunRow.cells c.args.cells.now) c.args.waves.now) none (climb_none g.row.C (2 ^ g.row.K) c.args.shares.now c.args.start (c.args.start + 2 * c.args.count) (map g.R.RunRow.cells c.args.cells.now) c.args.waves.now);
      others = λ i h. keeps_none (map g.R.RunRow.cells c.args.cells.now) i;
    }

pub climb_pair-requires : goal.climb_pair-requires
climb_pair-requires g c =
    let inside = c.requires.inside in
    let long = c.loop-i.invariant.long in
    let less : c.loop-i.i < c.args.count = c.loop-i-test.true in
    let high : c.args.start + 2 * c.loop-i.i + 2 ≤ length c.loop-i.cells = omega arith in
    let each = c.requires.each in
    let each-now : length c.args.shares.now ≡ length c.loop-i.cells = omega arith in
    let can = (climb_part g.row.C (2 ^ g.row.K) c.args.shares.now c.args.start (c.args.start + 2 * c.args.count) (c.args.start + 2 * c.loop-i.i) (c.args.start + 2 * c.loop-i.i + 2) (map g.R.RunRow.cells c.args.cells.now) (map g.R.RunRow.cells c.loop-i.cells) c.args.waves.now c.loop-i.held (omega arith) (omega arith) c.requires.can
    c.loop-i.invariant.climbed c.loop-i.invariant.others) in
    let same : c.args.sign ≡ to_z w64 (of_z w64 c.args.sign) = sym (sign-kept c.args.sign c.requires.size) in
    let runs : g.row.C ≤ 8 = c.requires.runs in
    let size : g.row.C * 8 < 9223372036854775808 = omega arith in
    (size, (c.requires.few, (c.requires.runs, (high, (each-now, (c.requires.shares, (subst (λ (z : ℤ). unsigned_abs z ≤ 1) same c.requires.size, (subst (λ (z : ℤ). IsPairAt c.args.shares.now z (c.args.start + 2 * c.loop-i.i)) same (c.requires.pairs c.loop-i.i less), can))))))))

pub loop-i-preserved : goal.loop-i-preserved
loop-i-preserved g c =
    let less : c.loop-i.i < c.args.count = c.loop-i-test.true in
    let next : c.args.start + 2 * c.loop-i.i + 2 ≡ c.args.start + 2 * (c.loop-i.i + 1) = omega arith in
    record {
      long = c.climb_pair.auto.cells ∙ c.loop-i.invariant.long;
      climbed = subst (λ (to : ℕ). HaveClimbed g.row.C (2 ^ g.row.K) c.args.shares.now c.args.start (c.args.start + 2 * c.args.count) to (map g.R.RunRow.cells c.args.cells.now) c.args.waves.now (map g.R.RunRow.cells c.climb_pair.new.cells) c.climb_pair.new.waves) next
          (climb_joined g.row.C (2 ^ g.row.K) c.args.shares.now c.args.start (c.args.start + 2 * c.args.count) (c.args.start + 2 * c.loop-i.i) (c.args.start + 2 * c.loop-i.i + 2) (map g.R.RunRow.cells c.args.cells.now) (map g.R.RunRow.cells c.loop-i.cells) (map g.R.RunRow.cells c.climb_pair.new.cells) c.args.waves.now c.loop-i.held c.climb_pair.new.waves (omega arith) (omega arith)
          c.loop-i.invariant.climbed c.loop-i.invariant.others
          c.climb_pair.ensures.climb c.climb_pair.ensures.others);
      others = others_joined c.args.start (c.args.start + 2 * c.loop-i.i) (c.args.start + 2 * c.loop-i.i) (c.args.start + 2 * c.loop-i.i + 2) (map g.R.RunRow.cells c.args.cells.now) (map g.R.RunRow.cells c.loop-i.cells) (map g.R.RunRow.cells c.climb_pair.new.cells) c.loop-i.invariant.others c.climb_pair.ensures.others
          c.args.start (c.args.start + 2 * (c.loop-i.i + 1)) (omega arith) (omega arith) (omega arith) (omega arith);
    }

pub returns-clause-climb : goal.returns-clause-climb
returns-clause-climb g c =
    let done : c.loop-i.i ≡ c.args.count = let most = c.loop-i.auto.i-end in let least = c.loop-i-test.false in omega arith in
    subst (λ (i : ℕ). HaveClimbed g.row.C (2 ^ g.row.K) c.args.shares.now c.args.start (c.args.start + 2 * c.args.count) (c.args.start + 2 * i) (map g.R.RunRow.cells c.args.cells.now) c.args.waves.now (map g.R.RunRow.cells c.loop-i.cells) c.loop-i.held) done c.loop-i.invariant.climbed

pub returns-clause-others : goal.returns-clause-others
returns-clause-others g c =
    let done : c.loop-i.i ≡ c.args.count = let most = c.loop-i.auto.i-end in let least = c.loop-i-test.false in omega arith in
    subst (λ (i : ℕ). KeepsOthers c.args.start (c.args.start + 2 * i) (map g.R.RunRow.cells c.args.cells.now) (map g.R.RunRow.cells c.loop-i.cells)) done c.loop-i.invariant.others
