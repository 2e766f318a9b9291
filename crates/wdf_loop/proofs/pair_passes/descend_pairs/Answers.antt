use Rattle.std.proofs.Common.{◌≡◌, ℕ, ◌+◌, ◌-◌, ◌*◌, ◌<◌, ◌≤◌, ◌^◌, length, map, refl, sym, ◌∙◌, subst, arith, w64, to_z, of_z}
use Rattle.std.specs.Prelude.{ℤ, unsigned_abs}
use Rattle.wdf_loop.specs.Pairs.{IsPairAt}
use Rattle.wdf_loop.specs.Runs.{AllCanDescend, HaveDescended, KeepsOthers}
use Rattle.wdf_loop.proofs.PairLemmas.{descend_joined, descend_none, descend_part, keeps_none, others_joined, sign-kept}
use Rattle.wdf_loop.proofs.pair_passes.descend_pairs.Goals as goal

pub loop-done-init : goal.loop-done-init
loop-done-init g c =
    let none : c.args.start + 2 * c.args.count ≡ c.args.start + 2 * (c.args.count - 0) = omega arith in
    record {
      long = refl;
      descended = subst (λ (to : ℕ). HaveDescended g.row.C (2 ^ g.row.K) c.args.shares.now c.args.start (c.args.start + 2 * c.args.count) to (map g.R.RunRow.cells c.args.cells.now) c.args.waves.now (map g.R.RunRow.cells c.args.cells.now) c.args.waves.now) none (descend_none g.row.C (2 ^ g.row.K) c.args.shares.now c.args.start (c.args.start + 2 * c.args.count) (map g.R.RunRow.cells c.args.cells.now) c.args.waves.now);
      others = λ i h. keeps_none (map g.R.RunRow.cells c.args.cells.now) i;
    }

pub descend_pair-requires : goal.descend_pair-requires
descend_pair-requires g c =
    let inside = c.requires.inside in
    let long = c.loop-done.invariant.long in
    let left : c.loop-done.done < c.args.count = c.loop-done-test.true in
    let high : c.args.start + 2 * (c.args.count - 1 - c.loop-done.done) + 2 ≤ length c.loop-done.cells = omega arith in
    let top : c.args.start + 2 * (c.args.count - c.loop-done.done) ≡ c.args.start + 2 * (c.args.count - 1 - c.loop-done.done) + 2 = omega arith in
    let less : c.args.count - 1 - c.loop-done.done < c.args.count = omega arith in
    let each = c.requires.each in
    let each-now : length c.args.shares.now ≡ length c.loop-done.cells = omega arith in
    let can = subst (λ (top : ℕ). AllCanDescend g.row.C (2 ^ g.row.K) c.args.shares.now (c.args.start + 2 * (c.args.count - 1 - c.loop-done.done)) top (map g.R.RunRow.cells c.loop-done.cells) c.loop-done.held) top
    (descend_part g.row.C (2 ^ g.row.K) c.args.shares.now c.args.start (c.args.start + 2 * c.args.count) (c.args.start + 2 * (c.args.count - c.loop-done.done)) (c.args.start + 2 * (c.args.count - 1 - c.loop-done.done)) (map g.R.RunRow.cells c.args.cells.now) (map g.R.RunRow.cells c.loop-done.cells) c.args.waves.now c.loop-done.held (omega arith) (omega arith) c.requires.can
    c.loop-done.invariant.descended c.loop-done.invariant.others) in
    let same : c.args.sign ≡ to_z w64 (of_z w64 c.args.sign) = sym (sign-kept c.args.sign c.requires.size) in
    let runs : g.row.C ≤ 8 = c.requires.runs in
    let size : g.row.C * 8 < 9223372036854775808 = omega arith in
    (size, (c.requires.some, (c.requires.few, (c.requires.runs, (high, (each-now, (c.requires.shares, (subst (λ (z : ℤ). unsigned_abs z ≤ 1) same c.requires.size, (subst (λ (z : ℤ). IsPairAt c.args.shares.now z (c.args.start + 2 * (c.args.count - 1 - c.loop-done.done))) same (c.requires.pairs (c.args.count - 1 - c.loop-done.done) less), can)))))))))

pub loop-done-preserved : goal.loop-done-preserved
loop-done-preserved g c =
    let left : c.loop-done.done < c.args.count = c.loop-done-test.true in
    let top : c.args.start + 2 * (c.args.count - 1 - c.loop-done.done) + 2 ≡ c.args.start + 2 * (c.args.count - c.loop-done.done) = omega arith in
    let next : c.args.start + 2 * (c.args.count - 1 - c.loop-done.done) ≡ c.args.start + 2 * (c.args.count - (c.loop-done.done + 1)) = omega arith in
    let more = subst (λ (top : ℕ). HaveDescended g.row.C (2 ^ g.row.K) c.args.shares.now (c.args.start + 2 * (c.args.count - 1 - c.loop-done.done)) top (c.args.start + 2 * (c.args.count - 1 - c.loop-done.done)) (map g.R.RunRow.cells c.loop-done.cells) c.loop-done.held (map g.R.RunRow.cells c.descend_pair.new.cells) c.descend_pair.new.waves) top c.descend_pair.ensures.descend in
    let others = subst (λ (top : ℕ). KeepsOthers (c.args.start + 2 * (c.args.count - 1 - c.loop-done.done)) top (map g.R.RunRow.cells c.loop-done.cells) (map g.R.RunRow.cells c.descend_pair.new.cells)) top c.descend_pair.ensures.others in
    record {
      long = c.descend_pair.auto.cells ∙ c.loop-done.invariant.long;
      descended = subst (λ (to : ℕ). HaveDescended g.row.C (2 ^ g.row.K) c.args.shares.now c.args.start (c.args.start + 2 * c.args.count) to (map g.R.RunRow.cells c.args.cells.now) c.args.waves.now (map g.R.RunRow.cells c.descend_pair.new.cells) c.descend_pair.new.waves) next
          (descend_joined g.row.C (2 ^ g.row.K) c.args.shares.now c.args.start (c.args.start + 2 * c.args.count) (c.args.start + 2 * (c.args.count - c.loop-done.done)) (c.args.start + 2 * (c.args.count - 1 - c.loop-done.done)) (map g.R.RunRow.cells c.args.cells.now) (map g.R.RunRow.cells c.loop-done.cells) (map g.R.RunRow.cells c.descend_pair.new.cells) c.args.waves.now c.loop-done.held c.descend_pair.new.waves (omega arith) (omega arith)
          c.loop-done.invariant.descended c.loop-done.invariant.others
          more others);
      others = others_joined (c.args.start + 2 * (c.args.count - c.loop-done.done)) (c.args.start + 2 * c.args.count) (c.args.start + 2 * (c.args.count - 1 - c.loop-done.done)) (c.args.start + 2 * (c.args.count - c.loop-done.done)) (map g.R.RunRow.cells c.args.cells.now) (map g.R.RunRow.cells c.loop-done.cells) (map g.R.RunRow.cells c.descend_pair.new.cells) c.loop-done.invariant.others others
          (c.args.start + 2 * (c.args.count - (c.loop-done.done + 1))) (c.args.start + 2 * c.args.count) (omega arith) (omega arith) (omega arith) (omega arith);
    }

pub returns-clause-descend : goal.returns-clause-descend
returns-clause-descend g c =
    let done : c.args.start + 2 * (c.args.count - c.loop-done.done) ≡ c.args.start = let most = c.loop-done.auto.done-end in let least = c.loop-done-test.false in omega arith in
    subst (λ (to : ℕ). HaveDescended g.row.C (2 ^ g.row.K) c.args.shares.now c.args.start (c.args.start + 2 * c.args.count) to (map g.R.RunRow.cells c.args.cells.now) c.args.waves.now (map g.R.RunRow.cells c.loop-done.cells) c.loop-done.held) done c.loop-done.invariant.descended

pub returns-clause-others : goal.returns-clause-others
returns-clause-others g c =
    let done : c.args.start + 2 * (c.args.count - c.loop-done.done) ≡ c.args.start = let most = c.loop-done.auto.done-end in let least = c.loop-done-test.false in omega arith in
    subst (λ (to : ℕ). KeepsOthers to (c.args.start + 2 * c.args.count) (map g.R.RunRow.cells c.args.cells.now) (map g.R.RunRow.cells c.loop-done.cells)) done c.loop-done.invariant.others
