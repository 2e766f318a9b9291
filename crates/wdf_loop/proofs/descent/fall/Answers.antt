use Rattle.std.proofs.Common.{◌≡◌, ℕ, ◌+◌, ◌-◌, ◌*◌, ◌<◌, ◌≤◌, ◌^◌, List, length, map, sym, ◌∙◌, subst, arith}
use Rattle.wdf_loop.specs.declared.cell.Cell.{Cell}
use Rattle.wdf_loop.specs.declared.chain.Chain.{Chain}
use Rattle.wdf_loop.specs.Frames.{HaveFallenTo, end_of, first_of, to_of}
use Rattle.wdf_loop.specs.RunCells.{cell_in, wave_in}
use Rattle.wdf_loop.specs.Runs.{AllCanDescend, HaveDescended, KeepsOthers, cell_at}
use Rattle.wdf_loop.proofs.LineLemmas.{end-root, first-end}
use Rattle.wdf_loop.proofs.DescentLemmas.{fall_can, fall_last, fall_last_can, fall_more}
use Rattle.wdf_loop.proofs.MapLemmas.{row_at-map}
use Rattle.wdf_loop.proofs.descent.fall.Goals as goal

pub descend_by-requires : goal.descend_by-requires
descend_by-requires g c =
    let some = c.requires.chains.some in
    let small : length c.args.chains.now - 1 < length c.args.chains.now = omega arith in
    let last : length c.args.chains.now - 1 + 1 ≡ length c.args.chains.now = omega arith in
    let order = first-end c.args.root c.args.chains.now c.requires.chains (length c.args.chains.now - 1) small in
    let top = end-root c.args.root c.args.chains.now c.requires.chains (length c.args.chains.now - 1) small in
    let stages = c.requires.stages in
    let shares = c.requires.each in
    let inside : end_of c.args.chains.now (length c.args.chains.now - 1) ≤ length c.args.cells.now = omega arith in
    let each : length c.args.shares.now ≡ length c.args.cells.now = omega arith in
    let can : AllCanDescend g.row.C (2 ^ g.row.K) c.args.shares.now (first_of c.args.chains.now (length c.args.chains.now - 1)) (end_of c.args.chains.now (length c.args.chains.now - 1)) (map g.R.RunRow.cells c.args.cells.now) c.args.waves.now =
    fall_last_can g.row.C (2 ^ g.row.K) c.args.root c.args.shares.now c.args.chains.now (length c.args.chains.now - 1) (map g.R.RunRow.cells c.args.cells.now) c.args.waves.now c.requires.chains last c.requires.turned in
    let runs : g.row.C ≤ 8 = c.requires.runs in
    let size : g.row.C * 8 < 9223372036854775808 = omega arith in
    let same = c.requires.top in (
      size,
      (
        c.requires.some,
        (
          c.requires.few,
          (
            c.requires.runs,
            (
              subst (λ (t : Chain). t.first ≤ t.end) same order,
              (
                subst (λ (t : Chain). t.end ≤ length c.args.cells.now) same inside,
                (
                  each,
                  (
                    c.requires.shares,
                    (
                      c.requires.pairs,
                      subst (λ (t : Chain). AllCanDescend g.row.C (2 ^ g.row.K) c.args.shares.now t.first t.end (map g.R.RunRow.cells c.args.cells.now) c.args.waves.now) same can,
                    ),
                  ),
                ),
              ),
            ),
          ),
        ),
      ),
    )

pub loop-done-init : goal.loop-done-init
loop-done-init g c =
    let some = c.requires.chains.some in
    let last : length c.args.chains.now - 1 + 1 ≡ length c.args.chains.now = omega arith in
    let at : length c.args.chains.now - 1 ≡ length c.args.chains.now - 1 - 0 = omega arith in
    record {
      long = c.descend_by.auto.cells;
      fallen = subst (λ (t : ℕ). HaveFallenTo g.row.C (2 ^ g.row.K) c.args.root c.args.shares.now c.args.chains.now (first_of c.args.chains.now t) (map g.R.RunRow.cells c.args.cells.now) c.args.waves.now (map g.R.RunRow.cells c.descend_by.new.cells)) at
          (fall_last g.row.C (2 ^ g.row.K) c.args.root c.args.shares.now c.args.chains.now (length c.args.chains.now - 1) (map g.R.RunRow.cells c.args.cells.now) (map g.R.RunRow.cells c.descend_by.new.cells) c.args.waves.now c.descend_by.new.waves
          c.requires.chains last
          (subst (λ (t : Chain). HaveDescended g.row.C (2 ^ g.row.K) c.args.shares.now t.first t.end t.first (map g.R.RunRow.cells c.args.cells.now) c.args.waves.now (map g.R.RunRow.cells c.descend_by.new.cells) c.descend_by.new.waves) (sym c.requires.top) c.descend_by.ensures.descend)
          (subst (λ (t : Chain). KeepsOthers t.first t.end (map g.R.RunRow.cells c.args.cells.now) (map g.R.RunRow.cells c.descend_by.new.cells)) (sym c.requires.top) c.descend_by.ensures.others));
    }

pub descend-requires : goal.descend-requires
descend-requires g c =
    let left = c.loop-done-test.true in
    let small : length c.args.chains.now - 1 - 1 - c.loop-done.done < length c.args.chains.now = omega arith in
    let more : length c.args.chains.now - 1 - 1 - c.loop-done.done + 1 < length c.args.chains.now = omega arith in
    let at : length c.args.chains.now - 1 - c.loop-done.done ≡ length c.args.chains.now - 1 - 1 - c.loop-done.done + 1 = omega arith in
    let order = first-end c.args.root c.args.chains.now c.requires.chains (length c.args.chains.now - 1 - 1 - c.loop-done.done) small in
    let top = end-root c.args.root c.args.chains.now c.requires.chains (length c.args.chains.now - 1 - 1 - c.loop-done.done) small in
    let stages = c.requires.stages in
    let shares = c.requires.each in
    let long = c.loop-done.invariant.long in
    let inside : end_of c.args.chains.now (length c.args.chains.now - 1 - 1 - c.loop-done.done) ≤ length c.loop-done.cells = omega arith in
    let each : length c.args.shares.now ≡ length c.loop-done.cells = omega arith in
    let fallen = subst (λ (t : ℕ). HaveFallenTo g.row.C (2 ^ g.row.K) c.args.root c.args.shares.now c.args.chains.now (first_of c.args.chains.now t) (map g.R.RunRow.cells c.args.cells.now) c.args.waves.now (map g.R.RunRow.cells c.loop-done.cells)) at
    c.loop-done.invariant.fallen in
    let place = (c.requires.chains.to (length c.args.chains.now - 1 - 1 - c.loop-done.done) more).1 in
    let row = row_at-map g.R.RunRow.cells c.loop-done.cells (to_of c.args.chains.now (length c.args.chains.now - 1 - 1 - c.loop-done.done)) c.index-cells-chain.result (omega arith) in
    let sent : (c' : ℕ) → c' < g.row.C → wave_in c.collect.new.waves c' ≡ (cell_at (map g.R.RunRow.cells c.loop-done.cells) (to_of c.args.chains.now (length c.args.chains.now - 1 - 1 - c.loop-done.done)) c').down =
    λ c' h. subst (λ (r : List Cell). wave_in c.collect.new.waves c' ≡ (cell_in r c').down) (sym row) (c.collect.ensures c' h) in
    let can : AllCanDescend g.row.C (2 ^ g.row.K) c.args.shares.now (first_of c.args.chains.now (length c.args.chains.now - 1 - 1 - c.loop-done.done)) (end_of c.args.chains.now (length c.args.chains.now - 1 - 1 - c.loop-done.done)) (map g.R.RunRow.cells c.loop-done.cells) c.collect.new.waves =
    fall_can g.row.C (2 ^ g.row.K) c.args.root c.args.shares.now c.args.chains.now (length c.args.chains.now - 1 - 1 - c.loop-done.done) (map g.R.RunRow.cells c.args.cells.now) (map g.R.RunRow.cells c.loop-done.cells) c.args.waves.now c.collect.new.waves
    c.requires.chains more c.requires.turned fallen sent in
    let runs : g.row.C ≤ 8 = c.requires.runs in
    let size : g.row.C * 8 < 9223372036854775808 = omega arith in
    (size, (c.requires.some, (c.requires.few, (c.requires.runs, (order, (inside, (each, (c.requires.shares, can))))))))

pub loop-done-preserved : goal.loop-done-preserved
loop-done-preserved g c =
    let left = c.loop-done-test.true in
    let more : length c.args.chains.now - 1 - 1 - c.loop-done.done + 1 < length c.args.chains.now = omega arith in
    let at : length c.args.chains.now - 1 - c.loop-done.done ≡ length c.args.chains.now - 1 - 1 - c.loop-done.done + 1 = omega arith in
    let next : length c.args.chains.now - 1 - 1 - c.loop-done.done ≡ length c.args.chains.now - 1 - (c.loop-done.done + 1) = omega arith in
    let fallen = subst (λ (t : ℕ). HaveFallenTo g.row.C (2 ^ g.row.K) c.args.root c.args.shares.now c.args.chains.now (first_of c.args.chains.now t) (map g.R.RunRow.cells c.args.cells.now) c.args.waves.now (map g.R.RunRow.cells c.loop-done.cells)) at
    c.loop-done.invariant.fallen in
    let stages = c.requires.stages in
    let long = c.loop-done.invariant.long in
    let place = (c.requires.chains.to (length c.args.chains.now - 1 - 1 - c.loop-done.done) more).1 in
    let row = row_at-map g.R.RunRow.cells c.loop-done.cells (to_of c.args.chains.now (length c.args.chains.now - 1 - 1 - c.loop-done.done)) c.index-cells-chain.result (omega arith) in
    let sent : (c' : ℕ) → c' < g.row.C → wave_in c.collect.new.waves c' ≡ (cell_at (map g.R.RunRow.cells c.loop-done.cells) (to_of c.args.chains.now (length c.args.chains.now - 1 - 1 - c.loop-done.done)) c').down =
    λ c' h. subst (λ (r : List Cell). wave_in c.collect.new.waves c' ≡ (cell_in r c').down) (sym row) (c.collect.ensures c' h) in
    record {
      long = c.descend.auto.cells ∙ c.loop-done.invariant.long;
      fallen = subst (λ (t : ℕ). HaveFallenTo g.row.C (2 ^ g.row.K) c.args.root c.args.shares.now c.args.chains.now (first_of c.args.chains.now t) (map g.R.RunRow.cells c.args.cells.now) c.args.waves.now (map g.R.RunRow.cells c.descend.new.cells)) next
          (fall_more g.row.C (2 ^ g.row.K) c.args.root c.args.shares.now c.args.chains.now (length c.args.chains.now - 1 - 1 - c.loop-done.done) (map g.R.RunRow.cells c.args.cells.now) (map g.R.RunRow.cells c.loop-done.cells) (map g.R.RunRow.cells c.descend.new.cells)
          c.args.waves.now c.collect.new.waves c.descend.new.waves c.requires.chains more fallen sent c.descend.ensures.descend c.descend.ensures.others);
    }

pub returns : goal.returns
returns g c =
    let at : length c.args.chains.now - 1 - c.loop-done.done ≡ 0 = let most = c.loop-done.auto.done-end in let least = c.loop-done-test.false in omega arith in
    let fallen = subst (λ (t : ℕ). HaveFallenTo g.row.C (2 ^ g.row.K) c.args.root c.args.shares.now c.args.chains.now (first_of c.args.chains.now t) (map g.R.RunRow.cells c.args.cells.now) c.args.waves.now (map g.R.RunRow.cells c.loop-done.cells)) at
    c.loop-done.invariant.fallen in
    subst (λ (from : ℕ). HaveFallenTo g.row.C (2 ^ g.row.K) c.args.root c.args.shares.now c.args.chains.now from (map g.R.RunRow.cells c.args.cells.now) c.args.waves.now (map g.R.RunRow.cells c.loop-done.cells)) c.requires.chains.from fallen
