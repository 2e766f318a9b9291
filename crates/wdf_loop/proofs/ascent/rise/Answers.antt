use Rattle.std.proofs.Common.{◌≡◌, ℕ, ◌+◌, ◌-◌, ◌*◌, ◌<◌, ◌≤◌, ◌^◌, List, length, map, refl, sym, ◌∙◌, ap, subst, arith}
use Rattle.std.specs.Prelude.{slice_set, unsigned_abs}
use Rattle.wdf_loop.specs.declared.cell.Cell.{Cell}
use Rattle.wdf_loop.specs.declared.chain.Chain.{Chain}
use Rattle.std.proofs.lemmas.List.{length-set}
use Rattle.wdf_loop.specs.Cells.{fed_with}
use Rattle.wdf_loop.specs.Frames.{HaveRisenTo, end_of, first_of, to_of}
use Rattle.wdf_loop.specs.Layouts.{chain_at}
use Rattle.wdf_loop.specs.RunCells.{cell_in, wave_in}
use Rattle.wdf_loop.specs.Runs.{AllCanAscend, HaveAscended, KeepsOthers, cell_at}
use Rattle.wdf_loop.proofs.AscentLemmas.{rise_can, rise_last, rise_more, risen_none}
use Rattle.wdf_loop.proofs.LineLemmas.{end-root, first-end}
use Rattle.wdf_loop.proofs.MapLemmas.{map-length, map-slice_set, row_at-map}
use Rattle.wdf_loop.proofs.ascent.rise.Goals as goal

pub loop-t-init : goal.loop-t-init
loop-t-init g c = record {
  long = refl;
  risen = risen_none g.row.C (2 ^ g.row.K) c.args.root c.args.shares.now c.args.chains.now (map g.R.RunRow.cells c.args.cells.now) c.requires.chains;
}

pub ascend-requires : goal.ascend-requires
ascend-requires g c =
    let q : ℕ = 2 ^ g.row.K in
    let left = c.loop-t-test.true in
    let small : c.loop-t.t < length c.args.chains.now = omega arith in
    let order = first-end c.args.root c.args.chains.now c.requires.chains c.loop-t.t small in
    let top = end-root c.args.root c.args.chains.now c.requires.chains c.loop-t.t small in
    let stages = c.requires.stages in
    let shares = c.requires.each in
    let long = c.loop-t.invariant.long in
    let bottom : first_of c.args.chains.now c.loop-t.t < length c.loop-t.cells = omega arith in
    let inside : end_of c.args.chains.now c.loop-t.t ≤ length c.loop-t.cells = omega arith in
    let each : length c.args.shares.now ≡ length c.loop-t.cells = omega arith in
    let can : AllCanAscend g.row.C (2 ^ g.row.K) c.args.shares.now (first_of c.args.chains.now c.loop-t.t) (end_of c.args.chains.now c.loop-t.t) (chain_at c.args.chains.now c.loop-t.t).sign (map g.R.RunRow.cells c.loop-t.cells) =
    rise_can g.row.C (2 ^ g.row.K) c.args.root c.args.shares.now c.args.chains.now c.loop-t.t (map g.R.RunRow.cells c.args.cells.now) (map g.R.RunRow.cells c.loop-t.cells) c.requires.chains small c.requires.run c.loop-t.invariant.risen in
    let runs : g.row.C ≤ 8 = c.requires.runs in
    let size : g.row.C * 8 < 9223372036854775808 = omega arith in
    (size, (c.requires.few, (c.requires.runs, (order, (bottom, (inside, (each, (c.requires.shares, (c.requires.signs c.loop-t.t small, can)))))))))

pub loop-t-preserved : goal.loop-t-preserved
loop-t-preserved g c =
    let left = c.loop-t-test.true in
    let more : c.loop-t.t + 1 < length c.args.chains.now = omega arith in
    let stages = c.requires.stages in
    let long = c.loop-t.invariant.long in
    let same = c.ascend.auto.cells in
    let long-after : length (map g.R.RunRow.cells c.ascend.new.cells) ≡ c.args.root + 1 = map-length g.R.RunRow.cells c.ascend.new.cells ∙ omega arith in
    let place = (c.requires.chains.to c.loop-t.t more).1 in
    let here : to_of c.args.chains.now c.loop-t.t < length c.ascend.new.cells = omega arith in
    let row = row_at-map g.R.RunRow.cells c.ascend.new.cells (to_of c.args.chains.now c.loop-t.t) c.index-cells-chain.result here in
    let set : slice_set (map g.R.RunRow.cells c.ascend.new.cells) (to_of c.args.chains.now c.loop-t.t) (g.R.RunRow.cells c.deliver.new.self) ≡ map g.R.RunRow.cells (slice_set c.ascend.new.cells (to_of c.args.chains.now c.loop-t.t) c.deliver.new.self) =
    sym (map-slice_set g.R.RunRow.cells c.ascend.new.cells (to_of c.args.chains.now c.loop-t.t) c.deliver.new.self) in
    let given : (c' : ℕ) → c' < g.row.C → cell_in (g.R.RunRow.cells c.deliver.new.self) c' ≡ fed_with (wave_in c.ascend.new.waves c') (cell_at (map g.R.RunRow.cells c.ascend.new.cells) (to_of c.args.chains.now c.loop-t.t) c') =
    λ c' h. c.deliver.ensures c' h ∙ ap (λ (r : List Cell). fed_with (wave_in c.ascend.new.waves c') (cell_in r c')) (sym row) in
    record {
      long = length-set c.ascend.new.cells (to_of c.args.chains.now c.loop-t.t) c.deliver.new.self ∙ omega arith;
      risen = subst (λ (cs : List (List Cell)). HaveRisenTo g.row.C (2 ^ g.row.K) c.args.root c.args.shares.now c.args.chains.now (c.loop-t.t + 1) (map g.R.RunRow.cells c.args.cells.now) cs) set
          (rise_more g.row.C (2 ^ g.row.K) c.args.root c.args.shares.now c.args.chains.now c.loop-t.t (map g.R.RunRow.cells c.args.cells.now) (map g.R.RunRow.cells c.loop-t.cells) (map g.R.RunRow.cells c.ascend.new.cells) c.ascend.new.waves (g.R.RunRow.cells c.deliver.new.self)
          c.requires.chains more long-after c.loop-t.invariant.risen c.ascend.ensures.ascend c.ascend.ensures.others given);
    }

pub ascend_by-requires : goal.ascend_by-requires
ascend_by-requires g c =
    let some = c.requires.chains.some in
    let at : c.loop-t.t ≡ length c.args.chains.now - 1 = let most = c.loop-t.auto.t-end in let least = c.loop-t-test.false in omega arith in
    let small : length c.args.chains.now - 1 < length c.args.chains.now = omega arith in
    let order = first-end c.args.root c.args.chains.now c.requires.chains (length c.args.chains.now - 1) small in
    let top = end-root c.args.root c.args.chains.now c.requires.chains (length c.args.chains.now - 1) small in
    let stages = c.requires.stages in
    let shares = c.requires.each in
    let long = c.loop-t.invariant.long in
    let bottom : first_of c.args.chains.now (length c.args.chains.now - 1) < length c.loop-t.cells = omega arith in
    let inside : end_of c.args.chains.now (length c.args.chains.now - 1) ≤ length c.loop-t.cells = omega arith in
    let each : length c.args.shares.now ≡ length c.loop-t.cells = omega arith in
    let risen = subst (λ (t : ℕ). HaveRisenTo g.row.C (2 ^ g.row.K) c.args.root c.args.shares.now c.args.chains.now t (map g.R.RunRow.cells c.args.cells.now) (map g.R.RunRow.cells c.loop-t.cells)) at c.loop-t.invariant.risen in
    let can : AllCanAscend g.row.C (2 ^ g.row.K) c.args.shares.now (first_of c.args.chains.now (length c.args.chains.now - 1)) (end_of c.args.chains.now (length c.args.chains.now - 1)) (chain_at c.args.chains.now (length c.args.chains.now - 1)).sign (map g.R.RunRow.cells c.loop-t.cells) =
    rise_can g.row.C (2 ^ g.row.K) c.args.root c.args.shares.now c.args.chains.now (length c.args.chains.now - 1) (map g.R.RunRow.cells c.args.cells.now) (map g.R.RunRow.cells c.loop-t.cells) c.requires.chains small c.requires.run risen in
    let runs : g.row.C ≤ 8 = c.requires.runs in
    let size : g.row.C * 8 < 9223372036854775808 = omega arith in
    let same = c.requires.top in (
      size,
      (
        c.requires.few,
        (
          c.requires.runs,
          (
            subst (λ (t : Chain). t.first ≤ t.end) same order,
            (
              subst (λ (t : Chain). t.first < length c.loop-t.cells) same bottom,
              (
                subst (λ (t : Chain). t.end ≤ length c.loop-t.cells) same inside,
                (
                  each,
                  (
                    c.requires.shares,
                    (
                      subst (λ (t : Chain). unsigned_abs t.sign ≤ 1) same (c.requires.signs (length c.args.chains.now - 1) small),
                      (
                        c.requires.pairs,
                        subst (λ (t : Chain). AllCanAscend g.row.C (2 ^ g.row.K) c.args.shares.now t.first t.end t.sign (map g.R.RunRow.cells c.loop-t.cells)) same can,
                      ),
                    ),
                  ),
                ),
              ),
            ),
          ),
        ),
      ),
    )

pub returns : goal.returns
returns g c =
    let some = c.requires.chains.some in
    let at : c.loop-t.t ≡ length c.args.chains.now - 1 = let most = c.loop-t.auto.t-end in let least = c.loop-t-test.false in omega arith in
    let last : length c.args.chains.now - 1 + 1 ≡ length c.args.chains.now = omega arith in
    let risen = subst (λ (t : ℕ). HaveRisenTo g.row.C (2 ^ g.row.K) c.args.root c.args.shares.now c.args.chains.now t (map g.R.RunRow.cells c.args.cells.now) (map g.R.RunRow.cells c.loop-t.cells)) at c.loop-t.invariant.risen in
    rise_last g.row.C (2 ^ g.row.K) c.args.root c.args.shares.now c.args.chains.now (length c.args.chains.now - 1) (map g.R.RunRow.cells c.args.cells.now) (map g.R.RunRow.cells c.loop-t.cells) (map g.R.RunRow.cells c.ascend_by.new.cells) c.ascend_by.new.waves
    c.requires.chains last risen
    (subst (λ (t : Chain). HaveAscended g.row.C (2 ^ g.row.K) c.args.shares.now t.first t.end t.sign (map g.R.RunRow.cells c.loop-t.cells) (map g.R.RunRow.cells c.ascend_by.new.cells) c.ascend_by.new.waves) (sym c.requires.top) c.ascend_by.ensures.ascend)
    (subst (λ (t : Chain). KeepsOthers t.first t.end (map g.R.RunRow.cells c.loop-t.cells) (map g.R.RunRow.cells c.ascend_by.new.cells)) (sym c.requires.top) c.ascend_by.ensures.others)
