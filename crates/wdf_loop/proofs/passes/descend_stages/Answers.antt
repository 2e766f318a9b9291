use Rattle.std.proofs.Common.{◌≡◌, ℕ, ◌+◌, ◌*◌, ◌-◌, ◌<◌, ◌≤◌, ◌^◌, List, length, map, sym, ◌∙◌, subst, arith}
use mathlib.Core.Logic.{◌⊎◌, inl}
use Rattle.std.proofs.lemmas.List.{length-set}
use Rattle.std.specs.Prelude.{slice_index_or, slice_set}
use Rattle.wdf_loop.specs.declared.cell.Cell.{Cell}
use Rattle.wdf_loop.specs.Layouts.{share_at}
use Rattle.wdf_loop.specs.RunCells.{AllCanFall, Falls, InEach}
use Rattle.wdf_loop.specs.Runs.{HaveDescended, IsShare, row_at}
use Rattle.wdf_loop.proofs.MapLemmas.{map-length, map-slice_set, row_at-map}
use Rattle.wdf_loop.proofs.PassLemmas.{descend_can, descend_more, others_less}
use Rattle.wdf_loop.proofs.passes.descend_stages.Goals as goal

pub fall-requires : goal.fall-requires
fall-requires g c =
    let inside = c.requires.inside in
    let each = c.requires.each in
    let left : c.loop-done.done < c.args.end - c.args.first = c.loop-done-test.true in
    let j : ℕ = c.args.end - 1 - c.loop-done.done in
    let next : c.args.end - c.loop-done.done ≡ c.args.end - 1 - c.loop-done.done + 1 = omega arith in
    let share : IsShare (2 ^ g.row.K) (share_at c.args.shares.now (c.args.end - 1 - c.loop-done.done)) = c.requires.shares (c.args.end - 1 - c.loop-done.done) (omega arith) in
    let so_far = subst (λ (j : ℕ). HaveDescended g.row.C (2 ^ g.row.K) c.args.shares.now c.args.first c.args.end j (map g.R.RunRow.cells c.args.cells.now) c.args.waves.now (map g.R.RunRow.cells c.loop-done.cells) c.loop-done.held)
    next c.loop-done.invariant.descended in
    let long = c.loop-done.invariant.long in
    let row : row_at (map g.R.RunRow.cells c.loop-done.cells) (c.args.end - 1 - c.loop-done.done) ≡ g.R.RunRow.cells (slice_index_or c.loop-done.cells (c.args.end - 1 - c.loop-done.done) c.index-cells-j.result) =
    row_at-map g.R.RunRow.cells c.loop-done.cells (c.args.end - 1 - c.loop-done.done) c.index-cells-j.result (omega arith) in
    let can = subst (AllCanFall (2 ^ g.row.K) g.row.C (share_at c.args.shares.now (c.args.end - 1 - c.loop-done.done)) c.loop-done.held) row
    (descend_can g.row.C (2 ^ g.row.K) c.args.shares.now c.args.first c.args.end (c.args.end - 1 - c.loop-done.done) (map g.R.RunRow.cells c.args.cells.now) (map g.R.RunRow.cells c.loop-done.cells) c.args.waves.now c.loop-done.held share
    (omega arith) (omega arith) c.requires.can so_far (c.loop-done.invariant.others (c.args.end - 1 - c.loop-done.done) (inl (omega arith)))) in
    let runs : g.row.C ≤ 8 = c.requires.runs in
    let size : g.row.C * 8 < 9223372036854775808 = omega arith in
    (size, (c.requires.some, (c.requires.few, (share.whole, can))))

pub loop-done-preserved : goal.loop-done-preserved
loop-done-preserved g c =
    let inside = c.requires.inside in
    let long = c.loop-done.invariant.long in
    let left : c.loop-done.done < c.args.end - c.args.first = c.loop-done-test.true in
    let now : c.args.end - c.loop-done.done ≡ c.args.end - 1 - c.loop-done.done + 1 = omega arith in
    let next : c.args.end - 1 - c.loop-done.done ≡ c.args.end - (c.loop-done.done + 1) = omega arith in
    let so_far = subst (λ (j : ℕ). HaveDescended g.row.C (2 ^ g.row.K) c.args.shares.now c.args.first c.args.end j (map g.R.RunRow.cells c.args.cells.now) c.args.waves.now (map g.R.RunRow.cells c.loop-done.cells) c.loop-done.held)
    now c.loop-done.invariant.descended in
    let here : c.args.end - 1 - c.loop-done.done < length c.loop-done.cells = omega arith in
    let within : c.args.end - 1 - c.loop-done.done < length (map g.R.RunRow.cells c.loop-done.cells) = subst (λ (n : ℕ). c.args.end - 1 - c.loop-done.done < n) (sym (map-length g.R.RunRow.cells c.loop-done.cells)) here in
    let row : row_at (map g.R.RunRow.cells c.loop-done.cells) (c.args.end - 1 - c.loop-done.done) ≡ g.R.RunRow.cells (slice_index_or c.loop-done.cells (c.args.end - 1 - c.loop-done.done) c.index-cells-j.result) =
    row_at-map g.R.RunRow.cells c.loop-done.cells (c.args.end - 1 - c.loop-done.done) c.index-cells-j.result here in
    let set : slice_set (map g.R.RunRow.cells c.loop-done.cells) (c.args.end - 1 - c.loop-done.done) (g.R.RunRow.cells c.fall.new.self) ≡ map g.R.RunRow.cells (slice_set c.loop-done.cells (c.args.end - 1 - c.loop-done.done) c.fall.new.self) =
    sym (map-slice_set g.R.RunRow.cells c.loop-done.cells (c.args.end - 1 - c.loop-done.done) c.fall.new.self) in
    let falls = subst (λ (r : List Cell). InEach g.row.C (Falls (2 ^ g.row.K) (share_at c.args.shares.now (c.args.end - 1 - c.loop-done.done))) c.loop-done.held r (g.R.RunRow.cells c.fall.new.self) c.fall.new.waves) (sym row) c.fall.ensures in
    let more = descend_more g.row.C (2 ^ g.row.K) c.args.shares.now c.args.first c.args.end (c.args.end - 1 - c.loop-done.done) (map g.R.RunRow.cells c.args.cells.now) (map g.R.RunRow.cells c.loop-done.cells) c.args.waves.now c.loop-done.held (g.R.RunRow.cells c.fall.new.self) c.fall.new.waves
    (omega arith) (omega arith) within so_far (c.loop-done.invariant.others (c.args.end - 1 - c.loop-done.done) (inl (omega arith))) falls in
    record {
      long = length-set c.loop-done.cells (c.args.end - 1 - c.loop-done.done) c.fall.new.self ∙ long;
      descended = subst (λ (cs : List (List Cell)). HaveDescended g.row.C (2 ^ g.row.K) c.args.shares.now c.args.first c.args.end (c.args.end - (c.loop-done.done + 1)) (map g.R.RunRow.cells c.args.cells.now) c.args.waves.now cs c.fall.new.waves) set
          (subst (λ (j : ℕ). HaveDescended g.row.C (2 ^ g.row.K) c.args.shares.now c.args.first c.args.end j (map g.R.RunRow.cells c.args.cells.now) c.args.waves.now (slice_set (map g.R.RunRow.cells c.loop-done.cells) (c.args.end - 1 - c.loop-done.done) (g.R.RunRow.cells c.fall.new.self)) c.fall.new.waves) next more);
      others = λ i h. subst (λ (cs : List (List Cell)). row_at cs i ≡ row_at (map g.R.RunRow.cells c.args.cells.now) i) set
          (others_less (c.args.end - 1 - c.loop-done.done) (c.args.end - c.loop-done.done) c.args.end (map g.R.RunRow.cells c.args.cells.now) (map g.R.RunRow.cells c.loop-done.cells) (g.R.RunRow.cells c.fall.new.self) now (omega arith) c.loop-done.invariant.others i
          (subst (λ (j : ℕ). (i < j) ⊎ (c.args.end ≤ i)) (sym next) h));
    }

pub returns-clause-descend : goal.returns-clause-descend
returns-clause-descend g c =
    let done : c.args.end - c.loop-done.done ≡ c.args.first = let order = c.requires.order in let most = c.loop-done.auto.done-end in let least = c.loop-done-test.false in omega arith in
    subst (λ (j : ℕ). HaveDescended g.row.C (2 ^ g.row.K) c.args.shares.now c.args.first c.args.end j (map g.R.RunRow.cells c.args.cells.now) c.args.waves.now (map g.R.RunRow.cells c.loop-done.cells) c.loop-done.held) done c.loop-done.invariant.descended
