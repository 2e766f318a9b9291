use Rattle.std.proofs.Common.{◌≡◌, ℕ, ◌+◌, ◌*◌, ◌<◌, ◌≤◌, ◌^◌, List, length, map, sym, ◌∙◌, subst, arith}
use mathlib.Core.Logic.{inr}
use Rattle.std.specs.Prelude.{slice_index_or, slice_set}
use Rattle.std.proofs.lemmas.List.{length-set}
use Rattle.std.proofs.lemmas.Nat.{pow_pos}
use Rattle.wdf_loop.specs.declared.cell.Cell.{Cell}
use Rattle.wdf_loop.specs.Layouts.{share_at}
use Rattle.wdf_loop.specs.RunCells.{AllCanRise, InEach, Rises}
use Rattle.wdf_loop.specs.Runs.{HaveClimbed, IsShare, row_at}
use Rattle.wdf_loop.proofs.MapLemmas.{map-length, map-slice_set, row_at-map}
use Rattle.wdf_loop.proofs.PassLemmas.{climb_can, climb_more, others_more}
use Rattle.wdf_loop.proofs.passes.climb_stages.Goals as goal

pub rise-requires : goal.rise-requires
rise-requires g c =
    let inside = c.requires.inside in
    let each = c.requires.each in
    let long = c.loop-j.invariant.long in
    let high : c.loop-j.j < c.args.end = c.loop-j-test.true in
    let share : IsShare (2 ^ g.row.K) (share_at c.args.shares.now c.loop-j.j) = c.requires.shares c.loop-j.j (omega arith) in
    let row : row_at (map g.R.RunRow.cells c.loop-j.cells) c.loop-j.j ≡ g.R.RunRow.cells (slice_index_or c.loop-j.cells c.loop-j.j c.index-cells-j.result) =
    row_at-map g.R.RunRow.cells c.loop-j.cells c.loop-j.j c.index-cells-j.result (omega arith) in
    let can = subst (AllCanRise (2 ^ g.row.K) g.row.C (share_at c.args.shares.now c.loop-j.j) c.loop-j.held) row
    (climb_can g.row.C (2 ^ g.row.K) c.args.shares.now c.args.first c.args.end c.loop-j.j (map g.R.RunRow.cells c.args.cells.now) (map g.R.RunRow.cells c.loop-j.cells) c.args.waves.now c.loop-j.held (pow_pos g.row.K) share
    c.loop-j.auto.j high c.requires.can c.loop-j.invariant.climbed (c.loop-j.invariant.others c.loop-j.j (inr (omega arith)))) in
    let runs : g.row.C ≤ 8 = c.requires.runs in
    let size : g.row.C * 8 < 9223372036854775808 = omega arith in
    (size, (c.requires.few, (share.whole, can)))

pub loop-j-preserved : goal.loop-j-preserved
loop-j-preserved g c =
    let inside = c.requires.inside in
    let long = c.loop-j.invariant.long in
    let high : c.loop-j.j < c.args.end = c.loop-j-test.true in
    let here : c.loop-j.j < length c.loop-j.cells = omega arith in
    let within : c.loop-j.j < length (map g.R.RunRow.cells c.loop-j.cells) = subst (λ (n : ℕ). c.loop-j.j < n) (sym (map-length g.R.RunRow.cells c.loop-j.cells)) here in
    let row : row_at (map g.R.RunRow.cells c.loop-j.cells) c.loop-j.j ≡ g.R.RunRow.cells (slice_index_or c.loop-j.cells c.loop-j.j c.index-cells-j.result) =
    row_at-map g.R.RunRow.cells c.loop-j.cells c.loop-j.j c.index-cells-j.result here in
    let set : slice_set (map g.R.RunRow.cells c.loop-j.cells) c.loop-j.j (g.R.RunRow.cells c.rise.new.self) ≡ map g.R.RunRow.cells (slice_set c.loop-j.cells c.loop-j.j c.rise.new.self) =
    sym (map-slice_set g.R.RunRow.cells c.loop-j.cells c.loop-j.j c.rise.new.self) in
    let rises = subst (λ (r : List Cell). InEach g.row.C (Rises (2 ^ g.row.K) (share_at c.args.shares.now c.loop-j.j)) c.loop-j.held r (g.R.RunRow.cells c.rise.new.self) c.rise.new.waves) (sym row) c.rise.ensures in
    record {
      long = length-set c.loop-j.cells c.loop-j.j c.rise.new.self ∙ long;
      climbed = subst (λ (cs : List (List Cell)). HaveClimbed g.row.C (2 ^ g.row.K) c.args.shares.now c.args.first c.args.end (c.loop-j.j + 1) (map g.R.RunRow.cells c.args.cells.now) c.args.waves.now cs c.rise.new.waves) set
          (climb_more g.row.C (2 ^ g.row.K) c.args.shares.now c.args.first c.args.end c.loop-j.j (map g.R.RunRow.cells c.args.cells.now) (map g.R.RunRow.cells c.loop-j.cells) c.args.waves.now c.loop-j.held (g.R.RunRow.cells c.rise.new.self) c.rise.new.waves
          c.loop-j.auto.j high within c.loop-j.invariant.climbed (c.loop-j.invariant.others c.loop-j.j (inr (omega arith))) rises);
      others = λ i h. subst (λ (cs : List (List Cell)). row_at cs i ≡ row_at (map g.R.RunRow.cells c.args.cells.now) i) set
          (others_more c.args.first c.loop-j.j (map g.R.RunRow.cells c.args.cells.now) (map g.R.RunRow.cells c.loop-j.cells) (g.R.RunRow.cells c.rise.new.self) c.loop-j.auto.j c.loop-j.invariant.others i h);
    }

pub returns-clause-climb : goal.returns-clause-climb
returns-clause-climb g c =
    let done : c.loop-j.j ≡ c.args.end = let most = c.loop-j.auto.j-end c.requires.order in let least = c.loop-j-test.false in omega arith in
    subst (λ (j : ℕ). HaveClimbed g.row.C (2 ^ g.row.K) c.args.shares.now c.args.first c.args.end j (map g.R.RunRow.cells c.args.cells.now) c.args.waves.now (map g.R.RunRow.cells c.loop-j.cells) c.loop-j.held) done c.loop-j.invariant.climbed
