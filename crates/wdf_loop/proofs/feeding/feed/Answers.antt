use Rattle.std.proofs.Common.{◌≡◌, ℕ, ◌+◌, ◌-◌, ◌*◌, ◌<◌, ◌≤◌, ◌^◌, List, [], ◌∷◌, length, map, drop, ap, sym, ◌∙◌, subst, arith}
use Rattle.std.specs.Prelude.{ℤ, slice_index_or, slice_set, unsigned_abs}
use Rattle.std.proofs.lemmas.List.{get_or_read, length-set}
use Rattle.wdf_loop.specs.declared.cell.Cell.{Cell}
use Rattle.wdf_loop.specs.declared.feed.Feed.{Feed}
use Rattle.wdf_loop.specs.Cells.{given}
use Rattle.wdf_loop.specs.Layouts.{feed_at}
use Rattle.wdf_loop.specs.RunCells.{cell_in, wave_in}
use Rattle.wdf_loop.specs.Runs.{cell_at, row_at}
use Rattle.wdf_loop.specs.Shows.{IsFedAnew, values_in}
use Rattle.wdf_loop.proofs.MapLemmas.{map-length, map-slice_set, row_at-map}
use Rattle.wdf_loop.proofs.FeedLemmas.{feed_more, feeds_from, values_from}
use Rattle.wdf_loop.proofs.feeding.feed.Goals as goal

pub give-requires : goal.give-requires
give-requires g c =
    let left = c.loop-done-test.true in
    let each = c.requires.each in
    let small : length c.args.feeds.now - 1 - c.loop-done.done < length c.args.values.now = omega arith in
    let row : c.index-values-i.result ≡ slice_index_or c.args.values.now (length c.args.feeds.now - 1 - c.loop-done.done) [] =
    get_or_read c.args.values.now (length c.args.feeds.now - 1 - c.loop-done.done) c.index-values-i.result small c.index-values-i.is [] in
    let words : (c' : ℕ) → c' < g.row.C → unsigned_abs (wave_in c.index-values-i.result c') ≤ 2 ^ 60 =
    (λ c' h. subst (λ (r : List ℤ). unsigned_abs (wave_in r c') ≤ 2 ^ 60) (sym row) (c.requires.small (length c.args.feeds.now - 1 - c.loop-done.done) c' small h)) in
    let runs : g.row.C ≤ 8 = c.requires.runs in
    let size : g.row.C * 8 < 9223372036854775808 = omega arith in
    (size, words)

pub loop-done-preserved : goal.loop-done-preserved
loop-done-preserved g c =
    let left = c.loop-done-test.true in
    let each = c.requires.each in
    let long = c.loop-done.invariant.long in
    let small : length c.args.feeds.now - 1 - c.loop-done.done < length c.args.feeds.now = omega arith in
    let place : length c.args.feeds.now - 1 - c.loop-done.done < length c.args.values.now = omega arith in
    let row : c.index-values-i.result ≡ slice_index_or c.args.values.now (length c.args.feeds.now - 1 - c.loop-done.done) [] =
    get_or_read c.args.values.now (length c.args.feeds.now - 1 - c.loop-done.done) c.index-values-i.result place c.index-values-i.is [] in
    let now : length c.args.feeds.now - c.loop-done.done ≡ length c.args.feeds.now - 1 - c.loop-done.done + 1 = omega arith in
    let next : length c.args.feeds.now - 1 - c.loop-done.done ≡ length c.args.feeds.now - (c.loop-done.done + 1) = omega arith in
    let stage = c.requires.stages (length c.args.feeds.now - 1 - c.loop-done.done) small in
    let at = (feed_at c.args.feeds.now (length c.args.feeds.now - 1 - c.loop-done.done)).stage in
    let here : at < length c.loop-done.cells = omega arith in
    let within : at < length (map g.R.RunRow.cells c.loop-done.cells) = subst (λ (n : ℕ). at < n) (sym (map-length g.R.RunRow.cells c.loop-done.cells)) here in
    let taken : row_at (map g.R.RunRow.cells c.loop-done.cells) at ≡ g.R.RunRow.cells (slice_index_or c.loop-done.cells at c.index-cells-feeds.result) =
    row_at-map g.R.RunRow.cells c.loop-done.cells at c.index-cells-feeds.result here in
    let set : slice_set (map g.R.RunRow.cells c.loop-done.cells) at (g.R.RunRow.cells c.give.new.self) ≡ map g.R.RunRow.cells (slice_set c.loop-done.cells at c.give.new.self) =
    sym (map-slice_set g.R.RunRow.cells c.loop-done.cells at c.give.new.self) in
    record {
      long = length-set c.loop-done.cells (feed_at c.args.feeds.now (length c.args.feeds.now - 1 - c.loop-done.done)).stage c.give.new.self ∙ long;
      fed = λ c' h j.
          let put : cell_in (g.R.RunRow.cells c.give.new.self) c' ≡ given (feed_at c.args.feeds.now (length c.args.feeds.now - 1 - c.loop-done.done)) (wave_in (slice_index_or c.args.values.now (length c.args.feeds.now - 1 - c.loop-done.done) []) c')
          (cell_at (map g.R.RunRow.cells c.loop-done.cells) (feed_at c.args.feeds.now (length c.args.feeds.now - 1 - c.loop-done.done)).stage c') =
          c.give.ensures c' h
          ∙ (ap (λ (r : List Cell). given (feed_at c.args.feeds.now (length c.args.feeds.now - 1 - c.loop-done.done)) (wave_in c.index-values-i.result c') (cell_in r c')) (sym taken)
          ∙ ap (λ (r : List ℤ). given (feed_at c.args.feeds.now (length c.args.feeds.now - 1 - c.loop-done.done)) (wave_in r c') (cell_at (map g.R.RunRow.cells c.loop-done.cells) (feed_at c.args.feeds.now (length c.args.feeds.now - 1 - c.loop-done.done)).stage c')) row) in
          let old : (k : ℕ) → IsFedAnew (drop (length c.args.feeds.now - 1 - c.loop-done.done + 1) c.args.feeds.now) (drop (length c.args.feeds.now - 1 - c.loop-done.done + 1) (values_in c.args.values.now c')) k (cell_at (map g.R.RunRow.cells c.args.cells.now) k c') (cell_at (map g.R.RunRow.cells c.loop-done.cells) k c') =
          (λ k. subst (λ (n : ℕ). IsFedAnew (drop n c.args.feeds.now) (drop n (values_in c.args.values.now c')) k (cell_at (map g.R.RunRow.cells c.args.cells.now) k c') (cell_at (map g.R.RunRow.cells c.loop-done.cells) k c')) now (c.loop-done.invariant.fed c' h k)) in
          let more = feed_more (drop (length c.args.feeds.now - 1 - c.loop-done.done + 1) c.args.feeds.now) (drop (length c.args.feeds.now - 1 - c.loop-done.done + 1) (values_in c.args.values.now c'))
          (feed_at c.args.feeds.now (length c.args.feeds.now - 1 - c.loop-done.done)) (wave_in (slice_index_or c.args.values.now (length c.args.feeds.now - 1 - c.loop-done.done) []) c') j c' (map g.R.RunRow.cells c.args.cells.now) (map g.R.RunRow.cells c.loop-done.cells) (g.R.RunRow.cells c.give.new.self)
          within put old in
          let behind = slice_set (map g.R.RunRow.cells c.loop-done.cells) (feed_at c.args.feeds.now (length c.args.feeds.now - 1 - c.loop-done.done)).stage (g.R.RunRow.cells c.give.new.self) in
          let whole = subst (λ (fs : List Feed). IsFedAnew fs
          (wave_in (slice_index_or c.args.values.now (length c.args.feeds.now - 1 - c.loop-done.done) []) c' ∷ drop (length c.args.feeds.now - 1 - c.loop-done.done + 1) (values_in c.args.values.now c')) j
          (cell_at (map g.R.RunRow.cells c.args.cells.now) j c') (cell_at behind j c')) (sym (feeds_from c.args.feeds.now (length c.args.feeds.now - 1 - c.loop-done.done) small)) more in
          let all = subst (λ (zs : List ℤ). IsFedAnew (drop (length c.args.feeds.now - 1 - c.loop-done.done) c.args.feeds.now) zs j (cell_at (map g.R.RunRow.cells c.args.cells.now) j c') (cell_at behind j c'))
          (sym (values_from c.args.values.now c' (length c.args.feeds.now - 1 - c.loop-done.done) place)) whole in
          let anew = subst (λ (n : ℕ). IsFedAnew (drop n c.args.feeds.now) (drop n (values_in c.args.values.now c')) j (cell_at (map g.R.RunRow.cells c.args.cells.now) j c') (cell_at behind j c')) next all in
          subst (λ (cs : List (List Cell)). IsFedAnew (drop (length c.args.feeds.now - (c.loop-done.done + 1)) c.args.feeds.now) (drop (length c.args.feeds.now - (c.loop-done.done + 1)) (values_in c.args.values.now c')) j (cell_at (map g.R.RunRow.cells c.args.cells.now) j c') (cell_at cs j c')) set anew;
    }
