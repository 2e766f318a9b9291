use Rattle.std.proofs.Common.{◌≡◌, ℕ, ◌+◌, ◌*◌, ◌<◌, ◌≤◌, ◌^◌, List, length, map, sym, subst, arith}
use Rattle.std.specs.Prelude.{slice_index_or, slice_set}
use Rattle.std.proofs.lemmas.Nat.{pow_pos}
use Rattle.wdf_loop.specs.declared.cell.Cell.{Cell}
use Rattle.wdf_loop.specs.declared.share.Share.{Share}
use Rattle.wdf_loop.specs.Layouts.{share_at}
use Rattle.wdf_loop.specs.RunCells.{AllCanRise, InEach, Rises}
use Rattle.wdf_loop.specs.Runs.{HaveClimbed, IsShare, row_at}
use Rattle.wdf_loop.proofs.MapLemmas.{map-length, map-slice_set, row_at-map}
use Rattle.wdf_loop.proofs.PairLemmas.{climb_none, keeps_none}
use Rattle.wdf_loop.proofs.PassLemmas.{climb_can, climb_more, others_more}
use Rattle.wdf_loop.proofs.pair_passes.climb_one.Goals as goal

pub rise-requires : goal.rise-requires
rise-requires g c =
    let each = c.requires.each in
    let inside = c.requires.inside in
    let here : c.args.j < length c.args.shares.now = omega arith in
    let high : c.args.j < c.args.j + 1 = omega arith in
    let share : IsShare (2 ^ g.row.K) (share_at c.args.shares.now c.args.j) = c.requires.shares c.args.j here in
    let row : row_at (map g.R.RunRow.cells c.args.cells.now) c.args.j ≡ g.R.RunRow.cells (slice_index_or c.args.cells.now c.args.j c.index-cells-j.result) =
    row_at-map g.R.RunRow.cells c.args.cells.now c.args.j c.index-cells-j.result inside in
    let can = subst (AllCanRise (2 ^ g.row.K) g.row.C (share_at c.args.shares.now c.args.j) c.args.waves.now) row
    (climb_can g.row.C (2 ^ g.row.K) c.args.shares.now c.args.j (c.args.j + 1) c.args.j (map g.R.RunRow.cells c.args.cells.now) (map g.R.RunRow.cells c.args.cells.now) c.args.waves.now c.args.waves.now (pow_pos g.row.K) share
    (omega arith) high c.requires.can
    (climb_none g.row.C (2 ^ g.row.K) c.args.shares.now c.args.j (c.args.j + 1) (map g.R.RunRow.cells c.args.cells.now) c.args.waves.now)
    (keeps_none (map g.R.RunRow.cells c.args.cells.now) c.args.j)) in
    let runs : g.row.C ≤ 8 = c.requires.runs in
    let size : g.row.C * 8 < 9223372036854775808 = omega arith in
    let same = sym c.known.ensures in (
      size,
      (
        c.requires.few,
        (
          subst (λ (s : Share). s.m + s.n ≡ 2 ^ g.row.K) same share.whole,
          subst (λ (s : Share). AllCanRise (2 ^ g.row.K) g.row.C s c.args.waves.now (g.R.RunRow.cells (slice_index_or c.args.cells.now c.args.j c.index-cells-j.result))) same can,
        ),
      ),
    )

pub returns-clause-climb : goal.returns-clause-climb
returns-clause-climb g c =
    let inside = c.requires.inside in
    let within : c.args.j < length (map g.R.RunRow.cells c.args.cells.now) = subst (λ (n : ℕ). c.args.j < n) (sym (map-length g.R.RunRow.cells c.args.cells.now)) inside in
    let row : row_at (map g.R.RunRow.cells c.args.cells.now) c.args.j ≡ g.R.RunRow.cells (slice_index_or c.args.cells.now c.args.j c.index-cells-j.result) =
    row_at-map g.R.RunRow.cells c.args.cells.now c.args.j c.index-cells-j.result inside in
    let set : slice_set (map g.R.RunRow.cells c.args.cells.now) c.args.j (g.R.RunRow.cells c.rise.new.self) ≡ map g.R.RunRow.cells (slice_set c.args.cells.now c.args.j c.rise.new.self) =
    sym (map-slice_set g.R.RunRow.cells c.args.cells.now c.args.j c.rise.new.self) in
    let known = subst (λ (s : Share). InEach g.row.C (Rises (2 ^ g.row.K) s) c.args.waves.now (g.R.RunRow.cells (slice_index_or c.args.cells.now c.args.j c.index-cells-j.result)) (g.R.RunRow.cells c.rise.new.self) c.rise.new.waves) c.known.ensures c.rise.ensures in
    let rises = subst (λ (r : List Cell). InEach g.row.C (Rises (2 ^ g.row.K) (share_at c.args.shares.now c.args.j)) c.args.waves.now r (g.R.RunRow.cells c.rise.new.self) c.rise.new.waves) (sym row) known in
    subst (λ (cs : List (List Cell)). HaveClimbed g.row.C (2 ^ g.row.K) c.args.shares.now c.args.j (c.args.j + 1) (c.args.j + 1) (map g.R.RunRow.cells c.args.cells.now) c.args.waves.now cs c.rise.new.waves) set
    (climb_more g.row.C (2 ^ g.row.K) c.args.shares.now c.args.j (c.args.j + 1) c.args.j (map g.R.RunRow.cells c.args.cells.now) (map g.R.RunRow.cells c.args.cells.now) c.args.waves.now c.args.waves.now (g.R.RunRow.cells c.rise.new.self) c.rise.new.waves
    (omega arith) (omega arith) within
    (climb_none g.row.C (2 ^ g.row.K) c.args.shares.now c.args.j (c.args.j + 1) (map g.R.RunRow.cells c.args.cells.now) c.args.waves.now)
    (keeps_none (map g.R.RunRow.cells c.args.cells.now) c.args.j) rises)

pub returns-clause-others : goal.returns-clause-others
returns-clause-others g c i h =
    let set : slice_set (map g.R.RunRow.cells c.args.cells.now) c.args.j (g.R.RunRow.cells c.rise.new.self) ≡ map g.R.RunRow.cells (slice_set c.args.cells.now c.args.j c.rise.new.self) =
    sym (map-slice_set g.R.RunRow.cells c.args.cells.now c.args.j c.rise.new.self) in
    subst (λ (cs : List (List Cell)). row_at cs i ≡ row_at (map g.R.RunRow.cells c.args.cells.now) i) set
    (others_more c.args.j c.args.j (map g.R.RunRow.cells c.args.cells.now) (map g.R.RunRow.cells c.args.cells.now) (g.R.RunRow.cells c.rise.new.self) (omega arith) (λ k o. keeps_none (map g.R.RunRow.cells c.args.cells.now) k) i h)
