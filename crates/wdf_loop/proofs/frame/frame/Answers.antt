use Rattle.std.proofs.Common.{◌≡◌, ℕ, ◌+◌, ◌*◌, ◌<◌, ◌≤◌, ◌^◌, List, length, map, sym, ◌∙◌, subst, arith}
use Rattle.std.specs.Prelude.{slice_index_or, slice_set}
use Rattle.std.proofs.lemmas.List.{length-set}
use Rattle.std.proofs.lemmas.Nat.{pow_pos}
use Rattle.wdf_loop.specs.declared.cell.Cell.{Cell}
use Rattle.wdf_loop.specs.Frames.{AllHaveTurned, HaveFallenTo}
use Rattle.wdf_loop.specs.Layouts.{share_at}
use Rattle.wdf_loop.specs.RunCells.{AllCanRise, InEach, Turns}
use Rattle.wdf_loop.specs.Runs.{IsShare, row_at}
use Rattle.wdf_loop.proofs.MapLemmas.{map-length, map-slice_set, row_at-map}
use Rattle.wdf_loop.proofs.TurnLemmas.{all_done, all_turned, turn_can}
use Rattle.wdf_loop.proofs.frame.frame.Goals as goal

pub turn-requires : goal.turn-requires
turn-requires g c =
    let each = c.requires.each in
    let stages = c.requires.stages in
    let same = c.rise.auto.cells in
    let here : c.args.root < length c.rise.new.cells = omega arith in
    let share : IsShare (2 ^ g.row.K) (share_at c.args.shares.now c.args.root) = c.requires.shares c.args.root (omega arith) in
    let row = row_at-map g.R.RunRow.cells c.rise.new.cells c.args.root c.index-cells-root.result here in
    let can = subst (AllCanRise (2 ^ g.row.K) g.row.C (share_at c.args.shares.now c.args.root) c.rise.new.waves) row
    (turn_can g.row.C (2 ^ g.row.K) c.args.root c.args.shares.now c.args.chains.now (map g.R.RunRow.cells c.args.cells.now) (map g.R.RunRow.cells c.rise.new.cells) c.rise.new.waves (pow_pos g.row.K) share c.requires.run c.rise.ensures) in
    let runs : g.row.C ≤ 8 = c.requires.runs in
    let size : g.row.C * 8 < 9223372036854775808 = omega arith in
    (size, (c.requires.few, (share.whole, can)))

pub fall-requires : goal.fall-requires
fall-requires g c =
    let stages = c.requires.stages in
    let same = c.rise.auto.cells in
    let here : c.args.root < length c.rise.new.cells = omega arith in
    let inside : c.args.root < length (map g.R.RunRow.cells c.rise.new.cells) = subst (λ (n : ℕ). c.args.root < n) (sym (map-length g.R.RunRow.cells c.rise.new.cells)) here in
    let row = row_at-map g.R.RunRow.cells c.rise.new.cells c.args.root c.index-cells-root.result here in
    let set : slice_set (map g.R.RunRow.cells c.rise.new.cells) c.args.root (g.R.RunRow.cells c.turn.new.self) ≡ map g.R.RunRow.cells (slice_set c.rise.new.cells c.args.root c.turn.new.self) = sym (map-slice_set g.R.RunRow.cells c.rise.new.cells c.args.root c.turn.new.self) in
    let turns = subst (λ (r : List Cell). InEach g.row.C (Turns (2 ^ g.row.K) (share_at c.args.shares.now c.args.root)) c.rise.new.waves r (g.R.RunRow.cells c.turn.new.self) c.turn.new.waves) (sym row) c.turn.ensures in
    let long : length (slice_set c.rise.new.cells c.args.root c.turn.new.self) ≡ c.args.root + 1 = length-set c.rise.new.cells c.args.root c.turn.new.self ∙ omega arith in
    let turned = subst (λ (cs : List (List Cell)). AllHaveTurned g.row.C (2 ^ g.row.K) c.args.root c.args.shares.now c.args.chains.now cs c.turn.new.waves) set
    (all_turned g.row.C (2 ^ g.row.K) c.args.root c.args.shares.now c.args.chains.now (map g.R.RunRow.cells c.args.cells.now) (map g.R.RunRow.cells c.rise.new.cells) c.rise.new.waves c.turn.new.waves (g.R.RunRow.cells c.turn.new.self) inside c.requires.run c.rise.ensures turns) in
    let runs : g.row.C ≤ 8 = c.requires.runs in
    let size : g.row.C * 8 < 9223372036854775808 = omega arith in
    (size, (c.requires.some, (c.requires.few, (c.requires.runs, (long, (c.requires.each, (c.requires.shares, (c.requires.chains, (c.requires.top, (c.requires.pairs, turned))))))))))

pub returns : goal.returns
returns g c =
    let stages = c.requires.stages in
    let same = c.rise.auto.cells in
    let here : c.args.root < length c.rise.new.cells = omega arith in
    let inside : c.args.root < length (map g.R.RunRow.cells c.rise.new.cells) = subst (λ (n : ℕ). c.args.root < n) (sym (map-length g.R.RunRow.cells c.rise.new.cells)) here in
    let row = row_at-map g.R.RunRow.cells c.rise.new.cells c.args.root c.index-cells-root.result here in
    let set : slice_set (map g.R.RunRow.cells c.rise.new.cells) c.args.root (g.R.RunRow.cells c.turn.new.self) ≡ map g.R.RunRow.cells (slice_set c.rise.new.cells c.args.root c.turn.new.self) = sym (map-slice_set g.R.RunRow.cells c.rise.new.cells c.args.root c.turn.new.self) in
    let turns = subst (λ (r : List Cell). InEach g.row.C (Turns (2 ^ g.row.K) (share_at c.args.shares.now c.args.root)) c.rise.new.waves r (g.R.RunRow.cells c.turn.new.self) c.turn.new.waves) (sym row) c.turn.ensures in
    let fallen = subst (λ (cs : List (List Cell)). HaveFallenTo g.row.C (2 ^ g.row.K) c.args.root c.args.shares.now c.args.chains.now 0 cs c.turn.new.waves (map g.R.RunRow.cells c.fall.new.cells)) (sym set) c.fall.ensures in
    all_done g.row.C (2 ^ g.row.K) c.args.root c.args.shares.now c.args.chains.now (map g.R.RunRow.cells c.args.cells.now) (map g.R.RunRow.cells c.rise.new.cells) (map g.R.RunRow.cells c.fall.new.cells) c.rise.new.waves c.turn.new.waves (g.R.RunRow.cells c.turn.new.self) inside
    c.rise.ensures turns fallen
