use Rattle.std.proofs.Common.{rules, ◌≡◌, ◌≤◌, ◌^◌, ◌∙◌, arith, w64, to_z, of_z}
use Rattle.std.proofs.lemmas.Int.{to_z-of_z}
use Rattle.std.proofs.lemmas.List.{length-set}
use mir.Val.{SFits}
use Rattle.wdf_loop.specs.Cells.{turned}
use Rattle.wdf_loop.specs.RunCells.{Turns, cell_in, wave_in}
use Rattle.wdf_loop.proofs.RunLemmas.{each_more, cell_later, wave_later}
use Rattle.wdf_loop.proofs.runs.turn.Goals as goal

pub loop-c-preserved : goal.loop-c-preserved
loop-c-preserved g c =
    let long = c.loop-c.invariant.cells_long in
    let places = c.loop-c.invariant.waves_long in
    let here : c.loop-c.c ≤ c.loop-c.c = omega arith in
    let f1 : SFits w64 (wave_in c.loop-c.waves c.loop-c.c) = search rules in
    let f2 : SFits w64 c.turn.result = record { sfits = c.turn.type_inv } in
    let own : c.turn.new.self ≡ turned (2 ^ g.row.K) c.args.share (wave_in c.loop-c.waves c.loop-c.c) (cell_in c.loop-c.row c.loop-c.c) = simp to_z-of_z at c.turn.ensures.cell in
    let cell : c.turn.new.self ≡ turned (2 ^ g.row.K) c.args.share (wave_in c.args.waves.now c.loop-c.c) (cell_in c.args.row.now c.loop-c.c) =
    own ∙ (λ i. turned (2 ^ g.row.K) c.args.share (c.loop-c.invariant.waves c.loop-c.c here i) (c.loop-c.invariant.cells c.loop-c.c here i)) in
    let wave : to_z w64 (of_z w64 c.turn.result) ≡ c.turn.new.self.onward = to_z-of_z w64 c.turn.result f2 ∙ c.turn.ensures.wave in
    record {
      cells_long = length-set c.loop-c.row c.loop-c.c c.turn.new.self ∙ long;
      waves_long = length-set c.loop-c.waves c.loop-c.c (to_z w64 (of_z w64 c.turn.result)) ∙ places;
      so_far = each_more (Turns (2 ^ g.row.K) c.args.share) c.loop-c.c c.args.row.now c.loop-c.row c.args.waves.now c.loop-c.waves c.turn.new.self (to_z w64 (of_z w64 c.turn.result))
          (omega arith) (omega arith) c.loop-c.invariant.so_far (record { cell = cell; wave = wave });
      cells = λ i h. cell_later c.loop-c.c c.loop-c.row c.turn.new.self i h ∙ c.loop-c.invariant.cells i (omega arith);
      waves = λ i h. wave_later c.loop-c.c c.loop-c.waves (to_z w64 (of_z w64 c.turn.result)) i h ∙ c.loop-c.invariant.waves i (omega arith);
    }
