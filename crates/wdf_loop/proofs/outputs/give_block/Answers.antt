use Rattle.std.proofs.Common.{rules, ◌≡◌, ℕ, ◌+◌, ◌*◌, ◌<◌, ◌≤◌, ◌^◌, List, [], length, sym, ◌∙◌, subst, arith}
use Rattle.std.specs.Prelude.{ℤ, unsigned_abs}
use Rattle.std.proofs.lemmas.List.{get_or_read}
use Rattle.wdf_law.specs.Elements.{signed}
use Rattle.wdf_loop.specs.Parts.{load_in}
use Rattle.wdf_loop.specs.RunCells.{wave_in}
use Rattle.wdf_loop.proofs.PlaceLemmas.{ahead, loads_more, others_stay}
use Rattle.wdf_loop.proofs.outputs.give_block.Goals as goal

pub give_row-requires : goal.give_row-requires
give_row-requires g c =
    let f = c.loop-f.f in
    let small : c.loop-f.f < c.args.count = c.loop-f-test.true in
    let room = ahead c.loop-f.f c.args.count c.args.all small in
    let rows = ahead c.loop-f.f c.args.count c.args.width small in
    let place = c.requires.outlet in
    let row = get_or_read c.args.waves.now (f * c.args.width + c.args.outlet.place) c.index-waves-f.result (omega (arith, rows, place, c.requires.rows)) c.index-waves-f.is [] in
    let runs : g.row.C ≤ 8 = c.requires.runs in
    let one : g.row.C * 8 < 9223372036854775808 = omega arith in
    let within = c.requires.within in
    let places : c.loop-f.f * c.args.all + c.args.first + g.row.C ≤ length c.loop-f.output = omega (arith, room, within, c.loop-f.invariant.long, c.requires.each) in
    let words : (k : ℕ) → k < g.row.C → unsigned_abs (wave_in c.index-waves-f.result k) ≤ 2 ^ 60 =
    λ k few. subst (λ (r : List ℤ). unsigned_abs (wave_in r k) ≤ 2 ^ 60) (sym row) (c.requires.words f k small few) in
    (one, (places, words))

pub loop-f-preserved : goal.loop-f-preserved
loop-f-preserved g c =
    let f = c.loop-f.f in
    let small : c.loop-f.f < c.args.count = c.loop-f-test.true in
    let rows = ahead c.loop-f.f c.args.count c.args.width small in
    let place = c.requires.outlet in
    let row = get_or_read c.args.waves.now (f * c.args.width + c.args.outlet.place) c.index-waves-f.result (omega (arith, rows, place, c.requires.rows)) c.index-waves-f.is [] in
    let long : length c.give_row.new.output ≡ length c.args.output.now = search rules in
    let stay = others_stay c.loop-f.f c.args.all c.args.first g.row.C c.loop-f.output c.give_row.new.output c.requires.within c.give_row.ensures.others in
    record {
      long = long;
      so_far = loads_more c.loop-f.f c.args.all c.args.first g.row.C (load_in c.args.width c.args.outlet c.args.waves.now) c.loop-f.output c.give_row.new.output c.requires.within c.loop-f.invariant.so_far
          (λ k few. c.give_row.ensures.waves k few ∙ (λ t. signed c.args.outlet.flip (wave_in (row t) k))) c.give_row.ensures.others;
      others = λ k run few side. stay k run few side ∙ c.loop-f.invariant.others k run few side;
    }
