use Rattle.std.proofs.Common.{rules, arith, ◌≡◌, ◌*◌, ◌<◌, ◌^◌, ◌∙◌, ap}
use Rattle.std.specs.Prelude.{pos, unsigned_abs}
use Rattle.std.proofs.lemmas.Int.{unsigned_abs-mul}
use Rattle.std.proofs.lemmas.Nat.{pow_pos}
use Rattle.wdf_loop.specs.RunCells.{wave_in}
use Rattle.wdf_loop.proofs.Sizes.{share, whole-word}
use Rattle.wdf_loop.proofs.lanes.series_parts.Goals as goal

pub parts-requires : goal.parts-requires
parts-requires g c =
    let room : g.row.N * 8 < 2 ^ 63 = search rules in (
      room,
      (
        c.requires.few,
        (
          (λ i less. let own = whole-word (2 ^ g.row.K) (wave_in c.args.own i) (pow_pos g.row.K) (c.requires.own i less) in omega arith),
          (λ i less.
              let least = share c.args.m (2 ^ g.row.K) (unsigned_abs (wave_in c.args.whole i)) c.requires.part in
              let most = c.requires.whole i less in
              let size : unsigned_abs (wave_in c.products.result i) ≡ c.args.m * unsigned_abs (wave_in c.args.whole i) = ap unsigned_abs (c.products.ensures i less) ∙ unsigned_abs-mul (pos c.args.m) (wave_in c.args.whole i) in
              omega arith),
        ),
      ),
    )
