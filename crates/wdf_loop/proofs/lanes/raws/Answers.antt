use Rattle.std.proofs.Common.{rules, arith, ◌≡◌, ◌*◌, ◌<◌, ◌^◌, ap}
use Rattle.std.specs.Prelude.{unsigned_abs}
use Rattle.wdf_algebra.specs.JunctionValues.{parallel_value}
use Rattle.wdf_loop.specs.RunCells.{wave_in}
use Rattle.wdf_loop.proofs.LaneLemmas.{product-size}
use Rattle.wdf_loop.proofs.Sizes.{shares-size}
use Rattle.wdf_loop.proofs.lanes.raws.Goals as goal

pub sums-requires : goal.sums-requires
sums-requires g c =
    let room : g.row.N * 8 < 2 ^ 63 = search rules in (
      room,
      λ i less.
          let q = 2 ^ g.row.K in
          let first = product-size q c.args.share.m (wave_in c.args.ups i) (wave_in c.products.result i) (omega arith) (c.requires.ups i less) (c.products.ensures i less) in
          let second = product-size q c.args.share.n (wave_in c.args.waves i) (wave_in c.products-2.result i) (omega arith) (c.requires.waves i less) (c.products-2.ensures i less) in
          omega arith,
    )

pub returns-clause-size : goal.returns-clause-size
returns-clause-size g c i less =
    let q = 2 ^ g.row.K in
    let value : wave_in c.sums.result i ≡ parallel_value c.args.share.m c.args.share.n (wave_in c.args.ups i) (wave_in c.args.waves i) = search (rules, c.sums.ensures, c.products.ensures, c.products-2.ensures) in
    let size : unsigned_abs (wave_in c.sums.result i) ≡ unsigned_abs (parallel_value c.args.share.m c.args.share.n (wave_in c.args.ups i) (wave_in c.args.waves i)) = ap unsigned_abs value in
    let small = shares-size q c.args.share.m c.args.share.n (wave_in c.args.ups i) (wave_in c.args.waves i) c.requires.whole (c.requires.ups i less) (c.requires.waves i less) in
    omega arith
