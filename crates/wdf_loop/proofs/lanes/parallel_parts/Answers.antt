use Rattle.std.proofs.Common.{rules, arith, ◌*◌, ◌<◌, ◌^◌, ◌∙◌, ap}
use Rattle.std.specs.Prelude.{ℤ, pos, ◌+ℤ◌, ◌*ℤ◌}
use Rattle.std.proofs.lemmas.Nat.{pow_pos}
use Rattle.wdf_algebra.specs.Truncation.{trunc}
use Rattle.wdf_algebra.proofs.RoundingLemmas.{parallel-same}
use Rattle.wdf_loop.specs.RunCells.{wave_in}
use Rattle.wdf_loop.proofs.LaneLemmas.{difference-size}
use Rattle.wdf_loop.proofs.lanes.parallel_parts.Goals as goal

pub parts-requires : goal.parts-requires
parts-requires g c =
    let room : g.row.N * 8 < 2 ^ 63 = search rules in (
      room,
      (
        c.requires.few,
        (
          (λ i less. difference-size (2 ^ g.row.K) (wave_in c.args.waves i) (wave_in c.args.own i) (wave_in c.differences.result i) (pow_pos g.row.K) (c.requires.waves i less) (c.requires.own i less) (c.differences.ensures i less)),
          (λ i less. let small = c.requires.raws i less in omega arith),
        ),
      ),
    )

pub returns : goal.returns
returns g c i less =
    let q = 2 ^ g.row.K in
    c.parts.ensures i less
    ∙ (ap (λ (w : ℤ). trunc (pos q *ℤ w +ℤ wave_in c.args.raws i) q) (c.differences.ensures i less)
    ∙ ap (λ (z : ℤ). trunc z q) (parallel-same q (wave_in c.args.waves i) (wave_in c.args.own i) (wave_in c.args.raws i)))
