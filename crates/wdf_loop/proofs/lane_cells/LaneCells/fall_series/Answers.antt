use Rattle.std.proofs.Common.{rules, arith, ◌*◌, ◌<◌, ◌≤◌, ◌^◌, ◌∙◌, ap}
use Rattle.std.specs.Prelude.{ℤ, ◌-ℤ◌}
use Rattle.std.proofs.lemmas.Nat.{pow_pos}
use Rattle.wdf_loop.specs.RunCells.{wave_in}
use Rattle.wdf_loop.proofs.LaneLemmas.{shared-size, sum-size}
use Rattle.wdf_loop.proofs.Sizes.{whole-word}
use Rattle.wdf_loop.proofs.lane_cells.LaneCells.fall_series.Goals as goal

pub differences-whole-requires : goal.differences-whole-requires
differences-whole-requires g c =
    let room : g.row.N * 8 < 2 ^ 63 = search rules in (
      room,
      λ i less.
          let q = 2 ^ g.row.K in
          let words = (c.requires.can i less).words in
          let sent = whole-word q (wave_in c.args.waves i) (pow_pos g.row.K) words.sent in
          let sum = sum-size q (wave_in c.args.self.now.up i) (wave_in c.args.self.now.below i) (wave_in c.sums.result i) (pow_pos g.row.K) words.up words.below (c.sums.ensures i less) in
          omega arith,
    )

pub series_parts-self-requires : goal.series_parts-self-requires
series_parts-self-requires g c =
    let room : g.row.N * 8 < 2 ^ 63 = search rules in
    let part : c.args.share.m ≤ 2 ^ g.row.K = let whole = c.requires.whole in omega arith in (
      room,
      (
        c.requires.few,
        (
          part,
          (
            (λ i less.
                let words = (c.requires.can i less).words in
                shared-size (2 ^ g.row.K) (wave_in c.args.waves i) (wave_in c.args.self.now.up i) (wave_in c.args.self.now.below i) (wave_in c.differences-whole.result i) words.sent words.up words.below
                (c.differences-whole.ensures i less ∙ ap (λ (z : ℤ). wave_in c.args.waves i -ℤ z) (c.sums.ensures i less))),
            (λ i less. (c.requires.can i less).words.up),
          ),
        ),
      ),
    )

pub series_parts-onward-requires : goal.series_parts-onward-requires
series_parts-onward-requires g c =
    let room : g.row.N * 8 < 2 ^ 63 = search rules in
    let part : c.args.share.n ≤ 2 ^ g.row.K = let whole = c.requires.whole in omega arith in (
      room,
      (
        c.requires.few,
        (
          part,
          (
            (λ i less.
                let words = (c.requires.can i less).words in
                shared-size (2 ^ g.row.K) (wave_in c.args.waves i) (wave_in c.args.self.now.up i) (wave_in c.args.self.now.below i) (wave_in c.differences-whole.result i) words.sent words.up words.below
                (c.differences-whole.ensures i less ∙ ap (λ (z : ℤ). wave_in c.args.waves i -ℤ z) (c.sums.ensures i less))),
            (λ i less. (c.requires.can i less).words.below),
          ),
        ),
      ),
    )
