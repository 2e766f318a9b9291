use Rattle.std.proofs.Common.{rules, arith, ◌≡◌, ◌*◌, ◌<◌, ◌^◌, ◌∙◌, ap, replicate}
use Rattle.std.specs.Prelude.{ℤ, pos, ◌+ℤ◌, ◌-ℤ◌, ◌*ℤ◌, unsigned_abs}
use Rattle.std.proofs.lemmas.Nat.{pow_pos}
use Rattle.wdf_algebra.specs.Truncation.{trunc}
use Rattle.wdf_algebra.proofs.RoundingLemmas.{root-same}
use Rattle.wdf_loop.specs.RunCells.{wave_in}
use Rattle.wdf_loop.proofs.LaneLemmas.{negated-size, twice, zeros}
use Rattle.wdf_loop.proofs.Sizes.{sum-abs, whole-word}
use Rattle.wdf_loop.proofs.lanes.root_parts.Goals as goal

pub differences-requires : goal.differences-requires
differences-requires g c =
    let room : g.row.N * 8 < 2 ^ 63 = search rules in (
      room,
      λ i less.
          let own = whole-word (2 ^ g.row.K) (wave_in c.args.own i) (pow_pos g.row.K) (c.requires.own i less) in
          let none : unsigned_abs (wave_in (replicate g.row.N (pos 0)) i) ≡ 0 = ap unsigned_abs (zeros g.row.N i) in
          omega arith,
    )

pub parts-requires : goal.parts-requires
parts-requires g c =
    let room : g.row.N * 8 < 2 ^ 63 = search rules in (
      room,
      (
        c.requires.few,
        (
          (λ i less.
              let own = whole-word (2 ^ g.row.K) (wave_in c.args.own i) (pow_pos g.row.K) (c.requires.own i less) in
              let value : wave_in c.differences.result i ≡ pos 0 -ℤ wave_in c.args.own i = c.differences.ensures i less ∙ ap (λ (z : ℤ). z -ℤ wave_in c.args.own i) (zeros g.row.N i) in
              negated-size (wave_in c.args.own i) (wave_in c.differences.result i) own value),
          (λ i less.
              let small = c.requires.raws i less in
              let sum : unsigned_abs (wave_in c.sums.result i) ≡ unsigned_abs (wave_in c.args.raws i +ℤ wave_in c.args.raws i) = ap unsigned_abs (c.sums.ensures i less) in
              let twice = sum-abs (wave_in c.args.raws i) (wave_in c.args.raws i) in
              omega arith),
        ),
      ),
    )

pub returns : goal.returns
returns g c i less =
    let q = 2 ^ g.row.K in
    let value : wave_in c.differences.result i ≡ pos 0 -ℤ wave_in c.args.own i = c.differences.ensures i less ∙ ap (λ (z : ℤ). z -ℤ wave_in c.args.own i) (zeros g.row.N i) in
    let sum : wave_in c.sums.result i ≡ pos 2 *ℤ wave_in c.args.raws i = c.sums.ensures i less ∙ twice (wave_in c.args.raws i) in
    c.parts.ensures i less
    ∙ ((λ k. trunc (pos q *ℤ value k +ℤ sum k) q)
    ∙ ap (λ (z : ℤ). trunc z q) (root-same q (wave_in c.args.own i) (pos 2 *ℤ wave_in c.args.raws i)))
