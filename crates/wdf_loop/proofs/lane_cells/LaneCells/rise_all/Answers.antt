use Rattle.std.proofs.Common.{rules, arith, ◌≡◌, ◌*◌, ◌<◌, ◌^◌, ◌∙◌, ap, sym, if◌then◌else◌, Bool}
use Rattle.std.specs.Prelude.{ℤ, ◌+ℤ◌}
use Rattle.std.proofs.lemmas.Nat.{pow_pos}
use Rattle.wdf_algebra.specs.JunctionValues.{parallel_value}
use Rattle.wdf_algebra.specs.Truncation.{trunc}
use Rattle.wdf_loop.specs.declared.cell.Cell.{Cell}
use Rattle.wdf_loop.specs.Cells.{reflects, risen_parallel, risen_series}
use Rattle.wdf_loop.specs.LaneCells.{lane_cell}
use Rattle.wdf_loop.specs.RunCells.{wave_in}
use Rattle.wdf_loop.proofs.LaneLemmas.{same-word}
use Rattle.wdf_loop.proofs.Sizes.{whole-word}
use Rattle.wdf_loop.proofs.lane_cells.LaneCells.rise_all.Goals as goal

pub sums-requires : goal.sums-requires
sums-requires g c =
    let room : g.row.N * 8 < 2 ^ 63 = search rules in (
      room,
      λ i less.
          let q = 2 ^ g.row.K in
          let can = c.requires.can i less in
          let value : wave_in c.raise.new.self.up i ≡ reflects c.args.share (lane_cell c.args.self.now i) = ap (λ (d : Cell). d.up) (c.raise.ensures i less) in
          let up = whole-word q (wave_in c.raise.new.self.up i) (pow_pos g.row.K) (same-word q (wave_in c.raise.new.self.up i) (reflects c.args.share (lane_cell c.args.self.now i)) value can.up) in
          let below = whole-word q (wave_in c.args.waves i) (pow_pos g.row.K) can.below in
          omega arith,
    )

pub raws-self-requires : goal.raws-self-requires
raws-self-requires g c =
    let room : g.row.N * 8 < 2 ^ 63 = search rules in (
      room,
      (
        c.requires.few,
        (
          c.requires.whole,
          (
            (λ i less.
                let value : wave_in c.raise.new.self.up i ≡ reflects c.args.share (lane_cell c.args.self.now i) = ap (λ (d : Cell). d.up) (c.raise.ensures i less) in
                same-word (2 ^ g.row.K) (wave_in c.raise.new.self.up i) (reflects c.args.share (lane_cell c.args.self.now i)) value (c.requires.can i less).up),
            (λ i less. (c.requires.can i less).below),
          ),
        ),
      ),
    )

pub returns-then-share : goal.returns-then-share
returns-then-share g c i less =
    let q = 2 ^ g.row.K in
    let w = wave_in c.args.waves i in
    let old = lane_cell c.args.self.now i in
    let parallel = c.if-share.true in
    let all = c.raise.ensures i less in
    let up : wave_in c.raise.new.self.up i ≡ reflects c.args.share old = ap (λ (d : Cell). d.up) all in
    let raw : wave_in c.raws-self.result i ≡ parallel_value c.args.share.m c.args.share.n (reflects c.args.share old) w = c.raws-self.ensures.values i less ∙ ap (λ (z : ℤ). parallel_value c.args.share.m c.args.share.n z w) up in
    record {
      cell = (λ k. record {
        fed = (all k).fed;
        under = (all k).under;
        up = up k;
        below = (all k).below;
        raw = raw k;
        down = (all k).down;
        onward = (all k).onward;
      }) ∙ ap (λ (t : Bool). if t then risen_parallel c.args.share w old else risen_series c.args.share w old) (sym parallel);
      wave = c.brought_back.ensures i less ∙ ap (λ (t : Bool). if t then trunc (wave_in c.raws-self.result i) q else wave_in c.raise.new.self.up i +ℤ wave_in c.raise.new.self.below i) (sym parallel);
    }

pub returns : goal.returns
returns g c i less =
    let q = 2 ^ g.row.K in
    let w = wave_in c.args.waves i in
    let old = lane_cell c.args.self.now i in
    let series = c.if-share.false in
    let all = c.raise.ensures i less in
    let below : w ≡ wave_in c.raise.new.self.below i = sym (ap (λ (d : Cell). d.below) all) in
    record {
      cell = all ∙ ap (λ (t : Bool). if t then risen_parallel c.args.share w old else risen_series c.args.share w old) (sym series);
      wave = c.sums.ensures i less ∙ (ap (λ (z : ℤ). wave_in c.raise.new.self.up i +ℤ z) below ∙ ap (λ (t : Bool). if t then trunc (wave_in c.raise.new.self.raw i) q else wave_in c.raise.new.self.up i +ℤ wave_in c.raise.new.self.below i) (sym series));
    }
