use Rattle.std.proofs.Common.{rules, w64, ◌*◌, ◌<◌, ◌≤◌, ◌^◌, ◌≡◌, subst, sym}
use Rattle.std.specs.Prelude.{ℤ, unsigned_abs}
use Rattle.std.proofs.lemmas.Int.{to_z-of_z}
use mir.Val.{SFits}
use Rattle.wdf_loop.specs.Cells.{reflects}
use Rattle.wdf_loop.specs.LaneCells.{lane_cell}
use Rattle.wdf_loop.specs.RunCells.{wave_in}
use Rattle.wdf_loop.proofs.lane_cells.LaneCells.raise.Goals as goal

pub reflected-self-requires : goal.reflected-self-requires
reflected-self-requires g c =
    let room : g.row.N * 8 < 2 ^ 63 = search rules in
    let fits : SFits w64 c.args.share.sign = search rules in (
      room,
      (
        c.requires.few,
        (
          (λ i less. subst (λ (z : ℤ). unsigned_abs z ≤ 1) (sym (to_z-of_z w64 c.args.share.sign fits)) (c.requires.can i less).sign),
          (
            (λ i less. (c.requires.can i less).down),
            (λ i less. (c.requires.can i less).fed),
          ),
        ),
      ),
    )

pub returns : goal.returns
returns g c i less =
    let old = lane_cell c.args.self.now i in
    let fits : SFits w64 c.args.share.sign = search rules in
    let value : wave_in c.reflected-self.result i ≡ reflects c.args.share old = simp to_z-of_z at (c.reflected-self.ensures i less) in
    λ k. record {
      fed = old.fed;
      under = old.under;
      up = value k;
      below = wave_in c.args.waves i;
      raw = old.raw;
      down = old.down;
      onward = old.onward;
    }
