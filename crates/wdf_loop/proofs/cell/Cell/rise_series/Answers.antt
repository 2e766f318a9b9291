use Rattle.std.proofs.Common.{◌≡◌, ◌^◌, sym, subst, arith, w64}
use Rattle.std.proofs.lemmas.Int.{to_z-of_z}
use Rattle.std.proofs.lemmas.Nat.{pow_pos}
use mir.Val.{SFits}
use Rattle.wdf_loop.specs.Cells.{IsWord, reflects}
use Rattle.wdf_loop.proofs.Sizes.{whole-word}
use Rattle.wdf_loop.proofs.cell.Cell.rise_series.Goals as goal

pub plus-requires : goal.plus-requires
plus-requires g c =
    let f1 : SFits w64 c.args.wave = c.ranges.wave in
    let f2 : SFits w64 c.reflected-self.result = record { sfits = c.reflected-self.type_inv } in
    let own : c.reflected-self.result ≡ reflects c.args.share c.args.self.now = c.reflected-self.ensures in
    let up = whole-word (2 ^ g.row.K) c.reflected-self.result (pow_pos g.row.K) (subst (IsWord (2 ^ g.row.K)) (sym own) c.requires.can.up) in
    let below = whole-word (2 ^ g.row.K) c.args.wave (pow_pos g.row.K) c.requires.can.below in
    simp to_z-of_z (omega arith)
