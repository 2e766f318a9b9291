use Rattle.std.proofs.Common.{◌≡◌, ◌^◌, ap, sym, ◌∙◌, subst, w64}
use Rattle.std.specs.Prelude.{ℤ, pos, ◌+ℤ◌, ◌-ℤ◌, ◌*ℤ◌}
use Rattle.std.proofs.lemmas.Int.{to_z-of_z}
use Rattle.std.proofs.lemmas.Nat.{pow_pos}
use mir.Val.{SFits}
use Rattle.wdf_algebra.specs.JunctionValues.{root_value}
use Rattle.wdf_algebra.specs.Roundings.{Rounds}
use Rattle.wdf_algebra.specs.Truncation.{trunc}
use Rattle.wdf_loop.specs.Cells.{IsWord, reflects}
use Rattle.wdf_loop.proofs.Sizes.{whole-word}
use Rattle.wdf_loop.proofs.cell.Cell.turn.Goals as goal

pub root_part-self-requires-2-clause-own : goal.root_part-self-requires-2-clause-own
root_part-self-requires-2-clause-own g c =
    let f2 : SFits w64 c.reflected-self.result = record { sfits = c.reflected-self.type_inv } in
    let own : c.reflected-self.result ≡ reflects c.args.share c.args.self.now = c.reflected-self.ensures in
    simp to_z-of_z (whole-word (2 ^ g.row.K) c.reflected-self.result (pow_pos g.row.K) (subst (IsWord (2 ^ g.row.K)) (sym own) c.requires.can.up))

pub root_part-self-requires-clause-own : goal.root_part-self-requires-clause-own
root_part-self-requires-clause-own g c =
    let f1 : SFits w64 c.args.wave = c.ranges.wave in
    simp to_z-of_z (whole-word (2 ^ g.row.K) c.args.wave (pow_pos g.row.K) c.requires.can.below)

pub returns-clause-cell : goal.returns-clause-cell
returns-clause-cell g c =
    let f1 : SFits w64 c.args.wave = c.ranges.wave in
    let f2 : SFits w64 c.reflected-self.result = record { sfits = c.reflected-self.type_inv } in
    let f3 : SFits w64 c.weighed.result = record { sfits = c.weighed.type_inv } in
    let f4 : SFits w64 c.weighed-2.result = record { sfits = c.weighed-2.type_inv } in
    let f5 : SFits w64 c.plus-sum.result = record { sfits = c.plus-sum.type_inv } in
    let f6 : SFits w64 c.times.result = record { sfits = c.times.type_inv } in
    let f7 : SFits w64 c.root_part-self-2.result = record { sfits = c.root_part-self-2.type_inv } in
    let f8 : SFits w64 c.root_part-self.result = record { sfits = c.root_part-self.type_inv } in
    let own : c.reflected-self.result ≡ reflects c.args.share c.args.self.now = c.reflected-self.ensures in
    let one : c.weighed.result ≡ pos c.args.share.m *ℤ c.reflected-self.result = simp to_z-of_z at c.weighed.ensures.value in
    let two : c.weighed-2.result ≡ pos c.args.share.n *ℤ c.args.wave = simp to_z-of_z at c.weighed-2.ensures.value in
    let sum : c.plus-sum.result ≡ c.weighed.result +ℤ c.weighed-2.result = simp to_z-of_z at c.plus-sum.ensures.value in
    let double : c.times.result ≡ pos 2 *ℤ c.plus-sum.result = simp to_z-of_z at c.times.ensures.value in
    let voltage : c.times.result ≡ pos 2 *ℤ (pos c.args.share.m *ℤ c.reflected-self.result +ℤ pos c.args.share.n *ℤ c.args.wave) =
    double ∙ ap (λ (a : ℤ). pos 2 *ℤ a) (sum ∙ (λ i. one i +ℤ two i)) in
    let rounds : Rounds (2 ^ g.row.K) c.times.result c.by_power-voltage.result.floor c.by_power-voltage.result.ceiling = simp to_z-of_z at c.by_power-voltage.ensures.rounds in
    let down : c.root_part-self-2.result ≡ trunc (c.times.result -ℤ pos (2 ^ g.row.K) *ℤ c.reflected-self.result) (2 ^ g.row.K) =
    simp to_z-of_z at (c.root_part-self-2.ensures (2 ^ g.row.K) c.times.result rounds) in
    let onward : c.root_part-self.result ≡ trunc (c.times.result -ℤ pos (2 ^ g.row.K) *ℤ c.args.wave) (2 ^ g.row.K) =
    simp to_z-of_z at (c.root_part-self.ensures (2 ^ g.row.K) c.times.result rounds) in
    let first : c.root_part-self-2.result ≡ trunc (root_value (2 ^ g.row.K) c.args.share.m c.args.share.n c.reflected-self.result c.args.wave c.reflected-self.result) (2 ^ g.row.K) =
    down ∙ ap (λ (a : ℤ). trunc (a -ℤ pos (2 ^ g.row.K) *ℤ c.reflected-self.result) (2 ^ g.row.K)) voltage in
    let second : c.root_part-self.result ≡ trunc (root_value (2 ^ g.row.K) c.args.share.m c.args.share.n c.reflected-self.result c.args.wave c.args.wave) (2 ^ g.row.K) =
    onward ∙ ap (λ (a : ℤ). trunc (a -ℤ pos (2 ^ g.row.K) *ℤ c.args.wave) (2 ^ g.row.K)) voltage in
    λ i. record {
      fed = c.args.self.now.fed;
      under = c.args.self.now.under;
      up = (to_z-of_z w64 c.reflected-self.result f2 ∙ own) i;
      below = to_z-of_z w64 c.args.wave f1 i;
      raw = c.args.self.now.raw;
      down = (to_z-of_z w64 c.root_part-self-2.result f7 ∙ (first ∙ (λ j. trunc (root_value (2 ^ g.row.K) c.args.share.m c.args.share.n (own j) c.args.wave (own j)) (2 ^ g.row.K)))) i;
      onward = (to_z-of_z w64 c.root_part-self.result f8 ∙ (second ∙ (λ j. trunc (root_value (2 ^ g.row.K) c.args.share.m c.args.share.n (own j) c.args.wave c.args.wave) (2 ^ g.row.K)))) i;
    }
