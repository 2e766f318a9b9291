use Rattle.std.proofs.Common.{rules, ◌≡◌, ◌+◌, ◌*◌, ◌≤◌, ◌^◌, ap, ◌∙◌, arith, w64}
use Rattle.std.specs.Prelude.{ℤ, pos, ◌+ℤ◌, ◌-ℤ◌, ◌*ℤ◌, unsigned_abs}
use Rattle.std.proofs.lemmas.Int.{to_z-of_z}
use Rattle.std.proofs.lemmas.Nat.{pow_pos}
use mir.Val.{SFits}
use Rattle.wdf_algebra.specs.Truncation.{trunc}
use Rattle.wdf_loop.proofs.Sizes.{three-words, whole-word}
use Rattle.wdf_loop.proofs.cell.Cell.fall_series.Goals as goal

pub plus-requires : goal.plus-requires
plus-requires g c =
    let f1 : SFits w64 c.args.self.now.up = search rules in
    let f2 : SFits w64 c.args.self.now.below = search rules in
    let up = whole-word (2 ^ g.row.K) c.args.self.now.up (pow_pos g.row.K) c.requires.words.up in
    let below = whole-word (2 ^ g.row.K) c.args.self.now.below (pow_pos g.row.K) c.requires.words.below in
    simp to_z-of_z (omega arith)

pub minus-whole-requires : goal.minus-whole-requires
minus-whole-requires g c =
    let f1 : SFits w64 c.args.self.now.up = search rules in
    let f2 : SFits w64 c.args.self.now.below = search rules in
    let f3 : SFits w64 c.args.wave = c.ranges.wave in
    let f4 : SFits w64 c.plus.result = record { sfits = c.plus.type_inv } in
    let up = whole-word (2 ^ g.row.K) c.args.self.now.up (pow_pos g.row.K) c.requires.words.up in
    let below = whole-word (2 ^ g.row.K) c.args.self.now.below (pow_pos g.row.K) c.requires.words.below in
    let sent = whole-word (2 ^ g.row.K) c.args.wave (pow_pos g.row.K) c.requires.words.sent in
    let size : unsigned_abs c.plus.result ≤ unsigned_abs c.args.self.now.up + unsigned_abs c.args.self.now.below = simp to_z-of_z at c.plus.ensures.size in
    simp to_z-of_z (omega arith)

pub weighed-first-requires-clause-small : goal.weighed-first-requires-clause-small
weighed-first-requires-clause-small g c =
    let f1 : SFits w64 c.args.self.now.up = search rules in
    let f2 : SFits w64 c.args.self.now.below = search rules in
    let f3 : SFits w64 c.args.wave = c.ranges.wave in
    let f4 : SFits w64 c.plus.result = record { sfits = c.plus.type_inv } in
    let f5 : SFits w64 c.minus-whole.result = record { sfits = c.minus-whole.type_inv } in
    let size : unsigned_abs c.plus.result ≤ unsigned_abs c.args.self.now.up + unsigned_abs c.args.self.now.below = simp to_z-of_z at c.plus.ensures.size in
    let whole : unsigned_abs c.minus-whole.result ≤ unsigned_abs c.args.wave + unsigned_abs c.plus.result = simp to_z-of_z at c.minus-whole.ensures.size in
    let three : 2 ^ g.row.K * unsigned_abs c.minus-whole.result ≤ 3 * 2 ^ 60 =
    three-words (2 ^ g.row.K) (unsigned_abs c.args.wave) (unsigned_abs c.args.self.now.up) (unsigned_abs c.args.self.now.below) (unsigned_abs c.minus-whole.result) (omega arith)
    c.requires.words.sent c.requires.words.up c.requires.words.below in
    simp to_z-of_z (omega arith)

pub series_first_part-self-requires-clause-share : goal.series_first_part-self-requires-clause-share
series_first_part-self-requires-clause-share g c =
    let f1 : SFits w64 c.args.self.now.up = search rules in
    let f2 : SFits w64 c.args.self.now.below = search rules in
    let f3 : SFits w64 c.args.wave = c.ranges.wave in
    let f4 : SFits w64 c.plus.result = record { sfits = c.plus.type_inv } in
    let f5 : SFits w64 c.minus-whole.result = record { sfits = c.minus-whole.type_inv } in
    let f6 : SFits w64 c.weighed-first.result = record { sfits = c.weighed-first.type_inv } in
    let size : unsigned_abs c.plus.result ≤ unsigned_abs c.args.self.now.up + unsigned_abs c.args.self.now.below = simp to_z-of_z at c.plus.ensures.size in
    let whole : unsigned_abs c.minus-whole.result ≤ unsigned_abs c.args.wave + unsigned_abs c.plus.result = simp to_z-of_z at c.minus-whole.ensures.size in
    let three : 2 ^ g.row.K * unsigned_abs c.minus-whole.result ≤ 3 * 2 ^ 60 =
    three-words (2 ^ g.row.K) (unsigned_abs c.args.wave) (unsigned_abs c.args.self.now.up) (unsigned_abs c.args.self.now.below) (unsigned_abs c.minus-whole.result) (omega arith)
    c.requires.words.sent c.requires.words.up c.requires.words.below in
    let share : unsigned_abs c.weighed-first.result ≤ 2 ^ g.row.K * unsigned_abs c.minus-whole.result = simp to_z-of_z at c.weighed-first.ensures.size in
    simp to_z-of_z (omega arith)

pub series_second_part-self-requires-clause-share : goal.series_second_part-self-requires-clause-share
series_second_part-self-requires-clause-share g c =
    let f1 : SFits w64 c.args.self.now.up = search rules in
    let f2 : SFits w64 c.args.self.now.below = search rules in
    let f3 : SFits w64 c.args.wave = c.ranges.wave in
    let f4 : SFits w64 c.plus.result = record { sfits = c.plus.type_inv } in
    let f5 : SFits w64 c.minus-whole.result = record { sfits = c.minus-whole.type_inv } in
    let f6 : SFits w64 c.weighed-first.result = record { sfits = c.weighed-first.type_inv } in
    let size : unsigned_abs c.plus.result ≤ unsigned_abs c.args.self.now.up + unsigned_abs c.args.self.now.below = simp to_z-of_z at c.plus.ensures.size in
    let whole : unsigned_abs c.minus-whole.result ≤ unsigned_abs c.args.wave + unsigned_abs c.plus.result = simp to_z-of_z at c.minus-whole.ensures.size in
    let three : 2 ^ g.row.K * unsigned_abs c.minus-whole.result ≤ 3 * 2 ^ 60 =
    three-words (2 ^ g.row.K) (unsigned_abs c.args.wave) (unsigned_abs c.args.self.now.up) (unsigned_abs c.args.self.now.below) (unsigned_abs c.minus-whole.result) (omega arith)
    c.requires.words.sent c.requires.words.up c.requires.words.below in
    let share : unsigned_abs c.weighed-first.result ≤ 2 ^ g.row.K * unsigned_abs c.minus-whole.result = simp to_z-of_z at c.weighed-first.ensures.size in
    simp to_z-of_z (omega arith)

pub series_second_part-self-requires-clause-whole : goal.series_second_part-self-requires-clause-whole
series_second_part-self-requires-clause-whole g c =
    let f1 : SFits w64 c.args.self.now.up = search rules in
    let f2 : SFits w64 c.args.self.now.below = search rules in
    let f3 : SFits w64 c.args.wave = c.ranges.wave in
    let f4 : SFits w64 c.plus.result = record { sfits = c.plus.type_inv } in
    let f5 : SFits w64 c.minus-whole.result = record { sfits = c.minus-whole.type_inv } in
    let size : unsigned_abs c.plus.result ≤ unsigned_abs c.args.self.now.up + unsigned_abs c.args.self.now.below = simp to_z-of_z at c.plus.ensures.size in
    let whole : unsigned_abs c.minus-whole.result ≤ unsigned_abs c.args.wave + unsigned_abs c.plus.result = simp to_z-of_z at c.minus-whole.ensures.size in
    let three : 2 ^ g.row.K * unsigned_abs c.minus-whole.result ≤ 3 * 2 ^ 60 =
    three-words (2 ^ g.row.K) (unsigned_abs c.args.wave) (unsigned_abs c.args.self.now.up) (unsigned_abs c.args.self.now.below) (unsigned_abs c.minus-whole.result) (omega arith)
    c.requires.words.sent c.requires.words.up c.requires.words.below in
    simp to_z-of_z three

pub returns-clause-cell : goal.returns-clause-cell
returns-clause-cell g c =
    let f1 : SFits w64 c.args.self.now.up = search rules in
    let f2 : SFits w64 c.args.self.now.below = search rules in
    let f3 : SFits w64 c.args.wave = c.ranges.wave in
    let f4 : SFits w64 c.plus.result = record { sfits = c.plus.type_inv } in
    let f5 : SFits w64 c.minus-whole.result = record { sfits = c.minus-whole.type_inv } in
    let f6 : SFits w64 c.weighed-first.result = record { sfits = c.weighed-first.type_inv } in
    let f7 : SFits w64 c.series_first_part-self.result = record { sfits = c.series_first_part-self.type_inv } in
    let f8 : SFits w64 c.series_second_part-self.result = record { sfits = c.series_second_part-self.type_inv } in
    let sum : c.plus.result ≡ c.args.self.now.up +ℤ c.args.self.now.below = simp to_z-of_z at c.plus.ensures.value in
    let rest : c.minus-whole.result ≡ c.args.wave -ℤ c.plus.result = simp to_z-of_z at c.minus-whole.ensures.value in
    let whole : c.minus-whole.result ≡ c.args.wave -ℤ (c.args.self.now.up +ℤ c.args.self.now.below) = rest ∙ ap (λ (a : ℤ). c.args.wave -ℤ a) sum in
    let product : c.weighed-first.result ≡ pos c.args.share.m *ℤ c.minus-whole.result = simp to_z-of_z at c.weighed-first.ensures.value in
    let first : c.series_first_part-self.result ≡ trunc (pos (2 ^ g.row.K) *ℤ c.args.self.now.up +ℤ c.weighed-first.result) (2 ^ g.row.K) = simp to_z-of_z at c.series_first_part-self.ensures in
    let beside : c.series_first_part-self.result ≡ trunc (pos (2 ^ g.row.K) *ℤ c.args.self.now.up +ℤ pos c.args.share.m *ℤ c.minus-whole.result) (2 ^ g.row.K) =
    first ∙ ap (λ (a : ℤ). trunc (pos (2 ^ g.row.K) *ℤ c.args.self.now.up +ℤ a) (2 ^ g.row.K)) product in
    let second : c.series_second_part-self.result ≡ trunc (pos (2 ^ g.row.K) *ℤ c.args.self.now.below +ℤ pos c.args.share.n *ℤ c.minus-whole.result) (2 ^ g.row.K) =
    simp to_z-of_z at (c.series_second_part-self.ensures c.args.share.m c.args.share.n c.requires.whole (simp to_z-of_z product)) in
    λ i. record {
      fed = c.args.self.now.fed;
      under = c.args.self.now.under;
      up = c.args.self.now.up;
      below = c.args.self.now.below;
      raw = c.args.self.now.raw;
      down = (to_z-of_z w64 c.series_first_part-self.result f7 ∙ (beside ∙ ap (λ (a : ℤ). trunc (pos (2 ^ g.row.K) *ℤ c.args.self.now.up +ℤ pos c.args.share.m *ℤ a) (2 ^ g.row.K)) whole)) i;
      onward = (to_z-of_z w64 c.series_second_part-self.result f8 ∙ (second ∙ ap (λ (a : ℤ). trunc (pos (2 ^ g.row.K) *ℤ c.args.self.now.below +ℤ pos c.args.share.n *ℤ a) (2 ^ g.row.K)) whole)) i;
    }
