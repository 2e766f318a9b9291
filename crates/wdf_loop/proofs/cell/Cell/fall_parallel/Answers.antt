use Rattle.std.proofs.Common.{rules, ◌≡◌, ℕ, ◌+◌, ◌≤◌, ◌^◌, ap, ◌∙◌, arith, w64}
use Rattle.std.specs.Prelude.{ℤ, pos, ◌+ℤ◌, ◌-ℤ◌, ◌*ℤ◌, unsigned_abs}
use Rattle.std.proofs.lemmas.Int.{to_z-of_z}
use Rattle.std.proofs.lemmas.Nat.{pow_pos}
use mir.Val.{SFits}
use Rattle.wdf_algebra.proofs.RoundingLemmas.{parallel-same}
use Rattle.wdf_algebra.specs.Roundings.{Rounds}
use Rattle.wdf_algebra.specs.Truncation.{trunc}
use Rattle.wdf_loop.proofs.Sizes.{whole-word}
use Rattle.wdf_loop.proofs.cell.Cell.fall_parallel.Goals as goal

pub raised-self-requires-clause-whole : goal.raised-self-requires-clause-whole
raised-self-requires-clause-whole g c =
    let f1 : SFits w64 c.args.wave = c.ranges.wave in
    let f2 : SFits w64 c.args.self.now.below = search rules in
    let f3 : SFits w64 c.minus.result = record { sfits = c.minus.type_inv } in
    let size : unsigned_abs c.minus.result ≤ unsigned_abs c.args.wave + unsigned_abs c.args.self.now.below = simp to_z-of_z at c.minus.ensures.size in
    let sent = whole-word (2 ^ g.row.K) c.args.wave (pow_pos g.row.K) c.requires.words.sent in
    let own = whole-word (2 ^ g.row.K) c.args.self.now.below (pow_pos g.row.K) c.requires.words.below in
    simp to_z-of_z (omega arith)

pub minus-requires-2 : goal.minus-requires-2
minus-requires-2 g c =
    let f1 : SFits w64 c.args.wave = c.ranges.wave in
    let f2 : SFits w64 c.args.self.now.up = search rules in
    let sent = whole-word (2 ^ g.row.K) c.args.wave (pow_pos g.row.K) c.requires.words.sent in
    let own = whole-word (2 ^ g.row.K) c.args.self.now.up (pow_pos g.row.K) c.requires.words.up in
    simp to_z-of_z (omega arith)

pub raised-self-requires-2-clause-whole : goal.raised-self-requires-2-clause-whole
raised-self-requires-2-clause-whole g c =
    let f1 : SFits w64 c.args.wave = c.ranges.wave in
    let f2 : SFits w64 c.args.self.now.up = search rules in
    let f3 : SFits w64 c.minus-2.result = record { sfits = c.minus-2.type_inv } in
    let size : unsigned_abs c.minus-2.result ≤ unsigned_abs c.args.wave + unsigned_abs c.args.self.now.up = simp to_z-of_z at c.minus-2.ensures.size in
    let sent = whole-word (2 ^ g.row.K) c.args.wave (pow_pos g.row.K) c.requires.words.sent in
    let own = whole-word (2 ^ g.row.K) c.args.self.now.up (pow_pos g.row.K) c.requires.words.up in
    simp to_z-of_z (omega arith)

pub returns-clause-cell : goal.returns-clause-cell
returns-clause-cell g c =
    let q : ℕ = 2 ^ g.row.K in
    let f1 : SFits w64 c.args.wave = c.ranges.wave in
    let f2 : SFits w64 c.args.self.now.up = search rules in
    let f3 : SFits w64 c.args.self.now.below = search rules in
    let f4 : SFits w64 c.args.self.now.raw = search rules in
    let f5 : SFits w64 c.raised-self-2.result = record { sfits = c.raised-self-2.type_inv } in
    let f6 : SFits w64 c.raised-self.result = record { sfits = c.raised-self.type_inv } in
    let f7 : SFits w64 c.minus-2.result = record { sfits = c.minus-2.type_inv } in
    let f8 : SFits w64 c.minus.result = record { sfits = c.minus.type_inv } in
    let rounds : Rounds (2 ^ g.row.K) c.args.self.now.raw c.by_power-sum.result.floor c.by_power-sum.result.ceiling = simp to_z-of_z at c.by_power-sum.ensures.rounds in
    let down-units : c.minus-2.result ≡ c.args.wave -ℤ c.args.self.now.up = simp to_z-of_z at c.minus-2.ensures.value in
    let down : c.raised-self-2.result ≡ trunc (pos (2 ^ g.row.K) *ℤ c.minus-2.result +ℤ c.args.self.now.raw) (2 ^ g.row.K) =
    simp to_z-of_z at (c.raised-self-2.ensures (2 ^ g.row.K) c.args.self.now.raw rounds) in
    let onward-units : c.minus.result ≡ c.args.wave -ℤ c.args.self.now.below = simp to_z-of_z at c.minus.ensures.value in
    let onward : c.raised-self.result ≡ trunc (pos (2 ^ g.row.K) *ℤ c.minus.result +ℤ c.args.self.now.raw) (2 ^ g.row.K) =
    simp to_z-of_z at (c.raised-self.ensures (2 ^ g.row.K) c.args.self.now.raw rounds) in
    λ i. record {
      fed = c.args.self.now.fed;
      under = c.args.self.now.under;
      up = c.args.self.now.up;
      below = c.args.self.now.below;
      raw = c.args.self.now.raw;
      down = (to_z-of_z w64 c.raised-self-2.result f5 ∙ (down ∙ (ap (λ (w : ℤ). trunc (pos q *ℤ w +ℤ c.args.self.now.raw) q) down-units ∙ ap (λ (z : ℤ). trunc z q) (parallel-same q c.args.wave c.args.self.now.up c.args.self.now.raw)))) i;
      onward = (to_z-of_z w64 c.raised-self.result f6 ∙ (onward ∙ (ap (λ (w : ℤ). trunc (pos q *ℤ w +ℤ c.args.self.now.raw) q) onward-units ∙ ap (λ (z : ℤ). trunc z q) (parallel-same q c.args.wave c.args.self.now.below c.args.self.now.raw)))) i;
    }
