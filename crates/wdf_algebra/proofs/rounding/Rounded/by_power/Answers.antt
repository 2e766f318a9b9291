use Rattle.std.proofs.Common.{rules, w64, ◌≡◌, ℕ, ◌<◌, ◌≤◌, arith, sym, subst, ap, ◌∙◌}
use Rattle.std.specs.Prelude.{ℤ, pos, unsigned_abs, ◌-◌, ◌^◌, ◌+ℤ◌, ◌-ℤ◌}
use Rattle.std.proofs.lemmas.Int.{to_z-of_z}
use mir.Val.{SFits}
use Rattle.std.proofs.lemmas.Nat.{pow_pos}
use lib.Signed.{shr_z}
use Rattle.wdf_algebra.specs.Roundings.{Rounds}
use Rattle.wdf_algebra.proofs.RoundingLemmas.{one-less, shifts-round, small-floor, small-ceiling}
use Rattle.wdf_algebra.proofs.rounding.Rounded.by_power.Goals as goal

rounds : (q : ℕ) (x p : ℤ) → 0 < q → p ≡ pos q → Rounds q x (shr_z x q) (shr_z (x +ℤ (p -ℤ pos 1)) q)
rounds q x p some unit =
    let less : p -ℤ pos 1 ≡ pos (q - 1) = ap (λ (a : ℤ). a -ℤ pos 1) unit ∙ one-less q some in
    subst (λ (a : ℤ). Rounds q x (shr_z x q) (shr_z (x +ℤ a) q)) (sym less) (shifts-round q x some)

pub returns-clause-rounds : goal.returns-clause-rounds
returns-clause-rounds g c =
    let some = pow_pos g.row.K in
    let f1 : SFits w64 c.args.x = c.ranges.x in
    let f2 : SFits w64 c.power.result = record { sfits = c.power.type_inv } in
    let f3 : SFits w64 (shr_z c.args.x (2 ^ g.row.K)) = search rules in
    let f4 : SFits w64 (c.power.result -ℤ pos 1) = search rules in
    let f5 : SFits w64 (c.args.x +ℤ (c.power.result -ℤ pos 1)) = search rules in
    let f6 : SFits w64 (shr_z (c.args.x +ℤ (c.power.result -ℤ pos 1)) (2 ^ g.row.K)) = search rules in
    simp to_z-of_z (rounds (2 ^ g.row.K) c.args.x c.power.result some c.power.ensures.value)

pub returns-clause-small : goal.returns-clause-small
returns-clause-small g c =
    let some = pow_pos g.row.K in
    let f1 : SFits w64 c.args.x = c.ranges.x in
    let f2 : SFits w64 c.power.result = record { sfits = c.power.type_inv } in
    let f3 : SFits w64 (shr_z c.args.x (2 ^ g.row.K)) = search rules in
    let f4 : SFits w64 (c.power.result -ℤ pos 1) = search rules in
    let f5 : SFits w64 (c.args.x +ℤ (c.power.result -ℤ pos 1)) = search rules in
    let f6 : SFits w64 (shr_z (c.args.x +ℤ (c.power.result -ℤ pos 1)) (2 ^ g.row.K)) = search rules in
    let both = rounds (2 ^ g.row.K) c.args.x c.power.result some c.power.ensures.value in
    let size = c.requires.size in
    let low : unsigned_abs (shr_z c.args.x (2 ^ g.row.K)) ≤ 2 ^ 62 = omega (arith, small-floor (2 ^ g.row.K) _ _ _ some both) in
    let high : unsigned_abs (shr_z (c.args.x +ℤ (c.power.result -ℤ pos 1)) (2 ^ g.row.K)) ≤ 2 ^ 62 = omega (arith, small-ceiling (2 ^ g.row.K) _ _ _ some both) in
    record { floor = simp to_z-of_z low; ceiling = simp to_z-of_z high }
