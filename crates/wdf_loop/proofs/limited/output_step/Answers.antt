use Rattle.std.proofs.Common.{◌≡◌, ℕ, ◌*◌, ◌%◌, ◌^◌, ◌<◌, ap, ◌∙◌, arith, to_z, w64}
use Rattle.std.specs.Prelude.{pos}
use Rattle.std.proofs.lemmas.Int.{to_z_pos, ints}
use Rattle.std.proofs.lemmas.Nat.{one_shl, pow_below, pow_pos}
use Rattle.wdf_loop.proofs.limited.output_step.Goals as goal

shifted : (k : ℕ) → k < 63 → to_z w64 (1 * 2 ^ k % 18446744073709551616) ≡ pos (2 ^ k)
shifted k h = ap (to_z w64) (one_shl k 64 (omega arith)) ∙ to_z_pos w64 (2 ^ k) (pow_below k 63 h)

pub returns-clause-value : goal.returns-clause-value
returns-clause-value c = shifted c.args.down (omega arith)

pub returns-clause-positive : goal.returns-clause-positive
returns-clause-positive c =
    let e = shifted c.args.down (omega arith) in
    let some = pow_pos c.args.down in
    omega (arith, ints)
