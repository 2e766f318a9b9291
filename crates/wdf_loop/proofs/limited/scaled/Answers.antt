-- A negative wave is short of a whole step by at most a step less one.
use Rattle.std.proofs.Common.{rules, w64, ◌≡◌, ℕ, true, ap, sym, ◌∙◌, pos}
use Rattle.std.specs.Prelude.{ℤ, ◌-◌, ◌^◌, ◌+ℤ◌, ◌-ℤ◌, Bool, if◌then◌else◌, int_lt}
use Rattle.std.proofs.lemmas.Int.{to_z-of_z}
use Rattle.std.proofs.lemmas.Nat.{pow_pos}
use mir.Val.{SFits}
use lib.Signed.{shr_z}
use Rattle.wdf_algebra.proofs.MaskLemmas.{masked-truncates}
use Rattle.wdf_algebra.proofs.RoundingLemmas.{one-less}
use Rattle.wdf_loop.proofs.limited.scaled.Goals as goal

pub returns-then-w-lt0 : goal.returns-then-w-lt0
returns-then-w-lt0 c =
    let q : ℕ = 2 ^ c.args.down in
    let w : ℤ = c.args.w in
    let f1 : SFits w64 c.args.w = c.ranges.w in
    let f2 : SFits w64 c.output_step.result = record { sfits = c.output_step.type_inv } in
    let f3 : SFits w64 (c.output_step.result -ℤ pos 1) = search rules in
    let f4 : SFits w64 (c.args.w +ℤ (c.output_step.result -ℤ pos 1)) = search rules in
    let f5 : SFits w64 (shr_z (c.args.w +ℤ (c.output_step.result -ℤ pos 1)) (2 ^ c.args.down)) = search rules in
    let less : c.output_step.result -ℤ pos 1 ≡ pos (q - 1) = ap (λ (a : ℤ). a -ℤ pos 1) c.output_step.ensures.value ∙ one-less q (pow_pos c.args.down) in
    let negative : int_lt c.args.w (pos 0) ≡ true = simp to_z-of_z at c.if-w-lt0.true in
    simp to_z-of_z (ap (λ (m : ℤ). shr_z (w +ℤ m) q) less
    ∙ (ap (λ (t : Bool). shr_z (w +ℤ (if t then pos (q - 1) else pos 0)) q) (sym negative) ∙ masked-truncates q w (pow_pos c.args.down)))
