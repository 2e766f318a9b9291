-- The law of an element leaves it one wave to reflect.
use Rattle.std.proofs.Common.{◌≡◌, arith, Bool}
use lib.IntN.{ℤ, pos, ◌*ℤ◌}
use borrow.Author.Differences.{ints}
use Rattle.wdf_law.specs.declared.kind.Kind.{Kind}
use Rattle.wdf_law.specs.declared.kind.Kind.TheVariants.{Res, Cap, Ind, Src}
use Rattle.wdf_law.specs.Elements.{ObeysElementLaw}
use Rattle.wdf_law.specs.Solved.{reflected}

pub reflects : (k : Kind) (flip : Bool) (x e u d : ℤ) → ObeysElementLaw k flip x e u d → u ≡ reflected k flip x e
reflects Res flip x e u d h = let k = h.ohm in omega (arith, ints)
reflects Src flip x e u d h = let k = h.drives in omega (arith, ints)
reflects Cap flip x e u d h =
    let k = h.trapezoid (pos 2 *ℤ x) (pos 0) (omega (arith, ints)) in omega (arith, ints)
reflects Ind flip x e u d h =
    let k = h.trapezoid (pos 2 *ℤ x) (pos 0) (omega (arith, ints)) in omega (arith, ints)

pub reflected-meets : (k : Kind) (flip : Bool) (x e d : ℤ) → ObeysElementLaw k flip x e (reflected k flip x e) d
reflected-meets Res flip x e d = record { ohm = omega (arith, ints) }
reflected-meets Src flip x e d = record { drives = omega (arith, ints) }
reflected-meets Cap flip x e d = record { trapezoid = λ v j h. omega (arith, ints) }
reflected-meets Ind flip x e d = record { trapezoid = λ v j h. omega (arith, ints) }
