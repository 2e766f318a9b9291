-- Linear combinations of equations between polynomials: where l - r is the sum of the equations' differences, each
-- times its factor, l and r are equal wherever the equations hold.
use Rattle.std.proofs.Common.{◌≡◌, ◌∙◌, ap, arith, true, List, [], ◌∷◌, refl}
use lib.IntN.{ℤ, pos, ◌-ℤ◌, ◌*ℤ◌, *ℤ_comm}
use Rattle.wdf_algebra.proofs.RingLaws.{linear, zero-mul}
use Rattle.wdf_algebra.proofs.Polynomials.{Ex, con, ◌⊕◌, ◌⊖◌, ◌⊗◌, eval, norm, vanishes, ring}

-- an equation left ≡ right, to be taken `by` times
pub record Fact : Type 0 where
  pub by : Ex
  pub left : Ex
  pub right : Ex

-- every equation holds
abbrev pub Hold : List ℤ → List Fact → Type 0
Hold env [] = Unit {0}
Hold env (f ∷ fs) = (eval env f.left ≡ eval env f.right) × Hold env fs

-- the sum of the equations' differences, each times its factor
abbrev pub combined : List Fact → Ex
combined [] = con (pos 0)
combined (f ∷ fs) = f.by ⊗ (f.left ⊖ f.right) ⊕ combined fs

eval-combined : (env : List ℤ) (fs : List Fact) → Hold env fs → eval env (combined fs) ≡ pos 0
eval-combined env [] h = refl
eval-combined env (f ∷ fs) h =
    let equal = h.0 in
    let none : eval env f.left -ℤ eval env f.right ≡ pos 0 = omega (arith, linear) in
    let head = ap (λ (x : ℤ). eval env f.by *ℤ x) none ∙ (*ℤ_comm (eval env f.by) (pos 0) ∙ zero-mul (eval env f.by)) in
    let rest = eval-combined env fs h.1 in
    omega (arith, linear)

-- l - r is the sum of the equations' differences, each times its factor
pub linear_combination : (env : List ℤ) (l r : Ex) (fs : List Fact) → Hold env fs
    → vanishes (norm (l ⊖ r ⊖ combined fs)) ≡ true → eval env l ≡ eval env r
linear_combination env l r fs h e =
    let whole = ring env (l ⊖ r) (combined fs) e in
    let none = eval-combined env fs h in
    omega (arith, linear)
