-- In each answer x and y are the two fractions by their fields, p and r the two that were taken across.
use Rattle.std.proofs.Common.{◌≡◌, ◌*◌, ◌^◌, ◌<◌, ◌≤◌, refl, subst, inl, inr, arith}
use Rattle.std.proofs.Math.Nat.{mul-pos}
use Rattle.wdf_frac.specs.Fraction.{Fraction, IsLowest, IsProductTooWide}
use Rattle.wdf_frac.proofs.Halves.{HasUnitsOf-quotient}
use Rattle.wdf_frac.proofs.Products.{over, crossed, IsProduct-crossed, IsProductTooWide-fits}
use Rattle.wdf_frac.proofs.frac.Frac.mul.Goals as goal

pub returns-in_default-clause-too_wide : goal.returns-in_default-clause-too_wide
returns-in_default-clause-too_wide c =
    let x = over c.self.inside.num c.self.inside.den in
    let y = over c.other.inside.num c.other.inside.den in
    let p = c.lowest-across.result in
    let r = c.lowest-back.result in
    let product = IsProduct-crossed x y p r c.self.invariant c.other.invariant c.lowest-across.ensures.lowest c.lowest-back.ensures.lowest c.lowest-across.ensures.value c.lowest-back.ensures.value in
    let num : c.num.result * c.num-2.result ≡ p.num * r.num = cc in
    let wide : 2 ^ 128 ≤ p.num * r.num = omega (arith, c.in_default.ensures, num) in
    (λ _. rw (← c.self.view_is, ← c.other.view_is) (let too_wide : IsProductTooWide x y = record { product = crossed p r; is_product = product; too_wide = inl wide } in too_wide), λ _. refl)

pub returns-in_default-checked_mul-clause-too_wide :
    goal.returns-in_default-checked_mul-clause-too_wide
returns-in_default-checked_mul-clause-too_wide c =
    let x = over c.self.inside.num c.self.inside.den in
    let y = over c.other.inside.num c.other.inside.den in
    let p = c.lowest-across.result in
    let r = c.lowest-back.result in
    let product = IsProduct-crossed x y p r c.self.invariant c.other.invariant c.lowest-across.ensures.lowest c.lowest-back.ensures.lowest c.lowest-across.ensures.value c.lowest-back.ensures.value in
    let den : c.den.result * c.den-2.result ≡ p.den * r.den = cc in
    let wide : 2 ^ 128 ≤ p.den * r.den = omega (arith, c.in_default-checked_mul.ensures, den) in
    (λ _. rw (← c.self.view_is, ← c.other.view_is) (let too_wide : IsProductTooWide x y = record { product = crossed p r; is_product = product; too_wide = inr wide } in too_wide), λ _. refl)

pub returns-clause-product : goal.returns-clause-product
returns-clause-product c =
    let x = over c.self.inside.num c.self.inside.den in
    let y = over c.other.inside.num c.other.inside.den in
    let p = c.lowest-across.result in
    let r = c.lowest-back.result in
    let product = IsProduct-crossed x y p r c.self.invariant c.other.invariant c.lowest-across.ensures.lowest c.lowest-back.ensures.lowest c.lowest-across.ensures.value c.lowest-back.ensures.value in
    rw (← c.self.view_is, ← c.other.view_is, c.in-Some.ensures.1, c.num.ensures.value, c.num-2.ensures.value, c.in-Some-checked_mul.ensures.1, c.den.ensures.value, c.den-2.ensures.value) product

pub invariant_of-result : goal.invariant_of-result
invariant_of-result c = (returns-clause-product c).lowest

pub returns-clause-units : goal.returns-clause-units
returns-clause-units c =
    let x = c.args.self.now in
    let y = c.args.other.now in
    let lowest_x : IsLowest x = subst (λ (f : Fraction). IsLowest f) c.self.view_is c.self.invariant in
    let lowest_y : IsLowest y = subst (λ (f : Fraction). IsLowest f) c.other.view_is c.other.invariant in
    let product = returns-clause-product c in
    HasUnitsOf-quotient (over c.in-Some.num c.in-Some-checked_mul.den) (x.num * y.num) (x.den * y.den) product.lowest.den_positive (mul-pos lowest_x.den_positive lowest_y.den_positive) product.value

pub returns-clause-too_wide : goal.returns-clause-too_wide
returns-clause-too_wide c =
    let x = c.args.self.now in
    let y = c.args.other.now in
    let lowest_x : IsLowest x = subst (λ (f : Fraction). IsLowest f) c.self.view_is c.self.invariant in
    let lowest_y : IsLowest y = subst (λ (f : Fraction). IsLowest f) c.other.view_is c.other.invariant in
    let num : c.in-Some.num < 2 ^ 128 = omega (arith, c.in-Some.ensures.0, c.in-Some.ensures.1) in
    let den : c.in-Some-checked_mul.den < 2 ^ 128 = omega (arith, c.in-Some-checked_mul.ensures.0, c.in-Some-checked_mul.ensures.1) in
    (λ h. absurd (cc), λ wide. absurd (IsProductTooWide-fits x y (over c.in-Some.num c.in-Some-checked_mul.den) lowest_x lowest_y (returns-clause-product c) num den wide))
