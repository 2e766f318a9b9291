use Rattle.std.proofs.Common.{◌≡◌, ap, ◌∙◌, arith, rules, to_z, of_z, w64}
use Rattle.std.specs.Prelude.{ℤ, ◌+ℤ◌}
use Rattle.std.specs.Int.{w128}
use Rattle.std.proofs.lemmas.Int.{to_z-of_z}
use mir.Val.{SFits}
use Rattle.wdf_soak.specs.Figures.{greater, lesser}
use Rattle.wdf_soak.proofs.figures.Figures.with.Goals as goal

pub returns : goal.returns
returns c =
    let a = c.args.self.sum in
    let z = c.args.sample in
    let from : c.from.result ≡ c.args.sample = c.from.ensures ∙ to_z-of_z w64 c.args.sample c.ranges.sample in
    let fits_a : SFits w128 c.args.self.sum = grind arith in
    let fits_z : SFits w128 c.from.result = record { sfits = c.from.type_inv } in
    let fits : SFits w128 (c.args.self.sum +ℤ c.args.sample) = grind arith in
    let sum : to_z w128 (of_z w128 (to_z w128 (of_z w128 a) +ℤ to_z w128 (of_z w128 c.from.result))) ≡ a +ℤ z =
    (λ i. to_z w128 (of_z w128 (to_z-of_z w128 a fits_a i +ℤ (to_z-of_z w128 c.from.result fits_z ∙ from) i))) ∙ to_z-of_z w128 (a +ℤ z) fits in
    let fits_l : SFits w64 c.args.self.least = search rules in
    let fits_g : SFits w64 c.args.self.greatest = search rules in
    let least : to_z w64 (of_z w64 c.lesser.result) ≡ lesser c.args.self.least z =
    to_z-of_z w64 c.lesser.result (record { sfits = c.lesser.type_inv })
    ∙ (c.lesser.ensures ∙ (λ i. lesser (to_z-of_z w64 c.args.self.least fits_l i) (to_z-of_z w64 z c.ranges.sample i))) in
    let greatest : to_z w64 (of_z w64 c.greater.result) ≡ greater c.args.self.greatest z =
    to_z-of_z w64 c.greater.result (record { sfits = c.greater.type_inv })
    ∙ (c.greater.ensures ∙ (λ i. greater (to_z-of_z w64 c.args.self.greatest fits_g i) (to_z-of_z w64 z c.ranges.sample i))) in
    λ i. record { sum = sum i; least = least i; greatest = greatest i }
