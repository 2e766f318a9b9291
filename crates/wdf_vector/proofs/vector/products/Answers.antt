-- Each lane by the lemma on it.
use Rattle.std.proofs.Common.{rules, arith, ◌≡◌, ◌*◌, ◌%◌, ◌∙◌, ◌^◌, length, of_z, to_z, w64, SFits}
use Rattle.wdf_vector.specs.Lanes.{lane}
use Rattle.wdf_vector.proofs.LaneLemmas.{bits, both, number-fits, numbers, product-bits, splat}
use Rattle.wdf_vector.proofs.vector.products.Goals as goal

pub returns : goal.returns
returns g c i less =
    let n = g.row.N in
    let long : length c.args.x ≡ n = search rules in
    let few = c.ranges.m.fits in
    let size = c.requires.each i less in
    let f : SFits w64 (lane c.args.x i) = number-fits (lane c.args.x i) (omega arith) in
    numbers n (both n (λ m k. (m * k) % 2 ^ 64) (splat n (of_z w64 c.from.result)) (bits n c.args.x long)) i less
    ∙ (λ k. to_z w64 ((of_z w64 (c.from.ensures k) * of_z w64 (lane c.args.x i)) % 2 ^ 64))
    ∙ product-bits c.args.m (lane c.args.x i) (c.requires.small i less) (omega arith) f
