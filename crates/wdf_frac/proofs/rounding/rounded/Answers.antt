use Rattle.std.proofs.Common.{◌≡◌, ℕ, pos, ◌*◌, ◌/◌, ◌^◌, ◌<ℤ◌, ◌≤ℤ◌, min, unsigned_abs, ap, sym, ◌∙◌, rules}
use Rattle.std.specs.Int.{div_ceil}
use Rattle.wdf_frac.proofs.Halves.{units_of-negative, units_of-positive}
use Rattle.wdf_frac.proofs.rounding.rounded.Goals as goal

pub returns-then-tens-lt0 : goal.returns-then-tens-lt0
returns-then-tens-lt0 c =
    let negative : c.args.tens <ℤ pos 0 = search rules in
    let units = units_of-negative c.args.num c.args.den c.args.tens c.requires.nonzero negative in
    let shift : c.unsigned_abs.result ≡ unsigned_abs c.args.tens = search rules in
    let count : c.shifted_right.result ≡ c.args.num * 2 ^ 41 / c.args.den / 10 ^ c.unsigned_abs.result = c.shifted_right.ensures in
    let half : c.div_ceil.result ≡ div_ceil c.shifted_right.result 2 = c.div_ceil.ensures in
    ap (λ (x : ℕ). min x (2 ^ 63)) (half ∙ ap (λ (x : ℕ). div_ceil x 2) (rw shift at count) ∙ sym units)

pub returns-else-tens-lt0 : goal.returns-else-tens-lt0
returns-else-tens-lt0 c =
    let positive : pos 0 ≤ℤ c.args.tens = search rules in
    let units = units_of-positive c.args.num c.args.den c.args.tens c.requires.nonzero positive in
    let shift : c.unsigned_abs-else-tens-lt0.result ≡ unsigned_abs c.args.tens = search rules in
    let count : c.shifted_left.result ≡ min (c.args.num * 2 ^ 41 * 10 ^ c.unsigned_abs-else-tens-lt0.result / c.args.den) (2 ^ 64) = c.shifted_left.ensures in
    let half : c.div_ceil-else-tens-lt0.result ≡ div_ceil c.shifted_left.result 2 = c.div_ceil-else-tens-lt0.ensures in
    ap (λ (x : ℕ). min x (2 ^ 63)) (half ∙ ap (λ (x : ℕ). div_ceil x 2) (rw shift at count)) ∙ sym units
