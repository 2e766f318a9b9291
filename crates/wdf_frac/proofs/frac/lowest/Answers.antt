use Rattle.std.proofs.Math.Nat.{pos_of_dvd_of_pos}
use Rattle.wdf_frac.proofs.Halves.{HasUnitsOf-quotient}
use Rattle.wdf_frac.proofs.Products.{reduced, IsLowest-reduced, IsQuotient-reduced, IsWithin-quotient}
use Rattle.wdf_frac.proofs.frac.lowest.Goals as goal

pub nonzero_div-result : goal.nonzero_div-result
nonzero_div-result c = pos_of_dvd_of_pos c.gcd-divisor.ensures.0 c.requires.num

pub nonzero_div-result-2 : goal.nonzero_div-result-2
nonzero_div-result-2 c = pos_of_dvd_of_pos c.gcd-divisor.ensures.0 c.requires.num

pub invariant_of-result : goal.invariant_of-result
invariant_of-result c = IsLowest-reduced c.args.num c.args.den c.gcd-divisor.result c.requires.num c.requires.den c.gcd-divisor.ensures

pub returns : goal.returns
returns c =
    let f = reduced c.args.num c.args.den c.gcd-divisor.result in
    let lowest = IsLowest-reduced c.args.num c.args.den c.gcd-divisor.result c.requires.num c.requires.den c.gcd-divisor.ensures in
    let value = IsQuotient-reduced c.args.num c.args.den c.gcd-divisor.result c.gcd-divisor.ensures in
    record {
      value = value;
      lowest = lowest;
      within = IsWithin-quotient f c.args.num c.args.den c.requires.num c.requires.den lowest value;
      units = HasUnitsOf-quotient f c.args.num c.args.den lowest.den_positive c.requires.den value;
    }
