use Rattle.std.proofs.Common.{◌≡◌, ◌*◌, ◌/◌, ◌%◌, ◌^◌, ◌<◌, min}
use Rattle.wdf_frac.proofs.rounding.shifted_left.Given as goal

abbrev pub invariant-tens : goal.invariant-tens
invariant-tens l = record {
  whole : l.whole ≡ min (l.value * 10 ^ l.counter / l.den) (2 ^ 64);
  rest : l.rest ≡ l.value * 10 ^ l.counter % l.den;
  below : l.rest < l.den;
}
