use Rattle.std.proofs.Common.{◌≡◌, map, take}
use Rattle.wdf_check.specs.Stepping.{stepped}
use Rattle.wdf_check.proofs.observing.all_stepped.Given as goal

abbrev pub invariant-loop-i : goal.invariant-loop-i
invariant-loop-i l = record {
  width : l.all.columns ≡ l.states.columns;
  whole : l.all.rows ≡ map (stepped l.net) (take l.i l.states.rows);
}
