use Rattle.std.proofs.Common.{◌≡◌, take, map, length}
use Rattle.wdf_energy.specs.Accounts.{wave_at}
use Rattle.wdf_energy.specs.PortLists.{elems}
use Rattle.wdf_energy.proofs.account.keep_waves.Given as goal

abbrev pub invariant-loop-i : goal.invariant-loop-i
invariant-loop-i l = record {
  long : length l.state ≡ 128;
  so_far : take l.i l.state ≡ map (wave_at l.downs) (elems (take l.i l.ports));
}
