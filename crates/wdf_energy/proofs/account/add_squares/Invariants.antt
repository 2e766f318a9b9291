use Rattle.std.proofs.Common.{◌≡◌, take, drop, length}
use Rattle.wdf_energy.specs.Accounts.{wave_at, with_squares}
use Rattle.wdf_energy.specs.PortLists.{elems}
use Rattle.wdf_energy.proofs.account.add_squares.Given as goal

abbrev pub invariant-loop-i : goal.invariant-loop-i
invariant-loop-i l = record {
  long : length l.squares ≡ 128;
  so_far : take l.i l.squares ≡ with_squares (wave_at l.downs) (elems (take l.i l.ports)) (take l.i l.initial.squares);
  rest : drop l.i l.squares ≡ drop l.i l.initial.squares;
}
