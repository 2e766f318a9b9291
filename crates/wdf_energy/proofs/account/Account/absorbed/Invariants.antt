use Rattle.std.proofs.Common.{◌≡◌, ◌+◌, drop}
use Rattle.wdf_energy.specs.PortLists.{parts_along}
use Rattle.wdf_energy.proofs.account.Account.absorbed.Given as goal

abbrev pub invariant-loop-i : goal.invariant-loop-i
invariant-loop-i l = l.total + parts_along (drop l.i l.ports) (drop l.i l.self.squares) ≡ parts_along l.ports l.self.squares
