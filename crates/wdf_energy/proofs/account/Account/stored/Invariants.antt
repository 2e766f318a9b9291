use Rattle.std.proofs.Common.{◌≡◌, ◌+◌, drop, map}
use Rattle.wdf_algebra.specs.Squares.{square}
use Rattle.wdf_energy.specs.PortLists.{parts_along}
use Rattle.wdf_energy.proofs.account.Account.stored.Given as goal

abbrev pub invariant-loop-i : goal.invariant-loop-i
invariant-loop-i l = l.total + parts_along (drop l.i l.ports) (map square (drop l.i l.self.state)) ≡ parts_along l.ports (map square l.self.state)
