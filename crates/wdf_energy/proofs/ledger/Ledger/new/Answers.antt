-- Every channel begins with an account of its own.
use Rattle.std.proofs.Common.{◌≡◌, subst}
use Rattle.wdf_law.specs.Network.{Network, absorbing_numbers, reactances}
use Rattle.wdf_energy.specs.PortLists.{ports_at}
use Rattle.wdf_energy.proofs.LedgerLemmas.{accounts-opened}
use Rattle.wdf_energy.proofs.ledger.Ledger.new.Goals as goal

pub returns-clause-accounts : goal.returns-clause-accounts
returns-clause-accounts c =
    let same = c.in_ok-net.ensures in
    let absorbing = c.in_ok-absorbing.absorbing.items in
    let reactive = c.in_ok-reactive.reactive.items in
    accounts-opened c.args.net.now absorbing reactive c.in_ok-accounts.accounts.items c.args.channels c.new.result
    (subst (λ (n : Network). absorbing ≡ ports_at n (absorbing_numbers n)) same c.in_ok-absorbing.ensures.ports)
    (subst (λ (n : Network). reactive ≡ ports_at n (reactances n)) same c.in_ok-reactive.ensures.ports)
    c.in_ok-absorbing.ensures.walked.few c.in_ok-reactive.ensures.walked.few
    (c.in_ok-accounts.ensures.items_if_clones_equal (λ y h. h)) c.new.ensures.incident c.new.ensures.squares c.new.ensures.state
