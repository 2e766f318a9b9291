-- The totals are those of the channel's account.
use Rattle.std.proofs.Common.{◌<◌, ◌^◌, ℕ, List, map, subst, sym, ap, ◌∙◌}
use Rattle.wdf_algebra.specs.Squares.{square}
use Rattle.wdf_energy.specs.declared.port.Port.{Port}
use Rattle.wdf_energy.specs.declared.totals.Totals.{Totals}
use Rattle.wdf_energy.specs.PortLists.{parts_along}
use Rattle.wdf_energy.proofs.LedgerLemmas.{channel-totals}
use Rattle.wdf_energy.proofs.ledger.Ledger.totals.Goals as goal

pub absorbed-requires-clause-fits : goal.absorbed-requires-clause-fits
absorbed-requires-clause-fits c =
    let a = c.index-account.result.now in
    let all = channel-totals c.args.self.now c.self.inside.net c.self.inside.absorbing.items c.self.inside.reactive.items c.self.inside.accounts.items c.args.channel a
    c.self.view_is c.self.invariant c.requires.channel c.index-account.ensures in
    subst (λ (t : ℕ). t < 2 ^ 128) (sym (ap (λ (ports : List Port). parts_along ports a.squares) c.deref.ensures.value ∙ ap (λ (t : Totals). t.absorbed) all)) c.requires.fits.absorbed

pub stored-requires-clause-fits : goal.stored-requires-clause-fits
stored-requires-clause-fits c =
    let a = c.index-account.result.now in
    let all = channel-totals c.args.self.now c.self.inside.net c.self.inside.absorbing.items c.self.inside.reactive.items c.self.inside.accounts.items c.args.channel a
    c.self.view_is c.self.invariant c.requires.channel c.index-account.ensures in
    subst (λ (t : ℕ). t < 2 ^ 128) (sym (ap (λ (ports : List Port). parts_along ports (map square a.state)) c.deref-2.ensures.value ∙ ap (λ (t : Totals). t.stored) all)) c.requires.fits.stored

pub returns : goal.returns
returns c =
    let a = c.index-account.result.now in
    (λ i. record {
      incident = a.incident;
      absorbed = (c.absorbed.ensures ∙ ap (λ (ports : List Port). parts_along ports a.squares) c.deref.ensures.value) i;
      stored = (c.stored.ensures ∙ ap (λ (ports : List Port). parts_along ports (map square a.state)) c.deref-2.ensures.value) i;
    })
    ∙ channel-totals c.args.self.now c.self.inside.net c.self.inside.absorbing.items c.self.inside.reactive.items c.self.inside.accounts.items c.args.channel a
    c.self.view_is c.self.invariant c.requires.channel c.index-account.ensures
