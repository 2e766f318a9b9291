-- The account of the channel has the frame, and the others are as before.
use Rattle.std.proofs.Common.{◌≡◌, List, length, take, map, subst, sym}
use Rattle.std.specs.Prelude.{All, ◌<◌, ◌^◌}
use Rattle.wdf_energy.specs.declared.port.Port.{Port}
use Rattle.wdf_energy.specs.Accounts.{with_squares, wave_at}
use Rattle.wdf_energy.specs.PortLists.{elems}
use Rattle.wdf_energy.proofs.LedgerLemmas.{channel-room, channel-noted}
use Rattle.wdf_energy.proofs.ledger.Ledger.note.Goals as goal

pub note-requires-clause-squares : goal.note-requires-clause-squares
note-requires-clause-squares c =
    let a = c.index_mut.result.now in
    let f = wave_at c.args.downs.now in
    subst (λ (ports : List Port). All (λ s. s < 2 ^ 124) (with_squares f (elems ports) (take (length ports) a.squares))) (sym c.deref.ensures.value)
    (channel-room c.args.self.now c.self.inside.net c.self.inside.absorbing.items c.self.inside.reactive.items c.self.inside.accounts.items c.args.channel a
    c.args.values.now c.args.downs.now c.self.view_is c.self.invariant c.requires.channel c.index_mut.ensures.value c.requires.room)

pub returns : goal.returns
returns c =
    let a = c.index_mut.result.now in
    let b = c.note.new.self in
    let f = wave_at c.args.downs.now in
    channel-noted c.args.self.now c.self.inside.net c.self.inside.absorbing.items c.self.inside.reactive.items c.self.inside.accounts.items c.args.channel a b
    c.args.values.now c.args.downs.now c.self.view_is c.self.invariant c.requires.channel c.index_mut.ensures.value c.note.ensures.incident
    (subst (λ (ports : List Port). take (length ports) b.squares ≡ with_squares f (elems ports) (take (length ports) a.squares)) c.deref.ensures.value c.note.ensures.squares)
    (subst (λ (ports : List Port). take (length ports) b.state ≡ map f (elems ports)) c.deref-2.ensures.value c.note.ensures.state)
