-- The account of the channel has the block, and the others are as before.
use Rattle.std.proofs.Common.{rules, ◌≡◌, ℕ, ◌+◌, ◌*◌, ◌<◌, ◌≤◌, ◌^◌, List, length, take, map, get_or, subst, sym, ap, ◌∙◌, arith}
use Rattle.wdf_energy.specs.declared.port.Port.{Port}
use Rattle.wdf_energy.specs.Accounts.{wave_at}
use Rattle.wdf_energy.specs.PortLists.{AreWalked, elems, every_row, squares_over}
use Rattle.wdf_energy.proofs.LedgerBlocks.{block-account, block-incident, block-others, block-rows, block-squares}
use Rattle.wdf_energy.proofs.ledger.Ledger.note_block.Goals as goal

pub note_block-requires : goal.note_block-requires
note_block-requires g c =
    let a = c.index_mut.result.now in
    let runs = c.requires.runs in
    let few = subst (λ (ports : List Port). length ports ≤ 128) (sym c.deref.ensures.value) c.self.invariant.absorbing_walk.few in
    let walked : AreWalked (length c.args.downs.now) c.deref-2.result.now = search rules in
    let rows = block-rows c.args.self.now c.self.inside.net c.self.inside.absorbing.items c.self.inside.reactive.items c.self.inside.accounts.items (length c.args.waves.now) c.args.count
    c.self.view_is c.self.invariant c.requires.waves
    ∙ ap (λ (ports : List Port). c.args.count * length ports) (sym c.deref.ensures.value) in
    let incident = block-incident c.args.self.now c.self.inside.net c.self.inside.absorbing.items c.self.inside.reactive.items c.self.inside.accounts.items c.args.channel a
    c.args.values.now c.args.waves.now c.args.column c.args.count c.self.view_is c.requires.channel c.index_mut.ensures.value c.requires.values c.requires.room in
    let squares = subst (λ (ports : List Port). (i : ℕ) → i < length ports → i < length a.squares
    → get_or a.squares i 0 + squares_over (every_row (length ports) c.args.waves.now c.args.column i) c.args.count < 2 ^ 124) (sym c.deref.ensures.value)
    (λ i below inside. block-squares c.args.self.now c.self.inside.net c.self.inside.absorbing.items c.self.inside.reactive.items c.self.inside.accounts.items c.args.channel a
    c.args.values.now c.args.waves.now c.args.column c.args.count i c.self.view_is c.self.invariant c.requires.channel c.index_mut.ensures.value c.requires.room below inside) in
    (omega arith, (c.requires.runs, (c.requires.column, (few, (walked, (rows, (incident, squares)))))))

pub returns-clause-others : goal.returns-clause-others
returns-clause-others g c =
    block-others c.args.self.now c.self.inside.net c.self.inside.absorbing.items c.self.inside.reactive.items c.self.inside.accounts.items c.args.channel c.note_block.new.self c.self.view_is

pub returns-clause-account : goal.returns-clause-account
returns-clause-account g c =
    let a = c.index_mut.result.now in
    let b = c.note_block.new.self in
    let f = wave_at c.args.downs.now in
    block-account c.args.self.now c.self.inside.net c.self.inside.absorbing.items c.self.inside.reactive.items c.self.inside.accounts.items c.args.channel a b
    c.args.values.now c.args.waves.now c.args.downs.now c.args.column c.args.count c.self.view_is c.self.invariant c.requires.channel c.index_mut.ensures.value c.note_block.ensures.places
    c.requires.some c.requires.values c.note_block.ensures.incident
    (subst (λ (ports : List Port). (i : ℕ) → i < length ports → get_or b.squares i 0 ≡ get_or a.squares i 0 + squares_over (every_row (length ports) c.args.waves.now c.args.column i) c.args.count)
    c.deref.ensures.value c.note_block.ensures.squares)
    (subst (λ (ports : List Port). take (length ports) b.state ≡ map f (elems ports)) c.deref-2.ensures.value c.note_block.ensures.state)
