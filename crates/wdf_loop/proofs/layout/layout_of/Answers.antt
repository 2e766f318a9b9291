use Rattle.std.proofs.Common.{◌≡◌, ℕ, ◌<◌, List, length, sym, subst, arith}
use mathlib.Core.Logic.{◌⊎◌}
use Rattle.wdf_law.specs.Network.{Network, IsNetwork, elements, source_numbers}
use Rattle.wdf_loop.specs.declared.mark.Mark.{Mark}
use Rattle.wdf_loop.specs.Chains.{AreChainsBefore}
use Rattle.wdf_loop.specs.Feeds.{AreFeeds}
use Rattle.wdf_loop.specs.Layouts.{mark_at}
use Rattle.wdf_loop.proofs.LayoutLemmas.{is_layout}
use Rattle.wdf_loop.proofs.layout.layout_of.Goals as goal

pub feeds_of-requires-clause-every : goal.feeds_of-requires-clause-every
feeds_of-requires-clause-every c = λ k h.
    let row = c.in_ok-shares.ensures in
    let small : k < length (elements c.args.schedule.now.net) = subst (λ (n : Network). k < length (elements n)) c.net-net.ensures h in
    let place = row.marked.every k small in
    subst (λ (ms : List Mark). (j : ℕ) × ((j < length ms) × (((mark_at ms j).up ≡ k) ⊎ ((mark_at ms j).below ≡ k)))) (sym c.deref-2.ensures.value)
    (place.0, (omega (arith, place.1.0, row.marked.count), place.1.1))

pub returns : goal.returns
returns c =
    let net = c.net-net.ensures in
    let chains = subst (λ (ms : List Mark). AreChainsBefore c.net-net.result.now ms (length ms) c.in_ok-chains.chains.items) c.deref.ensures.value c.in_ok-chains.ensures in
    let feeds = subst (λ (ms : List Mark). AreFeeds c.net-net.result.now ms (length (source_numbers c.net-net.result.now)) c.in_ok-feeds.feeds.items) c.deref-2.ensures.value c.in_ok-feeds.ensures in
    is_layout c.args.schedule.now c.in_ok-shares.field-0.shares.items c.in_ok-shares.field-0.marks.items c.in_ok-chains.chains.items c.in_ok-feeds.feeds.items
    (subst IsNetwork net c.rules.ensures) c.in_ok-shares.ensures
    (subst (λ (n : Network). AreChainsBefore n c.in_ok-shares.field-0.marks.items (length c.in_ok-shares.field-0.marks.items) c.in_ok-chains.chains.items) net chains)
    (subst (λ (n : Network). AreFeeds n c.in_ok-shares.field-0.marks.items (length (source_numbers n)) c.in_ok-feeds.feeds.items) net feeds)
