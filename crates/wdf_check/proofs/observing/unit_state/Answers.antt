use Rattle.std.proofs.Common.{◌≡◌, ℕ, List, set, replicate, ap, ◌∙◌, rules}
use Rattle.wdf_check.proofs.ObservingLemmas.{unit-list}
use Rattle.wdf_check.proofs.observing.unit_state.Goals as goal

pub returns : goal.returns
returns c =
    let made : c.in_ok-state.state.items ≡ replicate c.args.count 0 = search rules in
    ap (λ (xs : List ℕ). set xs c.args.k 1) made ∙ unit-list c.args.count c.args.k c.requires
