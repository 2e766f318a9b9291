use Rattle.std.proofs.Common.{◌≡◌, ℕ, ◌≤◌, length, take, ap, sym, ◌∙◌, subst, arith}
use Rattle.wdf_law.specs.Network.{elements, has_reactance, reactances}
use Rattle.wdf_tree.specs.Engines.{EngineValue, state_of}
use Rattle.wdf_tree.proofs.EngineLemmas.{gathered-take}
use Rattle.wdf_tree.proofs.PassLemmas.{passing_few}
use Rattle.wdf_tree.proofs.tree_engine.TreeEngine.state.Goals as goal

pub shared_ref_as_front-result : goal.shared_ref_as_front-result
shared_ref_as_front-result c =
    let n = c.self.inside.net in
    let least : length (reactances n) ≤ length (elements n) = passing_few (has_reactance (elements n)) 0 (length (elements n)) in
    let few = c.self.invariant.few in
    let same : length c.self.inside.reactances.items ≡ length (reactances n) = ap length c.self.invariant.reactive_numbers in
    let long = c.len.ensures in
    let whole = c.self.inside.reactances.ok in
    omega arith

pub returns : goal.returns
returns c =
    let n = c.self.inside.net in
    let long = c.len.ensures in
    let whole = c.self.inside.reactances.ok in
    let count : c.len.result ≡ length c.self.inside.reactances.items = omega arith in
    subst (λ (a : EngineValue). take c.len.result c.self.inside.state ≡ state_of a) c.self.view_is
    (ap (λ (k : ℕ). take k c.self.inside.state) count ∙ (c.self.invariant.state_list ∙ sym (gathered-take n c.self.inside.waves.downs)))
