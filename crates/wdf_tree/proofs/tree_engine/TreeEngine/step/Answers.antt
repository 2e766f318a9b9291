-- The pass is the step, and the outlet is an element.
use Rattle.std.proofs.Common.{◌≡◌, ℕ, ◌-◌, ◌^◌, ◌<◌, ◌≤◌, length, take, rules, sym, ◌∙◌, subst, arith, to_z, of_z, w64}
use Rattle.std.specs.Prelude.{ℤ, pos, unsigned_abs, All, slice_index_or}
use Rattle.std.proofs.Math.Nat.{pow-le-pow_right}
use Rattle.std.proofs.lemmas.Int.{to_z-of_z}
use mir.Val.{SFits}
use Rattle.wdf_law.specs.Network.{elements, has_reactance}
use Rattle.wdf_law.specs.Elements.{signed}
use Rattle.wdf_bounds.specs.WordBound.{word_limit}
use Rattle.wdf_tree.specs.Engines.{EngineValue, IsNext}
use Rattle.wdf_tree.specs.Places.{at_place}
use Rattle.wdf_tree.proofs.EngineLemmas.{next_of}
use Rattle.wdf_tree.proofs.PassLemmas.{passing_below}
use Rattle.wdf_tree.proofs.tree_engine.TreeEngine.step.Goals as goal

pub gather-requires-clause-placed : goal.gather-requires-clause-placed
gather-requires-clause-placed c =
    let n = c.self.inside.net in
    let few = c.self.invariant.few in
    subst (All (λ (i : ℕ). i < 128)) (sym (c.deref-2.ensures.value ∙ c.self.invariant.reactive_numbers))
    (passing_below (has_reactance (elements n)) 0 (length (elements n)) 128 (omega arith))

pub bounds-self-inside-self-inside : goal.bounds-self-inside-self-inside
bounds-self-inside-self-inside c =
    let few = c.self.invariant.few in
    let below = c.self.invariant.outlet_below in
    omega arith

pub turned-requires : goal.turned-requires
turned-requires c =
    let below = c.self.invariant.outlet_below in
    let pass = c.pass.ensures.pass in
    let fits : SFits w64 (slice_index_or c.pass.new.waves.downs c.self.inside.outlet (pos 0)) = search rules in
    let limit : unsigned_abs (at_place c.pass.new.waves.downs c.self.inside.outlet) ≤ 2 ^ (60 - c.self.inside.plan.k) =
    subst (λ (z : ℤ). unsigned_abs z ≤ 2 ^ (60 - c.self.inside.plan.k)) (sym (pass.downs c.self.inside.outlet below)) (pass.small c.self.inside.outlet) in
    let least : 60 - c.self.inside.plan.k ≤ 60 = omega arith in
    let whole : 2 ^ (60 - c.self.inside.plan.k) ≤ 2 ^ 60 = pow-le-pow_right (omega arith) least in
    simp to_z-of_z (omega arith)

pub returns-clause-next : goal.returns-clause-next
returns-clause-next c =
    let fits : SFits w64 (slice_index_or c.pass.new.waves.downs c.self.inside.outlet (pos 0)) = search rules in
    let f1 : SFits w64 c.turned.result = record { sfits = c.turned.type_inv } in
    let value : c.turned.result ≡ signed c.self.inside.flip (at_place c.pass.new.waves.downs c.self.inside.outlet) = simp to_z-of_z at c.turned.ensures.value in
    let n = c.self.inside.net in
    let next : EngineValue = record { net = n; plan = c.self.inside.plan; done = c.pass.new.done; downs = take (length (elements n)) c.pass.new.waves.downs } in
    subst (λ (a : EngineValue). IsNext a c.args.samples.now (to_z w64 (of_z w64 c.turned.result)) next) c.self.view_is
    (next_of c.self.inside.net c.self.inside.plan c.self.inside.done c.pass.new.done c.self.inside.outlet c.self.inside.flip c.args.samples.now c.self.inside.waves.downs c.pass.new.waves.downs
    (to_z w64 (of_z w64 c.turned.result)) c.pass.ensures.pass c.self.invariant.outlet_number c.self.invariant.outlet_flip c.self.invariant.outlet_below
    (to_z-of_z w64 c.turned.result f1 ∙ value) c.pass.ensures.done)

pub returns-clause-word : goal.returns-clause-word
returns-clause-word c =
    let below = c.self.invariant.outlet_below in
    let pass = c.pass.ensures.pass in
    let fits : SFits w64 (slice_index_or c.pass.new.waves.downs c.self.inside.outlet (pos 0)) = search rules in
    let f1 : SFits w64 c.turned.result = record { sfits = c.turned.type_inv } in
    let limit : unsigned_abs (at_place c.pass.new.waves.downs c.self.inside.outlet) ≤ word_limit c.self.inside.plan =
    subst (λ (z : ℤ). unsigned_abs z ≤ word_limit c.self.inside.plan) (sym (pass.downs c.self.inside.outlet below)) (pass.small c.self.inside.outlet) in
    let size : unsigned_abs c.turned.result ≡ unsigned_abs (at_place c.pass.new.waves.downs c.self.inside.outlet) = simp to_z-of_z at c.turned.ensures.size in
    let result : unsigned_abs (to_z w64 (of_z w64 c.turned.result)) ≤ word_limit c.self.inside.plan = simp to_z-of_z (omega arith) in
    subst (λ (a : EngineValue). unsigned_abs (to_z w64 (of_z w64 c.turned.result)) ≤ word_limit a.plan) c.self.view_is result
