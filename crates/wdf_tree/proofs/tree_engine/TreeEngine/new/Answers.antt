-- At rest nothing is stored.
use Rattle.std.proofs.Common.{◌≡◌, ℕ, ◌≤◌, ◌++◌, length, map, take, refl, ap, sym, ◌∙◌, arith}
use Rattle.std.specs.Prelude.{pos, replicate}
use Rattle.std.proofs.lemmas.List.{take-replicate}
use Rattle.wdf_law.specs.Trees.{elements_of}
use Rattle.wdf_law.specs.Network.{elements, has_reactance, reactances}
use Rattle.wdf_law.specs.OutputRule.{is_flipped, outlet_element}
use Rattle.wdf_law.specs.Run.{at_rest}
use Rattle.wdf_law.specs.Energy.{stored}
use Rattle.wdf_tree.specs.Places.{gathered}
use Rattle.wdf_tree.specs.WaveTrees.{tree_of}
use Rattle.wdf_tree.proofs.EngineLemmas.{gathered-take, gathered-zeros, zeros_each, outlet_stands}
use Rattle.wdf_tree.proofs.PassLemmas.{passing_few}
use Rattle.wdf_tree.proofs.tree_engine.TreeEngine.new.Goals as goal

pub invariant_of-result : goal.invariant_of-result
invariant_of-result c =
    let n = c.args.net in
    let zeros : c.silence-silent.result ≡ replicate 128 (pos 0) = c.silence-silent.ensures in
    let rest : gathered n c.silence-silent.result ≡ at_rest n = ap (gathered n) zeros ∙ gathered-zeros n 128 in
    let left : tree_of c.in_ok-left.left ≡ n.left = c.in_ok-left.ensures ∙ c.left.ensures in
    let right : tree_of c.in_ok-right.right ≡ n.right = c.in_ok-right.ensures ∙ c.right.ensures in
    let reactive : c.in_ok-reactances.reactances.items ≡ reactances n = c.in_ok-reactances.ensures in
    let outlet : c.outlet_element-outlet.result ≡ outlet_element n = c.outlet_element-outlet.ensures in
    let most = c.rules.ensures.most in
    let few : length (reactances n) ≤ length (elements n) = passing_few (has_reactance (elements n)) 0 (length (elements n)) in
    let same : length c.in_ok-reactances.reactances.items ≡ length (reactances n) = ap length reactive in
    let none : stored n (gathered n c.silence-silent.result) ≡ 0 = ap (stored n) rest ∙ c.energy.ensures.rest in
    let stands = outlet_stands n c.rules.ensures c.numbers.ensures in
    record {
      fits = c.requires;
      left_tree = left;
      right_tree = right;
      numbers = c.in_ok-sources.ensures;
      reactive_numbers = reactive;
      few = most;
      outlet_number = outlet;
      outlet_below = omega arith;
      outlet_flip = c.is_flipped-flip.ensures ∙ (λ i. is_flipped (elements_of (left i) ++ elements_of (right i)) (outlet i));
      state_list = ap (take (length c.in_ok-reactances.reactances.items)) zeros
          ∙ (zeros_each c.in_ok-reactances.reactances.items 128 (omega arith) ∙ (ap (map (λ (i : ℕ). pos 0)) reactive ∙ sym rest));
      frames = omega arith;
      energy = omega arith;
    }

pub returns : goal.returns
returns c =
    let n = c.args.net in
    let zeros : c.silence-silent.result ≡ replicate 128 (pos 0) = c.silence-silent.ensures in
    record {
      net = refl;
      plans = refl;
      done = refl;
      state = gathered-take n c.silence-silent.result ∙ (ap (gathered n) zeros ∙ gathered-zeros n 128);
      downs = ap (take (length (elements n))) zeros ∙ take-replicate (length (elements n)) 128 (pos 0) c.rules.ensures.most;
    }
