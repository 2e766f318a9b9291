-- The trees and the unit are the network's, so each tree is walked as in the solved step.
use Rattle.std.proofs.Common.{◌≡◌, ℕ, ◌-◌, ◌^◌, ap, sym, ◌∙◌, subst, arith, w64}
use Rattle.std.proofs.lemmas.Int.{to_z-of_z}
use mir.Val.{SFits}
use Rattle.wdf_tree.specs.Places.{at_place}
use Rattle.wdf_tree.specs.WaveTrees.{tree_of, IsPlaced}
use Rattle.wdf_tree.specs.Walks.{placed}
use Rattle.wdf_tree.proofs.WalkLemmas.{up_side, reflects, root_sends, down_side, spread_side}
use Rattle.wdf_tree.proofs.PlaceLemmas.{placed_below, in_left, in_right}
use Rattle.wdf_tree.proofs.Sizes.{limited_word}
use Rattle.wdf_tree.proofs.walk.walk.Goals as goal

pub climb-u1-requires-clause-placed : goal.climb-u1-requires-clause-placed
climb-u1-requires-clause-placed c =
    let few = c.rules.ensures.most in
    subst (IsPlaced 128) (sym c.requires.left_tree) (placed_below 128 c.args.net.now.left (λ i h. let least = c.numbers.ensures.below i (in_left c.args.net.now i h) in omega arith))

pub climb-u1-requires-clause-words : goal.climb-u1-requires-clause-words
climb-u1-requires-clause-words c =
    up_side (2 ^ (60 - c.args.net.now.k)) c.new-w.result.q (2 ^ c.args.net.now.k) (at_place c.args.downs.now) (at_place c.args.inputs.now) c.args.left.now c.args.net.now.left _
    (λ z h. limited_word c.args.net.now.k z c.rules.ensures.width.1 h) (c.new-w.ensures ∙ ap (λ (k : ℕ). 2 ^ k) c.k.ensures.value) c.requires.left_tree c.requires.words.left

pub climb-u2-requires-clause-placed : goal.climb-u2-requires-clause-placed
climb-u2-requires-clause-placed c =
    let few = c.rules.ensures.most in
    subst (IsPlaced 128) (sym c.requires.right_tree) (placed_below 128 c.args.net.now.right (λ i h. let least = c.numbers.ensures.below i (in_right c.args.net.now i h) in omega arith))

pub climb-u2-requires-clause-words : goal.climb-u2-requires-clause-words
climb-u2-requires-clause-words c =
    up_side (2 ^ (60 - c.args.net.now.k)) c.new-w.result.q (2 ^ c.args.net.now.k) (at_place c.args.downs.now) (at_place c.args.inputs.now) c.args.right.now c.args.net.now.right _
    (λ z h. limited_word c.args.net.now.k z c.rules.ensures.width.1 h) (c.new-w.ensures ∙ ap (λ (k : ℕ). 2 ^ k) c.k.ensures.value) c.requires.right_tree c.requires.words.right

pub descend-requires-clause-placed : goal.descend-requires-clause-placed
descend-requires-clause-placed c =
    let few = c.rules.ensures.most in
    subst (IsPlaced 128) (sym (c.climb-u1.ensures.same ∙ c.requires.left_tree)) (placed_below 128 c.args.net.now.left (λ i h. let least = c.numbers.ensures.below i (in_left c.args.net.now i h) in omega arith))

pub descend-requires-clause-words : goal.descend-requires-clause-words
descend-requires-clause-words c =
    let Q = 2 ^ c.args.net.now.k in
    let x = at_place c.args.downs.now in
    let e = at_place c.args.inputs.now in
    let same : c.new-w.result.q ≡ Q = c.new-w.ensures ∙ ap (λ (k : ℕ). 2 ^ k) c.k.ensures.value in
    let f1 : SFits w64 c.climb-u1.result = record { sfits = c.climb-u1.type_inv } in
    let f2 : SFits w64 c.climb-u2.result = record { sfits = c.climb-u2.type_inv } in
    let f3 : SFits w64 c.root_down.result = record { sfits = c.root_down.type_inv } in
    let u1 = reflects c.new-w.result.q Q x e (tree_of c.args.left.now) c.args.net.now.left c.climb-u1.result same c.requires.left_tree c.climb-u1.ensures.value in
    let u2 = reflects c.new-w.result.q Q x e (tree_of c.args.right.now) c.args.net.now.right c.climb-u2.result same c.requires.right_tree c.climb-u2.ensures.value in
    let sends = simp to_z-of_z at c.root_down.ensures in
    let d1 = root_sends c.new-w.result.q Q c.root_m-m.result c.args.net.now.m c.climb-u1.result c.climb-u2.result c.climb-u1.result _ _ _ c.root_down.result same c.root_m-m.ensures.value u1 u2 u1 sends in
    down_side (2 ^ (60 - c.args.net.now.k)) c.new-w.result.q Q x e c.climb-u1.new.self c.args.net.now.left _ _ (λ z h. limited_word c.args.net.now.k z c.rules.ensures.width.1 h) same (c.climb-u1.ensures.same ∙ c.requires.left_tree) c.climb-u1.ensures.filled (to_z-of_z w64 c.root_down.result f3 ∙ d1) c.requires.words.left

pub descend-requires-2-clause-placed : goal.descend-requires-2-clause-placed
descend-requires-2-clause-placed c =
    let few = c.rules.ensures.most in
    subst (IsPlaced 128) (sym (c.climb-u2.ensures.same ∙ c.requires.right_tree)) (placed_below 128 c.args.net.now.right (λ i h. let least = c.numbers.ensures.below i (in_right c.args.net.now i h) in omega arith))

pub descend-requires-2-clause-words : goal.descend-requires-2-clause-words
descend-requires-2-clause-words c =
    let Q = 2 ^ c.args.net.now.k in
    let x = at_place c.args.downs.now in
    let e = at_place c.args.inputs.now in
    let same : c.new-w.result.q ≡ Q = c.new-w.ensures ∙ ap (λ (k : ℕ). 2 ^ k) c.k.ensures.value in
    let f1 : SFits w64 c.climb-u1.result = record { sfits = c.climb-u1.type_inv } in
    let f2 : SFits w64 c.climb-u2.result = record { sfits = c.climb-u2.type_inv } in
    let f3 : SFits w64 c.root_down.result = record { sfits = c.root_down.type_inv } in
    let u1 = reflects c.new-w.result.q Q x e (tree_of c.args.left.now) c.args.net.now.left c.climb-u1.result same c.requires.left_tree c.climb-u1.ensures.value in
    let u2 = reflects c.new-w.result.q Q x e (tree_of c.args.right.now) c.args.net.now.right c.climb-u2.result same c.requires.right_tree c.climb-u2.ensures.value in
    let sends = simp to_z-of_z at c.root_down.ensures in
    let d1 = root_sends c.new-w.result.q Q c.root_m-m.result c.args.net.now.m c.climb-u1.result c.climb-u2.result c.climb-u1.result _ _ _ c.root_down.result same c.root_m-m.ensures.value u1 u2 u1 sends in
    let f4 : SFits w64 c.root_down-2.result = record { sfits = c.root_down-2.type_inv } in
    let sends-2 = simp to_z-of_z at c.root_down-2.ensures in
    let d2 = root_sends c.new-w.result.q Q c.root_m-m.result c.args.net.now.m c.climb-u1.result c.climb-u2.result c.climb-u2.result _ _ _ c.root_down-2.result same c.root_m-m.ensures.value u1 u2 u2 sends-2 in
    down_side (2 ^ (60 - c.args.net.now.k)) c.new-w.result.q Q x e c.climb-u2.new.self c.args.net.now.right _ _ (λ z h. limited_word c.args.net.now.k z c.rules.ensures.width.1 h) same (c.climb-u2.ensures.same ∙ c.requires.right_tree) c.climb-u2.ensures.filled (to_z-of_z w64 c.root_down-2.result f4 ∙ d2) c.requires.words.right

pub returns-clause-downs : goal.returns-clause-downs
returns-clause-downs c =
    let Q = 2 ^ c.args.net.now.k in
    let x = at_place c.args.downs.now in
    let e = at_place c.args.inputs.now in
    let same : c.new-w.result.q ≡ Q = c.new-w.ensures ∙ ap (λ (k : ℕ). 2 ^ k) c.k.ensures.value in
    let f1 : SFits w64 c.climb-u1.result = record { sfits = c.climb-u1.type_inv } in
    let f2 : SFits w64 c.climb-u2.result = record { sfits = c.climb-u2.type_inv } in
    let f3 : SFits w64 c.root_down.result = record { sfits = c.root_down.type_inv } in
    let u1 = reflects c.new-w.result.q Q x e (tree_of c.args.left.now) c.args.net.now.left c.climb-u1.result same c.requires.left_tree c.climb-u1.ensures.value in
    let u2 = reflects c.new-w.result.q Q x e (tree_of c.args.right.now) c.args.net.now.right c.climb-u2.result same c.requires.right_tree c.climb-u2.ensures.value in
    let sends = simp to_z-of_z at c.root_down.ensures in
    let d1 = root_sends c.new-w.result.q Q c.root_m-m.result c.args.net.now.m c.climb-u1.result c.climb-u2.result c.climb-u1.result _ _ _ c.root_down.result same c.root_m-m.ensures.value u1 u2 u1 sends in
    let f4 : SFits w64 c.root_down-2.result = record { sfits = c.root_down-2.type_inv } in
    let sends-2 = simp to_z-of_z at c.root_down-2.ensures in
    let d2 = root_sends c.new-w.result.q Q c.root_m-m.result c.args.net.now.m c.climb-u1.result c.climb-u2.result c.climb-u2.result _ _ _ c.root_down-2.result same c.root_m-m.ensures.value u1 u2 u2 sends-2 in
    let first = spread_side c.new-w.result.q Q x e c.climb-u1.new.self c.args.net.now.left _ _ c.args.downs.now same (c.climb-u1.ensures.same ∙ c.requires.left_tree) c.climb-u1.ensures.filled (to_z-of_z w64 c.root_down.result f3 ∙ d1) in
    let second = spread_side c.new-w.result.q Q x e c.climb-u2.new.self c.args.net.now.right _ _ c.descend.new.downs same (c.climb-u2.ensures.same ∙ c.requires.right_tree) c.climb-u2.ensures.filled (to_z-of_z w64 c.root_down-2.result f4 ∙ d2) in
    c.descend-2.ensures ∙ (second ∙ ap (placed c.args.net.now.right _) (c.descend.ensures ∙ first))
