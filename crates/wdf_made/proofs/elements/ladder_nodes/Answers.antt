use Rattle.std.proofs.Common.{◌≡◌, ℕ, List, [], ◌∷◌, ◌++◌, sym, ap, ◌∙◌, codes}
use Rattle.wdf_made.proofs.WordLemmas.{nodes_more}
use Rattle.wdf_made.proofs.elements.ladder_nodes.Goals as goal

pub loop-j-preserved : goal.loop-j-preserved
loop-j-preserved c =
    let pushed : c.push-in-loop-j.new.self.items ≡ c.loop-j.nodes.items ++ c.node_name.result ∷ [] = c.in_ok-push-3.ensures.items in
    pushed
    ∙ (λ i. c.loop-j.invariant i ++ c.node_name.ensures i ∷ [])
    ∙ ap (λ (l : List (List ℕ)). codes "n0" ∷ codes "0" ∷ l) (sym (nodes_more c.loop-j.j))
