use Rattle.std.proofs.Common.{◌≡◌, ℕ, List, ◌++◌, map, ap, ◌∙◌}
use Rattle.wdf_netlist.specs.TextRules.{nodes_of, numbered}
use Rattle.wdf_netlist.proofs.numbering.circuit_of.Goals as goal

pub new-requires : goal.new-requires
new-requires c =
    let parts = c.args.draft.now.parts.items in
    let nodes : c.in_ok-nodes.nodes ≡ nodes_of parts = c.in_ok-nodes.ensures.nodes ∙ ap nodes_of c.deref.ensures.value in
    let elements : c.in_ok-elements.elements.items ≡ map (numbered (nodes_of parts)) parts =
    c.in_ok-elements.ensures ∙ ap (λ (n : List (List ℕ)). map (numbered n) c.deref-2.result.now) nodes ∙ ap (map (numbered (nodes_of parts))) c.deref-2.ensures.value in
    let names : c.extend_from_slice.new.self.items ≡ nodes_of parts =
    c.in_ok-extend_from_slice.ensures.items ∙ ap (λ (l : List (List ℕ)). l ++ c.as_slice.result.now) c.new-names.ensures.items ∙ c.as_slice.ensures ∙ nodes in
    rw (elements, names) c.requires.circuit
