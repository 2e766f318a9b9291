-- What is printed so far, and what is left to print.
use Rattle.std.proofs.Common.{◌≡◌, ◌≢◌, ℕ, zero, suc, ◌+◌, ◌-◌, ◌<◌, ◌≤◌, Bool, ◌||◌, List, [], ◌∷◌, ◌++◌, length, take, drop, replicate, get_or, sym, ap, ◌∙◌, arith, append_assoc}
use Rattle.std.specs.Prelude.{All}
use Rattle.std.proofs.lemmas.List.{drop_more, length-append, length-replicate}
use Rattle.wdf_law.specs.Network.{is_source}
use Rattle.wdf_netlist.specs.declared.element.Element.{Element}
use Rattle.wdf_netlist.specs.Canonical.{element_lines, element_word, element_words, line_text, lines_text, with_dot}
use Rattle.wdf_netlist.specs.Circuits.{CircuitValue, IsCircuit}

-- ---- values

pub dot_within : (digits : List ℕ) (places : ℕ) → places < length digits → with_dot digits places ≡ take (length digits - places) digits ++ 46 ∷ drop (length digits - places) digits
dot_within digits places few =
    let none : places + 1 - length digits ≡ 0 = omega arith in
    ap (λ (n : ℕ). let all = replicate n 48 ++ digits in take (length all - places) all ++ 46 ∷ drop (length all - places) all) none

pub dot_before : (digits : List ℕ) (places : ℕ) → length digits ≤ places → with_dot digits places ≡ 48 ∷ 46 ∷ (replicate (places - length digits) 48 ++ digits)
dot_before digits places many =
    let zeros = replicate (places - length digits) 48 in
    let some : places + 1 - length digits ≡ suc (places - length digits) = omega arith in
    let one : length (48 ∷ (zeros ++ digits)) - places ≡ suc zero = omega (arith, length-append zeros digits, length-replicate {A = ℕ} (places - length digits) 48) in
    ap (λ (n : ℕ). let all = replicate n 48 ++ digits in take (length all - places) all ++ 46 ∷ drop (length all - places) all) some
    ∙ ap (λ (n : ℕ). take n (48 ∷ (zeros ++ digits)) ++ 46 ∷ drop n (48 ∷ (zeros ++ digits))) one

-- ---- elements

-- an element more
pub elements_more : (nodes : List (List ℕ)) (behind : Bool) (elements : List Element) (i : ℕ) (d : Element) (out more whole : List ℕ) → i < length elements
    → out ++ lines_text (element_lines nodes behind (drop i elements)) ≡ whole
    → more ≡ out ++ line_text (element_words (element_word behind (get_or elements i d).kind) nodes (get_or elements i d))
    → more ++ lines_text (element_lines nodes (behind || is_source (get_or elements i d).kind) (drop (i + 1) elements)) ≡ whole
elements_more nodes behind elements i d out more whole within so next =
    let e = get_or elements i d in
    let line = line_text (element_words (element_word behind e.kind) nodes e) in
    let rest = lines_text (element_lines nodes (behind || is_source e.kind) (drop (i + 1) elements)) in
    ap (λ (l : List ℕ). l ++ rest) next ∙ append_assoc out line rest ∙ ap (λ (es : List Element). out ++ lines_text (element_lines nodes behind es)) (sym (drop_more elements i d within)) ∙ so

-- the nodes of a circuit are two at least
pub two_nodes : (c : CircuitValue) → IsCircuit c → 2 ≤ length c.nodes
two_nodes c k = by c.elements k.fewest k.ends_differ k.from_node k.to_node
  where
    by : (es : List Element) → 2 ≤ length es → All (λ (e : Element). e.from ≢ e.to) es → All (λ (e : Element). e.from < length c.nodes) es → All (λ (e : Element). e.to < length c.nodes) es → 2 ≤ length c.nodes
    by [] some differ from to = absurd (omega arith)
    by (e ∷ es) some differ from to =
        let d : e.from ≢ e.to = differ 0 e (omega arith) in
        let f : e.from < length c.nodes = from 0 e (omega arith) in
        let t : e.to < length c.nodes = to 0 e (omega arith) in
        omega arith
