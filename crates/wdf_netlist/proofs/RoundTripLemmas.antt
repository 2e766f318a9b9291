-- The canonical text of a netlist stands for it, and for nothing else.
use Rattle.std.proofs.Common.{◌≡◌, ℕ, suc, ◌*◌, ◌≤◌, Bool, true, false, ◌||◌, List, [], ◌∷◌, ◌++◌, length, drop, Ok, refl, sym, ap, ◌∙◌, arith, length-append}
use Rattle.std.specs.Prelude.{All, codes, flat_map}
use Rattle.std.proofs.lemmas.List.{length-drop}
use Rattle.std.proofs.lemmas.List.Elements.{All-tail}
use Rattle.wdf_text.specs.declared.cursor.TheConstants.{MAX_TEXT}
use Rattle.wdf_law.specs.Network.{is_source}
use Rattle.wdf_law.specs.declared.outlet.Outlet.{Outlet}
use Rattle.wdf_law.specs.declared.outlet.Outlet.TheVariants as outlets
use Rattle.wdf_netlist.specs.declared.element.Element.{Element}
use Rattle.wdf_netlist.specs.declared.root_choice.RootChoice.{RootChoice}
use Rattle.wdf_netlist.specs.declared.root_choice.RootChoice.TheVariants as roots
use Rattle.wdf_netlist.specs.Circuits.{CircuitValue, IsCircuit}
use Rattle.wdf_netlist.specs.declared.form.Form.{Form}
use Rattle.wdf_netlist.specs.declared.form.Form.TheVariants.{Ladder, Lattice}
use Rattle.wdf_netlist.specs.Canonical.{Words, branch_lines, canonical, element_lines, line_text, lines_text, load_lines, netlist_lines, root_lines}
use Rattle.wdf_netlist.specs.Netlists.{HasCircuits, IsForm, IsNetlist, NetlistValue}
use Rattle.wdf_netlist.specs.NetlistText.{Stands}
use Rattle.wdf_netlist.proofs.LadderTextLemmas.{ladder_plain, ladder_round}
use Rattle.wdf_netlist.proofs.LatticeTextLemmas.{lattice_plain, lattice_round}
use Rattle.wdf_netlist.proofs.LineBackLemmas.{IsPlainLine, IsPlainWord}

pub stands_for_it : (n : NetlistValue) → IsNetlist n → Stands (canonical n) n
stands_for_it n k = by n.form k.form k.circuits
  where
    by : (form : Form) → IsForm form → HasCircuits form → Stands (canonical (record { rate = n.rate; form = form })) (record { rate = n.rate; form = form })
    by (Ladder c) ladder circuits = ladder_round n.rate c k.slowest k.fastest ladder circuits
    by (Lattice a b) l circuits = lattice_round n.rate l.termination a b k.slowest k.fastest l.first l.second circuits.0 circuits.1

pub for_nothing_else : (n : NetlistValue) → IsNetlist n → (other : NetlistValue) → Stands (canonical n) other → other ≡ n
for_nothing_else n k other stands = let e : Ok other ≡ Ok n = sym stands ∙ stands_for_it n k in cc

-- ---- its length

line_short : (l : Words) → IsPlainLine l → length (line_text l) ≤ 205
line_short l p =
    let spaced : List (List ℕ) → List ℕ = λ ws. flat_map (λ (word : List ℕ). 32 ∷ word) ws in
    omega (arith, length-append (l.first ++ spaced l.rest) (10 ∷ []), length-append l.first (spaced l.rest), p.first.few, words_short l.rest p.rest, p.few)
  where
    words_short : (ws : List (List ℕ)) → All IsPlainWord ws → length (flat_map (λ (word : List ℕ). 32 ∷ word) ws) ≤ 41 * length ws
    words_short [] plain = omega arith
    words_short (w ∷ ws) plain =
        let few : length w ≤ 40 = (plain 0 w (omega arith)).few in
        omega (arith, length-append (32 ∷ w) (flat_map (λ (word : List ℕ). 32 ∷ word) ws), words_short ws (All-tail IsPlainWord w ws plain))

lines_short : (ls : List Words) → All IsPlainLine ls → length (lines_text ls) ≤ 205 * length ls
lines_short [] plain = omega arith
lines_short (l ∷ ls) plain = omega (arith, length-append (line_text l) (lines_text ls), line_short l (plain 0 l (omega arith)), lines_short ls (All-tail IsPlainLine l ls plain))

elements_counted : (nodes : List (List ℕ)) (sourced : Bool) (elements : List Element) → length (element_lines nodes sourced elements) ≡ length elements
elements_counted nodes sourced [] = refl
elements_counted nodes sourced (e ∷ es) = ap (λ (n : ℕ). suc n) (elements_counted nodes (sourced || is_source e.kind) es)

load_counted : (elements : List Element) (outlet : Outlet) → length (load_lines elements outlet) ≤ 1
load_counted elements (outlets.Load i) = omega arith
load_counted elements outlets.Source = omega arith

root_counted : (elements : List Element) (choice : RootChoice) → length (root_lines elements choice) ≤ 1
root_counted elements roots.Source = omega arith
root_counted elements (roots.Element i) = omega arith
root_counted elements roots.Shallow = omega arith

branch_counted : (letter : List ℕ) (c : CircuitValue) → IsCircuit c → length (branch_lines letter c) ≤ 130
branch_counted letter c k =
    let rest = drop 1 c.elements in
    omega (arith, length-append (element_lines c.nodes true rest) (root_lines c.elements c.root), elements_counted c.nodes true rest, root_counted c.elements c.root, length-drop 1 c.elements, k.most)

-- it may be read
pub is_short : (n : NetlistValue) → IsNetlist n → length (canonical n) ≤ MAX_TEXT
is_short n k = by n.form k.form k.circuits
  where
    by : (form : Form) → IsForm form → HasCircuits form → length (canonical (record { rate = n.rate; form = form })) ≤ MAX_TEXT
    by (Ladder c) ladder circuits =
        let m : NetlistValue = record { rate = n.rate; form = Ladder c } in
        let last = load_lines c.elements c.outlet ++ root_lines c.elements c.root in
        omega (
          arith,
          lines_short (netlist_lines m) (ladder_plain n.rate c k.slowest k.fastest ladder circuits),
          length-append (element_lines c.nodes false c.elements) last,
          length-append (load_lines c.elements c.outlet) (root_lines c.elements c.root),
          elements_counted c.nodes false c.elements,
          load_counted c.elements c.outlet,
          root_counted c.elements c.root,
          circuits.most,
        )
    by (Lattice a b) l circuits =
        let m : NetlistValue = record { rate = n.rate; form = Lattice a b } in
        omega (
          arith,
          lines_short (netlist_lines m) (lattice_plain n.rate l.termination a b k.slowest k.fastest l.first l.second circuits.0 circuits.1),
          length-append (branch_lines (codes "A") a) (branch_lines (codes "B") b),
          branch_counted (codes "A") a circuits.0,
          branch_counted (codes "B") b circuits.1,
        )
