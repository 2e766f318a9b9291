-- What the walks over edges say of them as clauses see them.
use Rattle.std.proofs.Common.{◌≡◌, ℕ, suc, ◌+◌, ◌<◌, Bool, cond, List, [], ◌∷◌, ◌++◌, length, get_or, set, take, drop, Option, None, Some, refl, ap, sym, ◌∙◌, arith}
use Rattle.std.specs.Option.{IfSome}
use Rattle.std.specs.List.{count_by, remove}
use Rattle.std.proofs.lemmas.List.{map-set, map-append, take-map, drop-map, length-map, get_or-map, set-set}
use Rattle.std.proofs.lemmas.List.Edits.{get_or-remove_below}
use Rattle.std.proofs.lemmas.List.Sums.{sum_by-cons}
use Rattle.wdf_law.specs.declared.connection.Connection.{Connection}
use Rattle.wdf_sp.specs.declared.edge.Edge.{Edge}
use Rattle.wdf_sp.specs.declared.merge.Merge.{Merge}
use Rattle.wdf_netlist.specs.declared.element.Element.{Element}
use Rattle.wdf_sp.specs.Edges.{arc, arcs, branch, branches}
use Rattle.wdf_sp.specs.Reduction.{Arc, touches, degree, inner_node, joined_at, merged, no_arc, arc_at, fit, next_merge, after_merge, leaf_arc, edges_from}
use Rattle.wdf_sp.proofs.PairLemmas.{next_merge-order}
use Rattle.wdf_sp.proofs.WalkLemmas.{edges_add, edges_skip}

-- a count over edges
pub degree_arcs : (x : ℕ) (es : List Edge) → degree (arcs es) x ≡ count_by (λ (e : Edge). touches x (arc e)) es
degree_arcs x [] = refl
degree_arcs x (e ∷ es) =
    sum_by-cons (λ (a : Arc). cond {A = ℕ} (touches x a) 1 0) (arc e) (arcs es)
    ∙ ap (λ (n : ℕ). cond {A = ℕ} (touches x (arc e)) 1 0 + n) (degree_arcs x es)
    ∙ sym (sum_by-cons (λ (f : Edge). cond {A = ℕ} (touches x (arc f)) 1 0) e es)

-- the places of the next merge are in the list
pub next_merge_order : (p q : ℕ) (es : List Edge) (o : Option Merge) → next_merge p q (arcs es) ≡ o → IfSome o (λ (m : Merge). m.first < m.second)
next_merge_order p q es None e = tt
next_merge_order p q es (Some m) e = (next_merge-order p q (arcs es) m e).0

pub next_merge_within : (p q : ℕ) (es : List Edge) (o : Option Merge) → next_merge p q (arcs es) ≡ o → IfSome o (λ (m : Merge). m.second < length es)
next_merge_within p q es None e = tt
next_merge_within p q es (Some m) e = omega (arith, (next_merge-order p q (arcs es) m e).1, length-map es arc)

pub arcs_remove : (es : List Edge) (j : ℕ) → arcs (remove es j) ≡ remove (arcs es) j
arcs_remove es j = map-append arc (take j es) (drop (suc j) es) ∙ (λ i. sym (take-map arc j es) i ++ sym (drop-map arc (suc j) es) i)

-- an edge that was read at a place
pub arc_is : (es : List Edge) (i : ℕ) (x : Edge) → i < length es → x ≡ get_or es i x → arc x ≡ arc_at (arcs es) i
arc_is es i x within e = ap arc e ∙ sym (get_or-map arc es i x no_arc within)

-- the list after a merge: the second edge s is taken out, and whole takes the place of the first edge f, where v stood meanwhile
pub arcs_merged : (p q : ℕ) (es rest read : List Edge) (m : Merge) (v whole f s x y : Edge) (node : ℕ) → m.first < m.second → m.second < length es
    → rest ≡ remove es m.second → s ≡ get_or es m.second s → f ≡ get_or rest m.first f
    → read ≡ es → x ≡ get_or es m.first x → y ≡ get_or es m.second y → node ≡ inner_node p q (arcs read) (arc x) (arc y)
    → arc whole ≡ joined_at m.connection node (arc f) (arc s)
    → arcs (set (set rest m.first v) m.first whole) ≡ after_merge p q (arcs es) m
arcs_merged p q es rest read m v whole f s x y node order within is_rest is_s is_f is_read is_x is_y is_node is_whole =
    let inside : m.first < length es = omega arith in
    let first : f ≡ get_or es m.first f = is_f ∙ ap (λ (xs : List Edge). get_or xs m.first f) is_rest ∙ get_or-remove_below es m.second f m.first order within in
    let ef : arc f ≡ arc_at (arcs es) m.first = arc_is es m.first f inside first in
    let es' : arc s ≡ arc_at (arcs es) m.second = arc_is es m.second s within is_s in
    let ex : arc x ≡ arc_at (arcs es) m.first = arc_is es m.first x inside is_x in
    let ey : arc y ≡ arc_at (arcs es) m.second = arc_is es m.second y within is_y in
    let en : node ≡ inner_node p q (arcs es) (arc_at (arcs es) m.first) (arc_at (arcs es) m.second) = is_node ∙ (λ k. inner_node p q (arcs (is_read k)) (ex k) (ey k)) in
    let ew : arc whole ≡ merged p q (arcs es) m.connection (arc_at (arcs es) m.first) (arc_at (arcs es) m.second) = is_whole ∙ (λ k. joined_at m.connection (en k) (ef k) (es' k)) in
    ap arcs (set-set rest m.first v whole)
    ∙ map-set arc rest m.first whole
    ∙ (λ k. set (arcs (is_rest k)) m.first (ew k))
    ∙ ap (λ (xs : List Arc). set xs m.first (merged p q (arcs es) m.connection (arc_at (arcs es) m.first) (arc_at (arcs es) m.second))) (arcs_remove es m.second)

-- what the rule says of two edges that were read at their places
pub fit_at : (p q : ℕ) (es : List Edge) (c : Connection) (i j : ℕ) (x y : Edge) (r : Bool) → i < length es → j < length es → x ≡ get_or es i x → y ≡ get_or es j y
    → r ≡ fit p q (arcs es) c (arc x) (arc y) → fit p q (arcs es) c (arc_at (arcs es) i) (arc_at (arcs es) j) ≡ r
fit_at p q es c i j x y r first second is_x is_y is_r = sym (is_r ∙ (λ k. fit p q (arcs es) c (arc_is es i x first is_x k) (arc_is es j y second is_y k)))

-- ---- the first list, element by element

branch_read : (es : List Element) (i : ℕ) (x : Element) → i < length es → x ≡ get_or es i x → branch x ≡ get_or (branches es) i (branch x)
branch_read es i x within e = ap branch e ∙ sym (get_or-map branch es i x (branch x) within)

pub edge_added : (source : ℕ) (done : List Edge) (e : Edge) (es : List Element) (i : ℕ) (x : Element) (whole : List Arc) → i < length es → x ≡ get_or es i x → (i ≡ source → ⊥) → arc e ≡ leaf_arc i (branch x)
    → arcs done ++ edges_from source i (drop i (branches es)) ≡ whole → arcs (done ++ e ∷ []) ++ edges_from source (i + 1) (drop (i + 1) (branches es)) ≡ whole
edge_added source done e es i x whole within read other is so_far =
    ap (λ (xs : List Arc). xs ++ edges_from source (i + 1) (drop (i + 1) (branches es))) (map-append arc done (e ∷ []) ∙ (λ k. arcs done ++ is k ∷ []))
    ∙ edges_add source (arcs done) (branches es) i (branch x) (omega (arith, length-map es branch)) (branch_read es i x within read) other
    ∙ so_far

pub edge_skipped : (source : ℕ) (done : List Edge) (es : List Element) (i : ℕ) (x : Element) (whole : List Arc) → i < length es → x ≡ get_or es i x → i ≡ source
    → arcs done ++ edges_from source i (drop i (branches es)) ≡ whole → arcs done ++ edges_from source (i + 1) (drop (i + 1) (branches es)) ≡ whole
edge_skipped source done es i x whole within read same so_far =
    edges_skip source (arcs done) (branches es) i (branch x) (omega (arith, length-map es branch)) (branch_read es i x within read) same ∙ so_far
