-- What a walk over edges finds from a place on.
use Rattle.std.proofs.Common.{◌≡◌, ℕ, ◌+◌, ◌<◌, ◌≤◌, Bool, true, false, List, [], ◌∷◌, ◌++◌, length, get_or, drop, Option, None, Some, ap, sym, ◌∙◌, drop-cons, add-one, append_assoc, eqb}
use Rattle.std.specs.Option.{option_or, option_map}
use Rattle.std.specs.List.{find}
use Rattle.std.proofs.lemmas.List.{drop_all}
use Rattle.std.proofs.lemmas.Bool.{cond-true, cond-false, eq-eqb, ne_eqb}
use Rattle.wdf_law.specs.declared.connection.Connection.{Connection}
use Rattle.wdf_law.specs.Spans.{Branch}
use Rattle.wdf_sp.specs.Reduction.{Arc, no_arc, arc_at, first_place, first_pair, leaf_arc, edges_from}

-- the list from a place on is its element there and the list behind it
from_place : (es : List Arc) (n : ℕ) → n < length es → drop n es ≡ arc_at es n ∷ drop (n + 1) es
from_place es n h = drop-cons es n no_arc h ∙ (λ k. arc_at es n ∷ drop (sym (add-one n) k) es)

pub place_here : (test : Arc → Bool) (es : List Arc) (n : ℕ) → n < length es → test (arc_at es n) ≡ true → first_place test n (drop n es) ≡ Some n
place_here test es n h t = ap (first_place test n) (from_place es n h) ∙ cond-true (test (arc_at es n)) (Some n) (first_place test (n + 1) (drop (n + 1) es)) t

pub place_later : (test : Arc → Bool) (es : List Arc) (n : ℕ) → n < length es → test (arc_at es n) ≡ false → first_place test n (drop n es) ≡ first_place test (n + 1) (drop (n + 1) es)
place_later test es n h t = ap (first_place test n) (from_place es n h) ∙ cond-false (test (arc_at es n)) (Some n) (first_place test (n + 1) (drop (n + 1) es)) t

pub place_past : (test : Arc → Bool) (es : List Arc) (n : ℕ) → length es ≤ n → first_place test n (drop n es) ≡ None
place_past test es n h = ap (first_place test n) (drop_all n es h)

pub pair_here : (c : Connection) (test : Arc → Arc → Bool) (es : List Arc) (n j : ℕ) → n < length es → first_place (test (arc_at es n)) (n + 1) (drop (n + 1) es) ≡ Some j
    → first_pair c test n (drop n es) ≡ Some (record { connection = c; first = n; second = j })
pair_here c test es n j h e =
    ap (first_pair c test n) (from_place es n h)
    ∙ ap (λ (o : Option ℕ). option_or (option_map (λ (k : ℕ). record { connection = c; first = n; second = k }) o) (first_pair c test (n + 1) (drop (n + 1) es))) e

pub pair_later : (c : Connection) (test : Arc → Arc → Bool) (es : List Arc) (n : ℕ) → n < length es → first_place (test (arc_at es n)) (n + 1) (drop (n + 1) es) ≡ None
    → first_pair c test n (drop n es) ≡ first_pair c test (n + 1) (drop (n + 1) es)
pair_later c test es n h e =
    ap (first_pair c test n) (from_place es n h)
    ∙ ap (λ (o : Option ℕ). option_or (option_map (λ (k : ℕ). record { connection = c; first = n; second = k }) o) (first_pair c test (n + 1) (drop (n + 1) es))) e

pub pair_past : (c : Connection) (test : Arc → Arc → Bool) (es : List Arc) (n : ℕ) → length es ≤ n → first_pair c test n (drop n es) ≡ None
pair_past c test es n h = ap (first_pair c test n) (drop_all n es h)

pub find_here : (test : Arc → Bool) (es : List Arc) (n : ℕ) → n < length es → test (arc_at es n) ≡ true → find test (drop n es) ≡ Some (arc_at es n)
find_here test es n h t = ap (find test) (from_place es n h) ∙ cond-true (test (arc_at es n)) (Some (arc_at es n)) (find test (drop (n + 1) es)) t

pub find_later : (test : Arc → Bool) (es : List Arc) (n : ℕ) → n < length es → test (arc_at es n) ≡ false → find test (drop n es) ≡ find test (drop (n + 1) es)
find_later test es n h t = ap (find test) (from_place es n h) ∙ cond-false (test (arc_at es n)) (Some (arc_at es n)) (find test (drop (n + 1) es)) t

pub find_past : (test : Arc → Bool) (es : List Arc) (n : ℕ) → length es ≤ n → find test (drop n es) ≡ None
find_past test es n h = ap (find test) (drop_all n es h)

-- ---- the first list, element by element

from_element : (bs : List Branch) (n : ℕ) (b : Branch) → n < length bs → b ≡ get_or bs n b → drop n bs ≡ b ∷ drop (n + 1) bs
from_element bs n b h e = drop-cons bs n b h ∙ (λ k. sym e k ∷ drop (sym (add-one n) k) bs)

pub edges_skip : (source : ℕ) (done : List Arc) (bs : List Branch) (n : ℕ) (b : Branch) → n < length bs → b ≡ get_or bs n b → n ≡ source
    → done ++ edges_from source (n + 1) (drop (n + 1) bs) ≡ done ++ edges_from source n (drop n bs)
edges_skip source done bs n b h e same =
    ap (λ (es : List Arc). done ++ es)
    (sym (ap (edges_from source n) (from_element bs n b h e)
    ∙ cond-true (eqb n source) (edges_from source (n + 1) (drop (n + 1) bs)) (leaf_arc n b ∷ edges_from source (n + 1) (drop (n + 1) bs)) (eq-eqb n source same)))

pub edges_add : (source : ℕ) (done : List Arc) (bs : List Branch) (n : ℕ) (b : Branch) → n < length bs → b ≡ get_or bs n b → (n ≡ source → ⊥)
    → (done ++ leaf_arc n b ∷ []) ++ edges_from source (n + 1) (drop (n + 1) bs) ≡ done ++ edges_from source n (drop n bs)
edges_add source done bs n b h e other =
    append_assoc done (leaf_arc n b ∷ []) (edges_from source (n + 1) (drop (n + 1) bs))
    ∙ ap (λ (es : List Arc). done ++ es)
    (sym (ap (edges_from source n) (from_element bs n b h e)
    ∙ cond-false (eqb n source) (edges_from source (n + 1) (drop (n + 1) bs)) (leaf_arc n b ∷ edges_from source (n + 1) (drop (n + 1) bs)) (ne_eqb n source other)))
