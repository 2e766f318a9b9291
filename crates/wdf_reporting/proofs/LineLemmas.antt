-- The text of lines.
use Rattle.std.proofs.Common.{◌≡◌, ℕ, ◌+◌, List, [], ◌∷◌, ◌++◌, map, sym, ap, ◌∙◌, arith, append_assoc}
use Rattle.std.specs.List.{range_with_len}
use Rattle.std.proofs.lemmas.Grind.{flat_map-append}
use Rattle.std.proofs.lemmas.List.{flat_map_more}
use Rattle.std.proofs.lemmas.List.FromFn.{map-range_with_len_more}
use Rattle.wdf_reporting.specs.ReportText.{lines_text}

abbrev ended : List ℕ → List ℕ
ended line = line ++ 10 ∷ []

pub lines_append : (xs ys : List (List ℕ)) → lines_text (xs ++ ys) ≡ lines_text xs ++ lines_text ys
lines_append xs ys = flat_map-append ended xs ys

-- the line of one number more
pub lines_more : (f : ℕ → List ℕ) (i : ℕ) (out : List ℕ) → out ++ lines_text (map f (range_with_len 0 i)) ++ f i ++ 10 ∷ [] ≡ out ++ lines_text (map f (range_with_len 0 (i + 1)))
lines_more f i out =
    append_assoc (out ++ lines_text (map f (range_with_len 0 i))) (f i) (10 ∷ [])
    ∙ flat_map_more ended out (map f (range_with_len 0 i)) (f i)
    ∙ ap (λ (ls : List (List ℕ)). out ++ lines_text ls) (sym (map-range_with_len_more f 0 i i (omega arith)))

-- the lines of two circuits
pub both_told : (first second : List (List ℕ)) (o0 o1 o2 : List ℕ) → o1 ≡ o0 ++ lines_text first → o2 ≡ o1 ++ lines_text second → o2 ≡ o0 ++ lines_text (first ++ second)
both_told first second o0 o1 o2 h1 h2 =
    let joined : (o0 ++ lines_text first) ++ lines_text second ≡ o0 ++ lines_text (first ++ second) = simp (lines_append, append_assoc) in
    h2 ∙ ap (λ (text : List ℕ). text ++ lines_text second) h1 ∙ joined

-- the line of a junction and those of its parts
pub junction_told : (line : List ℕ) (first second : List (List ℕ)) (o0 o1 o2 o3 : List ℕ) → o1 ≡ o0 ++ line ++ 10 ∷ [] → o2 ≡ o1 ++ lines_text first → o3 ≡ o2 ++ lines_text second
    → o3 ≡ o0 ++ lines_text (line ∷ first ++ second)
junction_told line first second o0 o1 o2 o3 h1 h2 h3 =
    let begun : o2 ≡ o0 ++ lines_text (line ∷ first) = simp (h2, h1, append_assoc) in
    both_told (line ∷ first) second o0 o2 o3 begun h3

-- the four lines of a head
pub head_told : (a b c d o0 o1 o2 o3 o4 : List ℕ) → o1 ≡ o0 ++ a ++ 10 ∷ [] → o2 ≡ o1 ++ b ++ 10 ∷ [] → o3 ≡ o2 ++ c ++ 10 ∷ [] → o4 ≡ o3 ++ d ++ 10 ∷ []
    → o4 ≡ o0 ++ lines_text (a ∷ b ∷ c ∷ d ∷ [])
head_told a b c d o0 o1 o2 o3 o4 h1 h2 h3 h4 = simp (h4, h3, h2, h1, append_assoc)

-- the lines of a circuit, one piece after the other
pub circuit_told : (branch elements left right : List (List ℕ)) (root junction largest states : List ℕ) (out o1 o2 o3 o4 o5 o6 o7 o8 : List ℕ)
    → o1 ≡ out ++ lines_text branch
    → o2 ≡ o1 ++ root ++ 10 ∷ []
    → o3 ≡ o2 ++ lines_text elements
    → o4 ≡ o3 ++ junction ++ 10 ∷ []
    → o5 ≡ o4 ++ lines_text left
    → o6 ≡ o5 ++ lines_text right
    → o7 ≡ o6 ++ largest ++ 10 ∷ []
    → o8 ≡ o7 ++ states ++ 10 ∷ []
    → o8 ≡ out ++ lines_text (branch ++ root ∷ elements ++ junction ∷ left ++ right ++ largest ∷ states ∷ [])
circuit_told branch elements left right root junction largest states out o1 o2 o3 o4 o5 o6 o7 o8 h1 h2 h3 h4 h5 h6 h7 h8 =
    let pieces : o8 ≡ out ++ ((((lines_text branch ++ lines_text (root ∷ elements)) ++ lines_text (junction ∷ left)) ++ lines_text right) ++ lines_text (largest ∷ states ∷ [])) =
    simp (h8, h7, h6, h5, h4, h3, h2, h1, append_assoc) in
    let first = lines_append branch (root ∷ elements) in
    let second = lines_append (branch ++ root ∷ elements) (junction ∷ left) ∙ ap (λ (text : List ℕ). text ++ lines_text (junction ∷ left)) first in
    let third = lines_append (branch ++ root ∷ elements ++ junction ∷ left) right ∙ ap (λ (text : List ℕ). text ++ lines_text right) second in
    let whole = lines_append (branch ++ root ∷ elements ++ junction ∷ left ++ right) (largest ∷ states ∷ []) ∙ ap (λ (text : List ℕ). text ++ lines_text (largest ∷ states ∷ [])) third in
    pieces ∙ ap (λ (text : List ℕ). out ++ text) (sym whole)
