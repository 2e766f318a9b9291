-- The text of a made ladder stands for it: its lines say what those of the canonical text say.
use Rattle.std.proofs.Common.{◌≡◌, ℕ, zero, suc, ◌+◌, ◌/◌, ◌%◌, ◌*◌, ◌<◌, ◌≤◌, Bool, true, false, List, [], ◌∷◌, ◌++◌, length, get_or, map, Ok, Result, eqb, refl, sym, ap, ◌∙◌, subst, arith, length-append}
use Rattle.std.specs.Prelude.{All, codes, decimal, flat_map, negsuc}
use Rattle.std.specs.Fmt.{digits}
use Rattle.std.specs.List.{range_with_len}
use Rattle.std.proofs.lemmas.Bool.{cond-false, ne_eqb}
use Rattle.std.proofs.lemmas.List.{get_or-map}
use Rattle.std.proofs.lemmas.List.Elements.{All-append, All-cons, All-map, All-tail}
use Rattle.std.proofs.lemmas.List.FromFn.{get_or-map-range_with_len, get_or-range_with_len, length-map-range_with_len, length-range_with_len}
use Rattle.std.proofs.Math.Seq.{get_or-append_seam}
use Rattle.wdf_text.specs.DecimalNumber.{DecimalNumber}
use Rattle.wdf_text.specs.Names.{is_name}
use Rattle.wdf_text.specs.declared.cursor.TheConstants.{MAX_TEXT}
use Rattle.wdf_netlist.specs.declared.element.Element.{Element}
use Rattle.wdf_netlist.specs.declared.net_fault.NetFault.{NetFault}
use Rattle.wdf_netlist.specs.Canonical.{Words, element_lines, element_word, element_words as canonical_words, line_text, lines_text, netlist_lines, node_name, value_text}
use Rattle.wdf_netlist.specs.Circuits.{CircuitValue, IsElementValue, names}
use Rattle.wdf_netlist.specs.Lines.{Line}
use Rattle.wdf_netlist.specs.LineRules.{◌>>=◌, line_said}
use Rattle.wdf_netlist.specs.Netlists.{NetlistValue}
use Rattle.wdf_netlist.specs.NetlistText.{Stands, all_said}
use Rattle.wdf_netlist.specs.Statements.{Statement}
use Rattle.wdf_netlist.specs.TextRules.{netlist_said}
use Rattle.wdf_netlist.proofs.LadderTextLemmas.{ladder_plain, ladder_round}
use Rattle.wdf_netlist.proofs.LineBackLemmas.{IsPlainLine, IsPlainWord, line_at, lines_back}
use Rattle.wdf_netlist.proofs.PlainLemmas.{plain_name, plain_none, plain_two, plain_words}
use Rattle.wdf_netlist.proofs.StatementBackLemmas.{name_test}
use Rattle.wdf_netlist.proofs.ValueBackLemmas.{value_back}
use Rattle.wdf_made.specs.Generator.{word_at}
use Rattle.wdf_made.specs.Ladder.{circuit_with, elements_with, in_one_form, is_capacitor, ladder_nodes, made_netlist, made_value, node_number, numbered_name, rung, the_load, value_from}
use Rattle.wdf_made.specs.LadderText.{element_words, last_lines, made_lines, made_text, node, rung_words, two_words}
use Rattle.wdf_made.proofs.AlikeLemmas.{AreAlike, IsAlike, all_alike, capacitors_alike, inductors_alike}
use Rattle.wdf_made.proofs.LadderLemmas.{element_named, is_circuit, is_ladder, node_named}
use Rattle.wdf_made.proofs.UnitLemmas.{letter_back, plain_letter}
use Rattle.wdf_made.proofs.ValueLemmas.{made_values, value_within}

-- ---- names

node_is : (order j : ℕ) → j ≤ order / 2 → node_name (ladder_nodes order) (node_number j) ≡ node j
unfolding digits
node_is order zero few = refl
node_is order (suc j) few =
    let nodes = ladder_nodes order in
    let number : node_number (suc j) ≡ suc (suc j) = cond-false _ _ _ (ne_eqb (suc j) 0 (λ (e : suc j ≡ 0). omega arith)) ∙ omega arith in
    let one : j + 1 ≡ suc j = omega arith in
    ap (λ (n : ℕ). get_or nodes n []) number
    ∙ get_or-map-range_with_len (λ (k : ℕ). numbered_name (codes "n") (k + 1)) 0 (order / 2) j j [] (omega arith) (omega arith)
    ∙ ap node one

-- the load is the last element
load_is : (values : ℕ → DecimalNumber) (order : ℕ) → get_or (names (elements_with values order)) (order + 1) [] ≡ codes "L"
load_is values order =
    let rungs = map (λ (place : ℕ). rung place (values place)) (range_with_len 0 order) in
    let rest = rungs ++ the_load order ∷ [] in
    let one : order + 1 ≡ suc order = omega arith in
    let long : length rungs ≡ order = length-map-range_with_len (λ (place : ℕ). rung place (values place)) 0 order in
    ap (λ (n : ℕ). get_or (names (elements_with values order)) n []) one
    ∙ get_or-map (λ (e : Element). e.name) rest order (the_load order) [] (omega (arith, length-append rungs (the_load order ∷ []), long))
    ∙ ap (λ (n : ℕ). (get_or rest n (the_load order)).name) (sym long)
    ∙ ap (λ (e : Element). e.name) (get_or-append_seam rungs (the_load order) [] (the_load order))

-- ---- lines that are alike

rung_alike : (order place word : ℕ) → place < order →
    let e = rung place (value_from place word) in
    IsAlike (rung_words place word) (canonical_words (element_word true e.kind) (ladder_nodes order) e)
rung_alike order place word less = by (is_capacitor place) refl (value_within place word)
  where
    name : List ℕ
    name = numbered_name (codes "E") (place + 1)

    from : node_name (ladder_nodes order) (node_number (place / 2)) ≡ node (place / 2)
    from = node_is order (place / 2) (omega arith)

    by : (c : Bool) → is_capacitor place ≡ c → IsElementValue (value_from place word) →
        let e = rung place (value_from place word) in
        IsAlike (rung_words place word) (canonical_words (element_word true e.kind) (ladder_nodes order) e)
    by true is good =
        let v = in_one_form (1 + word % 999) (negsuc 8) in
        let text = letter_back (1 + word % 999) 110 (negsuc 8) (omega arith) (grind arith) refl refl (omega arith) (omega arith) in
        let back = value_back v (rw is at good) in
        rw is (λ (before : List Statement) (line : ℕ).
        capacitors_alike name (node (place / 2)) (codes "0") (decimal (1 + word % 999) ++ codes "n") (value_text v) v text back before line
        ∙ (λ i. line_said before (line_at (element_words (codes "c") name (sym from i) (codes "0") (value_text v)) line)))
    by false is good =
        let v = in_one_form (1 + word % 99) (negsuc 2) in
        let text = letter_back (1 + word % 99) 109 (negsuc 2) (omega arith) (grind arith) refl refl (omega arith) (omega arith) in
        let back = value_back v (rw is at good) in
        let odd : place % 2 ≡ 1 = grind arith in
        let to = node_is order (place / 2 + 1) (omega (arith, odd)) in
        rw is (λ (before : List Statement) (line : ℕ).
        inductors_alike name (node (place / 2)) (node (place / 2 + 1)) (decimal (1 + word % 99) ++ codes "m") (value_text v) v text back before line
        ∙ (λ i. line_said before (line_at (element_words (codes "l") name (sym from i) (sym to i) (value_text v)) line)))

-- the rungs from one on, and the load's lines
rungs_alike : (seed order place n : ℕ) (loaded : List ℕ) → place + n ≡ order → loaded ≡ codes "L"
    → AreAlike (map (λ (p : ℕ). rung_words p (word_at seed p)) (range_with_len place n) ++ last_lines (order / 2))
    (element_lines (ladder_nodes order) true (map (λ (p : ℕ). rung p (made_value seed p)) (range_with_len place n) ++ the_load order ∷ []) ++ two_words (codes "load") loaded ∷ [])
unfolding digits
rungs_alike seed order place zero loaded all is =
    let from = node_is order (order / 2) (omega arith) in (
      (λ (before : List Statement) (line : ℕ). λ i. line_said before (line_at (element_words (codes "r") (codes "L") (sym from i) (codes "0") (codes "600")) line)),
      (
        (λ (before : List Statement) (line : ℕ). λ i. line_said before (line_at (two_words (codes "load") (sym is i)) line)),
        tt,
      ),
    )
rungs_alike seed order place (suc n) loaded all is = (rung_alike order place (word_at seed place) (omega arith), rungs_alike seed order (place + 1) n loaded (omega arith) is)

lines_alike : (seed order : ℕ) → AreAlike (made_lines seed order) (netlist_lines (made_netlist seed order))
unfolding digits
lines_alike seed order =
    let load = load_is (made_value seed) order in (
      (λ (before : List Statement) (line : ℕ). refl),
      ((λ (before : List Statement) (line : ℕ). refl), rungs_alike seed order 0 order (get_or (names (elements_with (made_value seed) order)) (order + 1) []) (omega arith) load),
    )

-- ---- lines that are plain

plain_element : (keyword name from to value : List ℕ) → is_name keyword ≡ true → eqb (get_or keyword 0 0) 42 ≡ false → is_name name ≡ true → is_name from ≡ true → is_name to ≡ true → IsPlainWord value
    → IsPlainLine (element_words keyword name from to value)
plain_element keyword name from to value is statement a b c v =
    record {
      few = omega arith;
      first = plain_name keyword is;
      rest = plain_words (from ∷ to ∷ value ∷ []) name (plain_name name a) (plain_words (to ∷ value ∷ []) from (plain_name from b) (plain_words (value ∷ []) to (plain_name to c) (plain_words [] value v plain_none)));
      statement = statement;
    }

node_test : (j : ℕ) → j ≤ 33 → is_name (node j) ≡ true
node_test j few = name_test (node j) (node_named j few)

rung_plain : (place word : ℕ) → place < 32 → IsPlainLine (rung_words place word)
rung_plain place word few = by (is_capacitor place) refl
  where
    name : List ℕ
    name = numbered_name (codes "E") (place + 1)

    named : is_name name ≡ true
    named = name_test name (element_named (place + 1) (omega arith))

    from : is_name (node (place / 2)) ≡ true
    from = node_test (place / 2) (omega arith)

    by : (c : Bool) → is_capacitor place ≡ c → IsPlainLine (rung_words place word)
    by true is =
        let v = plain_letter (1 + word % 999) 110 (omega arith) (grind arith) (record { no_end = refl; no_blank = refl; no_return = refl }) in
        rw is (plain_element (codes "c") name (node (place / 2)) (codes "0") (decimal (1 + word % 999) ++ codes "n") refl refl named from refl v)
    by false is =
        let v = plain_letter (1 + word % 99) 109 (omega arith) (grind arith) (record { no_end = refl; no_blank = refl; no_return = refl }) in
        rw is (plain_element (codes "l") name (node (place / 2)) (node (place / 2 + 1)) (decimal (1 + word % 99) ++ codes "m") refl refl named from (node_test (place / 2 + 1) (omega arith)) v)

last_plain : (j : ℕ) → j ≤ 33 → All IsPlainLine (last_lines j)
last_plain j few =
    let load = two_words (codes "load") (codes "L") in
    All-cons IsPlainLine (element_words (codes "r") (codes "L") (node j) (codes "0") (codes "600")) (load ∷ [])
    (plain_element (codes "r") (codes "L") (node j) (codes "0") (codes "600") refl refl refl (node_test j few) refl (plain_name (codes "600") refl))
    (All-cons IsPlainLine load [] (plain_two (codes "load") (codes "L") refl refl (plain_name (codes "L") refl)) (λ k d less. absurd (omega arith)))

lines_plain : (seed order : ℕ) → order ≤ 32 → All IsPlainLine (made_lines seed order)
lines_plain seed order few =
    let line : ℕ → Words = λ (place : ℕ). rung_words place (word_at seed place) in
    let rungs = map line (range_with_len 0 order) in
    let last = last_lines (order / 2) in
    let rate = two_words (codes "rate") (codes "48000") in
    let source = element_words (codes "source") (codes "S") (codes "n0") (codes "0") (codes "600") in
    let each : All (λ (place : ℕ). IsPlainLine (line place)) (range_with_len 0 order) =
    λ k d less.
    let within : k < order = omega (arith, length-range_with_len 0 order) in
    subst (λ (place : ℕ). IsPlainLine (line place)) (sym (get_or-range_with_len 0 order k d within)) (rung_plain (0 + k) (word_at seed (0 + k)) (omega arith)) in
    All-cons IsPlainLine rate (source ∷ (rungs ++ last)) (plain_two (codes "rate") (codes "48000") refl refl (plain_name (codes "48000") refl))
    (All-cons IsPlainLine source (rungs ++ last) (plain_element (codes "source") (codes "S") (codes "n0") (codes "0") (codes "600") refl refl refl refl refl (plain_name (codes "600") refl))
    (All-append IsPlainLine rungs last (All-map IsPlainLine line (range_with_len 0 order) each) (last_plain (order / 2) (omega arith))))

-- ---- the text

pub stands : (seed order : ℕ) → 1 ≤ order → order ≤ 32 → Stands (made_text seed order) (made_netlist seed order)
stands seed order some few =
    let n : NetlistValue = made_netlist seed order in
    let c : CircuitValue = circuit_with (made_value seed) order in
    let ladder = is_ladder (made_value seed) order some few in
    let circuit = is_circuit (made_value seed) order some few (made_values seed) in
    let plain = ladder_plain 48000 c (omega arith) (omega arith) ladder circuit in
    ap (λ (ls : List Line). all_said [] ls >>= λ (ss : List Statement). netlist_said ss) (lines_back (made_lines seed order) (lines_plain seed order few))
    ∙ ap (λ (r : Result (List Statement) NetFault). r >>= λ (ss : List Statement). netlist_said ss) (all_alike [] (made_lines seed order) (netlist_lines n) 1 (lines_alike seed order))
    ∙ ap (λ (ls : List Line). all_said [] ls >>= λ (ss : List Statement). netlist_said ss) (sym (lines_back (netlist_lines n) plain))
    ∙ ladder_round 48000 c (omega arith) (omega arith) ladder circuit

pub nothing_else : (seed order : ℕ) → 1 ≤ order → order ≤ 32 → (other : NetlistValue) → Stands (made_text seed order) other → other ≡ made_netlist seed order
nothing_else seed order some few other is = let e : Ok other ≡ Ok (made_netlist seed order) = sym is ∙ stands seed order some few in cc

-- ---- its length

words_short : (words : List (List ℕ)) → All IsPlainWord words → length (flat_map (λ (word : List ℕ). 32 ∷ word) words) ≤ 41 * length words
words_short [] plain = omega arith
words_short (w ∷ ws) plain = omega (arith, length-append (32 ∷ w) (flat_map (λ (word : List ℕ). 32 ∷ word) ws), (plain 0 w (omega arith)).few, words_short ws (All-tail IsPlainWord w ws plain))

lines_short : (ls : List Words) → All IsPlainLine ls → length (lines_text ls) ≤ 205 * length ls
lines_short [] plain = omega arith
lines_short (l ∷ ls) plain =
    let p : IsPlainLine l = plain 0 l (omega arith) in
    let rest = flat_map (λ (word : List ℕ). 32 ∷ word) l.rest in
    omega (
      arith,
      length-append (line_text l) (lines_text ls),
      length-append (l.first ++ rest) (10 ∷ []),
      length-append l.first rest,
      p.first.few,
      p.few,
      words_short l.rest p.rest,
      lines_short ls (All-tail IsPlainLine l ls plain),
    )

pub is_short : (seed order : ℕ) → order ≤ 32 → length (made_text seed order) ≤ MAX_TEXT
is_short seed order few =
    let rungs = map (λ (place : ℕ). rung_words place (word_at seed place)) (range_with_len 0 order) in
    omega (
      arith,
      lines_short (made_lines seed order) (lines_plain seed order few),
      length-append rungs (last_lines (order / 2)),
      length-map-range_with_len (λ (place : ℕ). rung_words place (word_at seed place)) 0 order,
    )
