-- A printed ladder: its lines say it, and together they are it.
use Rattle.std.proofs.Common.{◌≡◌, ℕ, suc, ◌+◌, ◌<◌, Bool, true, false, ◌||◌, List, [], ◌∷◌, ◌++◌, length, get_or, map, Option, Some, None, Result, Ok, refl, sym, ap, ◌∙◌, arith, append-nil}
use Rattle.std.specs.Prelude.{codes, is_some, option_map, slice_get, unwrap_or}
use Rattle.std.specs.List.{list_any}
use Rattle.std.proofs.lemmas.Bool.{cond-false, cond-true, lt-ltb, or_parts}
use Rattle.std.proofs.lemmas.Option.{slice_get-map}
use Rattle.wdf_text.specs.Names.{is_name}
use Rattle.wdf_law.specs.Network.{is_resistor, is_source}
use Rattle.wdf_law.specs.declared.kind.Kind.TheVariants.{Res}
use Rattle.wdf_law.specs.declared.outlet.Outlet.TheVariants as outlets
use Rattle.wdf_netlist.specs.declared.element.Element.{Element}
use Rattle.wdf_netlist.specs.declared.form.Form.TheVariants.{Ladder}
use Rattle.wdf_netlist.specs.declared.mention.Mention.{Mention}
use Rattle.wdf_netlist.specs.declared.net_fault.NetFault.{NetFault}
use Rattle.wdf_netlist.specs.declared.part.Part.{Part}
use Rattle.wdf_netlist.specs.declared.root_choice.RootChoice.{RootChoice}
use Rattle.wdf_netlist.specs.declared.root_choice.RootChoice.TheVariants as roots
use Rattle.wdf_netlist.specs.declared.root_line.RootLine.TheVariants.{At, Shallow}
use Rattle.wdf_netlist.specs.Canonical.{Words, element_lines, element_word, root_lines}
use Rattle.wdf_netlist.specs.Circuits.{AreDistinct, kind_at, names}
use Rattle.wdf_netlist.specs.Lines.{Line}
use Rattle.wdf_netlist.specs.LineRules.{◌>>=◌, has_source, in_circuit, in_lattice, line_said}
use Rattle.wdf_netlist.specs.NetlistText.{all_said}
use Rattle.wdf_netlist.specs.Statements.{Statement, element, first_said, is_branch, last_circuit, load, load_said, names_of, parts_of, rate, rate_said, root, root_said, termination_said}
use Rattle.wdf_netlist.specs.TextRules.{circuit_of, is_resistor_at, ladder_of, load_number, netlist_said, number_of_name, place_of, root_choice}
use Rattle.wdf_netlist.proofs.LineBackLemmas.{line_at, lines_at}
use Rattle.wdf_netlist.proofs.NodeBackLemmas.{named, place_is}
use Rattle.wdf_netlist.proofs.StatementBackLemmas.{elements_of, mention_at, part_lines, part_words, root_said_at, shallow_said_at, two_words}

-- ---- lines one after the other

pub lines_behind : (xs ys : List Words) (line : ℕ) → lines_at (xs ++ ys) line ≡ lines_at xs line ++ lines_at ys (line + length xs)
lines_behind [] ys line = let e : line ≡ line + 0 = omega arith in ap (lines_at ys) e
lines_behind (x ∷ xs) ys line =
    let e : line + 1 + length xs ≡ line + suc (length xs) = omega arith in
    ap (λ (ls : List Line). line_at x line ∷ ls) (lines_behind xs ys (line + 1) ∙ ap (λ (n : ℕ). lines_at xs (line + 1) ++ lines_at ys n) e)

pub lines_named : (nodes : List (List ℕ)) (sourced : Bool) (elements : List Element) → element_lines nodes sourced elements ≡ part_lines sourced (map (named nodes) elements)
lines_named nodes sourced [] = refl
lines_named nodes sourced (e ∷ es) = ap (λ (ls : List Words). part_words (element_word sourced e.kind) (named nodes e) ∷ ls) (lines_named nodes (sourced || is_source e.kind) es)

-- what a first line says, and then the others
pub first_said_line : (before : List Statement) (l : Line) (ls : List Line) (s : Statement) → line_said before l ≡ Ok s → all_said before (l ∷ ls) ≡ all_said (before ++ s ∷ []) ls
first_said_line before l ls s said = ap (λ (r : Result Statement NetFault). r >>= λ (t : Statement). all_said (before ++ t ∷ []) ls) said

-- ---- the line of the root

-- what it says
abbrev pub root_statements : List (List ℕ) → RootChoice → ℕ → List Statement
root_statements listed roots.Source line = []
root_statements listed (roots.Element i) line = root (At (mention_at (codes "root") (get_or listed i []) line)) ∷ []
root_statements listed roots.Shallow line = root Shallow ∷ []

-- a root at an element is at one that has a name of a text
abbrev pub IsNamedRoot : List (List ℕ) → RootChoice → Type 0
IsNamedRoot listed roots.Source = Unit {0}
IsNamedRoot listed (roots.Element i) = (i < length listed) × (is_name (get_or listed i []) ≡ true)
IsNamedRoot listed roots.Shallow = Unit {0}

pub roots_said : (before : List Statement) (elements : List Element) (choice : RootChoice) (line : ℕ) (more : List Line) → in_circuit before ≡ true → first_said root_said (last_circuit before) ≡ None
    → IsNamedRoot (names elements) choice → all_said before (lines_at (root_lines elements choice) line ++ more) ≡ all_said (before ++ root_statements (names elements) choice line) more
roots_said before elements roots.Source line more circuit none named = ap (λ (ss : List Statement). all_said ss more) (sym (append-nil before))
roots_said before elements (roots.Element i) line more circuit none (within, named) =
    first_said_line before (line_at (two_words (codes "root") (get_or (names elements) i [])) line) more (root (At (mention_at (codes "root") (get_or (names elements) i []) line))) (root_said_at before (get_or (names elements) i []) line circuit none named)
roots_said before elements roots.Shallow line more circuit none named =
    first_said_line before (line_at (record { first = codes "shallow"; rest = [] }) line) more (root Shallow) (shallow_said_at before line circuit none)

-- the number of a name of the list
pub number_is : (ps : List Part) (i : ℕ) → AreDistinct (names_of ps) → i < length (names_of ps) → number_of_name ps (get_or (names_of ps) i []) ≡ Some i
number_is ps i distinct within =
    let place : place_of (names_of ps) (get_or (names_of ps) i []) ≡ i = place_is (names_of ps) i distinct within in
    cond-true _ _ _ (lt-ltb (place_of (names_of ps) (get_or (names_of ps) i [])) (length (names_of ps)) (omega (arith, place))) ∙ ap (λ (n : ℕ). Some n) place

-- and the choice of root that it makes
pub root_back : (ps : List Part) (choice : RootChoice) (line : ℕ) → AreDistinct (names_of ps) → IsNamedRoot (names_of ps) choice
    → root_choice ps (first_said root_said (root_statements (names_of ps) choice line)) ≡ Ok choice
root_back ps roots.Source line distinct named = refl
root_back ps (roots.Element i) line distinct (within, named) = rw (number_is ps i distinct within) refl
root_back ps roots.Shallow line distinct named = refl

-- ---- the statements of elements

pub elements_first : {A : Type 0} (said : Statement → Option A) (ps : List Part) (ss : List Statement) → ((p : Part) → said (element p) ≡ None) → first_said said (elements_of ps ++ ss) ≡ first_said said ss
elements_first said [] ss none = refl
elements_first said (p ∷ ps) ss none = rw (none p) (elements_first said ps ss none)

pub elements_no_branch : (ps : List Part) (ss : List Statement) → list_any is_branch (elements_of ps ++ ss) ≡ list_any is_branch ss
elements_no_branch [] ss = refl
elements_no_branch (p ∷ ps) ss = elements_no_branch ps ss

pub elements_parts : (ps : List Part) (ss : List Statement) → parts_of (elements_of ps ++ ss) ≡ ps ++ parts_of ss
elements_parts [] ss = refl
elements_parts (p ∷ ps) ss = ap (λ (qs : List Part). p ∷ qs) (elements_parts ps ss)

-- without a branch line the circuit that is written last is all
pub last_all : (ss : List Statement) → list_any is_branch ss ≡ false → last_circuit ss ≡ ss
last_all [] none = refl
last_all (s ∷ ss) none = cond-false _ _ _ (or_parts (is_branch s) (list_any is_branch ss) none).1

-- ---- what the lines of a ladder say together

-- a load and a root say nothing else
pub record AreLast (ss : List Statement) (m : Mention) : Type 0 where
  pub rates : first_said rate_said ss ≡ None
  pub loads : first_said load_said ss ≡ Some m
  pub terminations : first_said termination_said ss ≡ None
  pub none : list_any is_branch ss ≡ false
  pub parts : parts_of ss ≡ []

are_last : (listed : List (List ℕ)) (choice : RootChoice) (m : Mention) (line : ℕ) → AreLast (load m ∷ root_statements listed choice line) m
are_last listed roots.Source m line = record { rates = refl; loads = refl; terminations = refl; none = refl; parts = refl }
are_last listed (roots.Element i) m line = record { rates = refl; loads = refl; terminations = refl; none = refl; parts = refl }
are_last listed roots.Shallow m line = record { rates = refl; loads = refl; terminations = refl; none = refl; parts = refl }

ladder_together : (n : ℕ) (ps : List Part) (ss : List Statement) (m : Mention) → AreLast ss m → netlist_said (rate n ∷ (elements_of ps ++ ss)) ≡ ladder_of (Some n) (Some m) ps (first_said root_said ss)
ladder_together n ps ss m a =
    let all = rate n ∷ (elements_of ps ++ ss) in
    let ladder : in_lattice all ≡ false = ap is_some (elements_first termination_said ps ss (λ p. refl) ∙ a.terminations) in
    let whole : last_circuit all ≡ all = last_all all (elements_no_branch ps ss ∙ a.none) in
    let loads : first_said load_said all ≡ Some m = elements_first load_said ps ss (λ p. refl) ∙ a.loads in
    let parts : parts_of (last_circuit all) ≡ ps = ap parts_of whole ∙ elements_parts ps ss ∙ ap (λ (qs : List Part). ps ++ qs) a.parts ∙ append-nil ps in
    let chosen : first_said root_said (last_circuit all) ≡ first_said root_said ss = ap (first_said root_said) whole ∙ elements_first root_said ps ss (λ p. refl) in
    cond-false _ _ _ ladder ∙ (λ i. ladder_of (Some n) (loads i) (parts i) (chosen i))

-- the load is a resistor
load_is : (nodes : List (List ℕ)) (elements : List Element) (i : ℕ) → kind_at elements i ≡ Some Res → is_resistor_at (map (named nodes) elements) i ≡ true
load_is nodes elements i is =
    ap (λ (o : Option Part). unwrap_or (option_map (λ (p : Part). is_resistor p.kind) o) false) (slice_get-map (named nodes) elements i) ∙ by (slice_get elements i) is
  where
    by : (o : Option Element) → option_map (λ (e : Element). e.kind) o ≡ Some Res → unwrap_or (option_map (λ (p : Part). is_resistor p.kind) (option_map (named nodes) o)) false ≡ true
    by None e = absurd (cc)
    by (Some x) e = let k : x.kind ≡ Res = cc in ap is_resistor k

pub ladder_means : (n : ℕ) (nodes : List (List ℕ)) (elements : List Element) (i : ℕ) (choice : RootChoice) (load_line root_line : ℕ) →
    let ps = map (named nodes) elements in
    AreDistinct (names_of ps) → has_source ps ≡ true → kind_at elements i ≡ Some Res → i < length (names_of ps) → IsNamedRoot (names_of ps) choice
    → netlist_said (rate n ∷ (elements_of ps ++ (load (mention_at (codes "load") (get_or (names_of ps) i []) load_line) ∷ root_statements (names_of ps) choice root_line)))
    ≡ Ok (record { rate = n; form = Ladder (circuit_of ps (outlets.Load i) choice) })
ladder_means n nodes elements i choice load_line root_line distinct source is within chosen =
    let ps = map (named nodes) elements in
    let m = mention_at (codes "load") (get_or (names_of ps) i []) load_line in
    let number : load_number ps m ≡ Ok i = rw (number_is ps i distinct within, load_is nodes elements i is) refl in
    ladder_together n ps (load m ∷ root_statements (names_of ps) choice root_line) m (are_last (names_of ps) choice m root_line)
    ∙ rw (source, number, root_back ps choice root_line distinct chosen) refl
