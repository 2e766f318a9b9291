-- What each line of a printed netlist says.
use Rattle.std.proofs.Common.{◌≡◌, ℕ, ◌+◌, ◌≤◌, Bool, true, false, not, ◌&&◌, ◌||◌, List, [], ◌∷◌, ◌++◌, length, map, None, Result, Ok, refl, sym, ap, ◌∙◌, subst, append_assoc, append-nil}
use Rattle.std.specs.Prelude.{bytes_eq, codes, decimal, is_some, nat_le}
use Rattle.std.proofs.lemmas.Bool.{and_from, le-leb}
use Rattle.std.proofs.lemmas.List.Folds.{list_any-append}
use Rattle.wdf_text.specs.DecimalNumber.{DecimalNumber}
use Rattle.wdf_text.specs.Names.{IsName, is_name}
use Rattle.wdf_law.specs.Network.{is_source}
use Rattle.wdf_law.specs.declared.kind.Kind.{Kind}
use Rattle.wdf_law.specs.declared.kind.Kind.TheVariants.{Src, Res, Ind, Cap}
use Rattle.wdf_netlist.specs.declared.mention.Mention.{Mention}
use Rattle.wdf_netlist.specs.declared.net_fault.NetFault.{NetFault}
use Rattle.wdf_netlist.specs.declared.part.Part.{Part}
use Rattle.wdf_netlist.specs.declared.root_line.RootLine.TheVariants.{At, Shallow}
use Rattle.wdf_netlist.specs.declared.TheConstants.{MAX_RATE}
use Rattle.wdf_netlist.specs.Canonical.{Words, element_word, value_text}
use Rattle.wdf_netlist.specs.Circuits.{IsElementValue}
use Rattle.wdf_netlist.specs.Kept.{IsNextPart}
use Rattle.wdf_netlist.specs.Lines.{Line, LineWord}
use Rattle.wdf_netlist.specs.LineRules.{◌>>=◌, count_fault, element_line, has_source, in_circuit, in_lattice, is_next_letter, is_taken, line_said, own_parts, termination}
use Rattle.wdf_netlist.specs.NetlistText.{all_said}
use Rattle.wdf_netlist.specs.Statements.{Statement, branch, branch_part, branches, element, first_said, last_circuit, lattice, load, load_said, names_of, parts_of, rate, root, root_said, termination_said}
use Rattle.wdf_netlist.specs.Values.{value_fault, value_of}
use Rattle.wdf_netlist.proofs.LineBackLemmas.{line_at, lines_at, words_at}
use Rattle.wdf_netlist.proofs.NameLemmas.{differ_bytes}
use Rattle.wdf_netlist.proofs.StatementLemmas.{branches_same, last_same, parts_more, said_same}
use Rattle.wdf_netlist.proofs.ValueBackLemmas.{rate_back, value_back}

-- ---- the line of an element

-- WORD NAME FROM TO VALUE
abbrev pub part_words : List ℕ → Part → Words
part_words word p = record { first = word; rest = p.name ∷ p.from ∷ p.to ∷ value_text p.value ∷ [] }

pub name_test : (name : List ℕ) → IsName name → is_name name ≡ true
name_test name n = and_from _ _ (and_from _ _ (le-leb 1 (length name) n.some) (le-leb (length name) 16 n.few)) n.letters

words_said : (before : List Statement) (kind : Kind) (first : LineWord) (line column : ℕ) (name from to text : List ℕ) (v : DecimalNumber)
    → is_name name ≡ true → is_taken (names_of (own_parts before)) name ≡ false → is_name from ≡ true → is_name to ≡ true → bytes_eq to from ≡ false
    → value_fault text ≡ None → value_of text ≡ v → count_fault (own_parts before) kind ≡ None
    → element_line before kind first (record { previous = first; name = None; words = words_at (name ∷ from ∷ to ∷ text ∷ []) line column })
    ≡ Ok (element (record { kind = kind; name = name; from = from; to = to; value = v }))
words_said before _ first line column name from to text v named new from_named to_named differ good value room = rw (named, new, from_named, to_named, differ, good, room, value) refl

-- ---- where the line of an element may stand

-- behind these lines it may: in a ladder, or in a branch of a lattice; a source is there or not
pub record MayStand (before : List Statement) (sourced inside : Bool) : Type 0 where
  pub circuit : in_circuit before ≡ true
  pub form : in_lattice before ≡ inside
  pub source : has_source (own_parts before) ≡ sourced

-- a part that may be said next
pub record MayFollow (parts : List Part) (inside : Bool) (p : Part) : Type 0 where
  pub next : IsNextPart parts p
  pub named : is_name p.name ≡ true
  pub source : (is_source p.kind && inside) ≡ false

part_said_by : (before : List Statement) (kind : Kind) (first : LineWord) (line column : ℕ) (p : Part) → IsNextPart (own_parts before) p → is_name p.name ≡ true → p.kind ≡ kind
    → element_line before kind first (record { previous = first; name = None; words = words_at (p.name ∷ p.from ∷ p.to ∷ value_text p.value ∷ []) line column }) ≡ Ok (element p)
part_said_by before k first line column p n named is =
    let v = value_back p.value n.value in
    let differ : bytes_eq p.to p.from ≡ false = differ_bytes p.to p.from (λ (e : p.to ≡ p.from). n.ends_differ (sym e)) in
    let room : count_fault (own_parts before) k ≡ None = ap (count_fault (own_parts before)) (sym is) ∙ n.room in
    words_said before k first line column p.name p.from p.to (value_text p.value) p.value named n.new (name_test p.from n.from_named) (name_test p.to n.to_named) differ v.good v.value room
    ∙ (λ i. Ok (element (record { kind = sym is i; name = p.name; from = p.from; to = p.to; value = p.value })))

pub element_said : (before : List Statement) (sourced inside : Bool) (p : Part) (line : ℕ) → MayStand before sourced inside → MayFollow (own_parts before) inside p
    → line_said before (line_at (part_words (element_word sourced p.kind) p) line) ≡ Ok (element p)
element_said before sourced inside p line s m = by p.kind sourced refl s.source
  where
    said : (kind : Kind) (first : LineWord) (column : ℕ) → p.kind ≡ kind
        → element_line before kind first (record { previous = first; name = None; words = words_at (p.name ∷ p.from ∷ p.to ∷ value_text p.value ∷ []) line column }) ≡ Ok (element p)
    said k first column is = part_said_by before k first line column p m.next m.named is

    ladder : p.kind ≡ Src → in_lattice before ≡ false
    ladder is = s.form ∙ sym (ap (λ (k : Kind). is_source k && inside) is) ∙ m.source

    by : (kind : Kind) (t : Bool) → p.kind ≡ kind → has_source (own_parts before) ≡ t → line_said before (line_at (part_words (element_word t kind) p) line) ≡ Ok (element p)
    by Src true is some = rw (ladder is, some) (said Src (record { bytes = codes "input"; line = line; column = 1 }) (1 + length (codes "input") + 1) is)
    by Src false is none = rw (ladder is, none) (said Src (record { bytes = codes "source"; line = line; column = 1 }) (1 + length (codes "source") + 1) is)
    by Res t is some = rw s.circuit (said Res (record { bytes = codes "r"; line = line; column = 1 }) (1 + length (codes "r") + 1) is)
    by Ind t is some = rw s.circuit (said Ind (record { bytes = codes "l"; line = line; column = 1 }) (1 + length (codes "l") + 1) is)
    by Cap t is some = rw s.circuit (said Cap (record { bytes = codes "c"; line = line; column = 1 }) (1 + length (codes "c") + 1) is)

-- ---- the lines of elements

abbrev pub part_lines : Bool → List Part → List Words
part_lines sourced [] = []
part_lines sourced (p ∷ ps) = part_words (element_word sourced p.kind) p ∷ part_lines (sourced || is_source p.kind) ps

abbrev pub elements_of : List Part → List Statement
elements_of ps = map (λ (p : Part). element p) ps

-- each part may be said behind those before it
abbrev pub MayFollowEach : List Part → Bool → List Part → Type 0
MayFollowEach before inside [] = Unit {0}
MayFollowEach before inside (p ∷ ps) = MayFollow before inside p × MayFollowEach (before ++ p ∷ []) inside ps

own_more : (before : List Statement) (p : Part) → own_parts (before ++ element p ∷ []) ≡ own_parts before ++ p ∷ []
own_more before p = ap parts_of (last_same before (element p) refl) ∙ parts_more (last_circuit before) (element p) p refl

or_false : (b : Bool) → (b || false) ≡ b
or_false true = refl
or_false false = refl

pub stands_more : (before : List Statement) (sourced inside : Bool) (p : Part) → MayStand before sourced inside → MayStand (before ++ element p ∷ []) (sourced || is_source p.kind) inside
stands_more before sourced inside p s =
    let form : in_lattice (before ++ element p ∷ []) ≡ in_lattice before = ap is_some (said_same termination_said before (element p) refl) in
    let begun : branches (before ++ element p ∷ []) ≡ branches before = branches_same before (element p) refl in
    record {
      circuit = (λ i. not (form i) || nat_le 1 (begun i)) ∙ s.circuit;
      form = form ∙ s.form;
      source = ap has_source (own_more before p) ∙ list_any-append (λ (q : Part). is_source q.kind) (own_parts before) (p ∷ []) ∙ (λ i. s.source i || or_false (is_source p.kind) i);
    }

pub parts_said : (before : List Statement) (sourced inside : Bool) (ps : List Part) (line : ℕ) (more : List Line) → MayStand before sourced inside → MayFollowEach (own_parts before) inside ps
    → all_said before (lines_at (part_lines sourced ps) line ++ more) ≡ all_said (before ++ elements_of ps) more
parts_said before sourced inside [] line more s m = ap (λ (ss : List Statement). all_said ss more) (sym (append-nil before))
parts_said before sourced inside (p ∷ ps) line more s (m, ms) =
    let next = before ++ element p ∷ [] in
    let rest = lines_at (part_lines (sourced || is_source p.kind) ps) (line + 1) ++ more in
    let each : MayFollowEach (own_parts next) inside ps = subst (λ (l : List Part). MayFollowEach l inside ps) (sym (own_more before p)) ms in
    ap (λ (r : Result Statement NetFault). r >>= λ (s : Statement). all_said (before ++ s ∷ []) rest) (element_said before sourced inside p line s m)
    ∙ parts_said next (sourced || is_source p.kind) inside ps (line + 1) more (stands_more before sourced inside p s) each
    ∙ ap (λ (ss : List Statement). all_said ss more) (append_assoc before (element p ∷ []) (elements_of ps))

-- ---- the other lines

-- two words, the second at its column
abbrev pub two_words : List ℕ → List ℕ → Words
two_words first second = record { first = first; rest = second ∷ [] }

-- where the second word of a line stands
abbrev pub mention_at : List ℕ → List ℕ → ℕ → Mention
mention_at first name line = record { name = name; line = line; column = 1 + length first + 1 }

pub load_said_at : (before : List Statement) (name : List ℕ) (line : ℕ) → in_lattice before ≡ false → first_said load_said before ≡ None → is_name name ≡ true
    → line_said before (line_at (two_words (codes "load") name) line) ≡ Ok (load (mention_at (codes "load") name line))
load_said_at before name line ladder none named = rw (ladder, none, named) refl

pub root_said_at : (before : List Statement) (name : List ℕ) (line : ℕ) → in_circuit before ≡ true → first_said root_said (last_circuit before) ≡ None → is_name name ≡ true
    → line_said before (line_at (two_words (codes "root") name) line) ≡ Ok (root (At (mention_at (codes "root") name line)))
root_said_at before name line circuit none named = rw (circuit, none, named) refl

pub shallow_said_at : (before : List Statement) (line : ℕ) → in_circuit before ≡ true → first_said root_said (last_circuit before) ≡ None
    → line_said before (line_at (record { first = codes "shallow"; rest = [] }) line) ≡ Ok (root Shallow)
shallow_said_at before line circuit none = rw (circuit, none) refl

pub rate_said_at : (n line : ℕ) → 1 ≤ n → n ≤ MAX_RATE → line_said [] (line_at (two_words (codes "rate") (decimal n)) line) ≡ Ok (rate n)
rate_said_at n line some few = let b = rate_back n some few in rw (b.good, b.number) refl

pub lattice_said_at : (n : ℕ) (v : DecimalNumber) (line : ℕ) → IsElementValue v → line_said (rate n ∷ []) (line_at (two_words (codes "lattice") (value_text v)) line) ≡ Ok (lattice v)
lattice_said_at n v line k = let b = value_back v k in rw (b.good, b.value) refl

pub branch_said_at : (before : List Statement) (letter from to : List ℕ) (v : DecimalNumber) (line : ℕ) → in_lattice before ≡ true → is_next_letter (branches before) letter ≡ true
    → is_name from ≡ true → is_name to ≡ true → bytes_eq to from ≡ false → termination before ≡ v
    → line_said before (line_at (record { first = codes "branch"; rest = letter ∷ from ∷ to ∷ [] }) line) ≡ Ok (branch (branch_part from to v))
branch_said_at before letter from to v line form next from_named to_named differ is = rw (form, next, from_named, to_named, differ, is) refl
