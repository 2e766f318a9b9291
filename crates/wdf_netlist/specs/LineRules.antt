-- The rules of a line: which may stand where, what its words are, and the fault of each word.
use Rattle.std.specs.Prelude.{ℕ, pos, ◌+◌, Bool, true, not, ◌&&◌, ◌||◌, ◌==◌, nat_le, if◌then◌else◌, List, [], ◌∷◌, length, count_by, bytes_eq, codes, Option, Some, None, is_some, unwrap_or, Result, Ok, Err}
use Rattle.std.specs.List.{list_any, list_all}
use Rattle.wdf_text.specs.DecimalNumber.{DecimalNumber}
use Rattle.wdf_text.specs.Names.{is_name}
use Rattle.wdf_text.specs.Numbers.{number_of, is_whole}
use Rattle.wdf_law.specs.Network.{is_source, is_reactance}
use Rattle.wdf_law.specs.declared.kind.Kind.{Kind}
use Rattle.wdf_law.specs.declared.kind.Kind.TheVariants.{Src, Res, Ind, Cap}
use Rattle.wdf_law.specs.declared.TheConstants.{MAX_SOURCES}
use Rattle.wdf_netlist.specs.declared.TheConstants.{MAX_ELEMENTS, MAX_REACTANCES, MAX_RATE}
use Rattle.wdf_netlist.specs.declared.keyword.Keyword.{Keyword}
use Rattle.wdf_netlist.specs.declared.keyword.Keyword.TheVariants as keywords
use Rattle.wdf_netlist.specs.declared.net_kind.NetKind.{NetKind}
use Rattle.wdf_netlist.specs.declared.net_kind.NetKind.TheVariants as kinds
use Rattle.wdf_netlist.specs.declared.net_fault.NetFault.{NetFault}
use Rattle.wdf_netlist.specs.declared.mention.Mention.{Mention}
use Rattle.wdf_netlist.specs.declared.part.Part.{Part}
use Rattle.wdf_netlist.specs.declared.root_line.RootLine.TheVariants.{At, Shallow}
use Rattle.wdf_netlist.specs.Lines.{Line, LineWord}
use Rattle.wdf_netlist.specs.Statements.{Statement, branch_part, branches, element, first_said, is_rate, last_circuit, lattice, load, load_said, names_of, parts_of, rate, rate_said, root, root_said, termination_said, branch}
use Rattle.wdf_netlist.specs.Values.{value_fault, value_of}

-- first this, and then what f makes of it; the first fault is answered
infixl 10 ◌>>=◌
abbrev pub ◌>>=◌ : {A B : Type 0} → Result A NetFault → (A → Result B NetFault) → Result B NetFault
(Ok x) >>= f = f x
(Err e) >>= f = Err e

abbrev pub fault_at : NetKind → LineWord → Option (List ℕ) → NetFault
fault_at kind w name = record { kind = kind; line = w.line; column = w.column; name = name }

-- a fault, or all is well
abbrev pub unless : Option NetKind → LineWord → Option (List ℕ) → Result (Unit {0}) NetFault
unless None w name = Ok tt
unless (Some kind) w name = Err (fault_at kind w name)

-- ---- the first word

abbrev pub keyword_of : List ℕ → Option Keyword
keyword_of w =
    if bytes_eq w (codes "rate") then Some keywords.Rate
    else (if bytes_eq w (codes "source") then Some keywords.Source
    else (if bytes_eq w (codes "input") then Some keywords.Input
    else (if bytes_eq w (codes "r") then Some keywords.Resistor
    else (if bytes_eq w (codes "l") then Some keywords.Inductor
    else (if bytes_eq w (codes "c") then Some keywords.Capacitor
    else (if bytes_eq w (codes "load") then Some keywords.Load
    else (if bytes_eq w (codes "root") then Some keywords.Root
    else (if bytes_eq w (codes "shallow") then Some keywords.Shallow
    else (if bytes_eq w (codes "lattice") then Some keywords.Lattice
    else (if bytes_eq w (codes "branch") then Some keywords.Branch
    else None))))))))))

-- whether there is a lattice line before
abbrev pub in_lattice : List Statement → Bool
in_lattice before = is_some (first_said termination_said before)

-- in a lattice an element or a root belongs to a branch
abbrev pub in_circuit : List Statement → Bool
in_circuit before = not (in_lattice before) || nat_le 1 (branches before)

-- whether a line with this first word may stand behind these lines
abbrev pub may_stand : List Statement → Keyword → Bool
may_stand before keywords.Rate = true
may_stand before keywords.Source = not (in_lattice before)
may_stand before keywords.Input = not (in_lattice before)
may_stand before keywords.Resistor = in_circuit before
may_stand before keywords.Inductor = in_circuit before
may_stand before keywords.Capacitor = in_circuit before
may_stand before keywords.Load = not (in_lattice before)
may_stand before keywords.Root = in_circuit before
may_stand before keywords.Shallow = in_circuit before
may_stand before keywords.Lattice = list_all is_rate before
may_stand before keywords.Branch = in_lattice before

-- the elements of the circuit that a line behind these belongs to
abbrev pub own_parts : List Statement → List Part
own_parts before = parts_of (last_circuit before)

-- how many parts are of such a kind
abbrev pub count_parts : (Kind → Bool) → List Part → ℕ
count_parts test parts = count_by (λ (p : Part). test p.kind) parts

abbrev pub has_source : List Part → Bool
has_source parts = list_any (λ (p : Part). is_source p.kind) parts

-- a fault where the test holds
abbrev pub where_true : Bool → NetKind → Option NetKind
where_true test kind = if test then Some kind else None

-- a second line of its sort, or an input before the source
abbrev pub double_fault : List Statement → Keyword → Option NetKind
double_fault before keywords.Rate = where_true (is_some (first_said rate_said before)) kinds.DoubleRate
double_fault before keywords.Source = where_true (has_source (own_parts before)) kinds.DoubleSource
double_fault before keywords.Input = where_true (not (has_source (own_parts before))) kinds.InputFirst
double_fault before keywords.Load = where_true (is_some (first_said load_said before)) kinds.DoubleLoad
double_fault before keywords.Root = where_true (is_some (first_said root_said (last_circuit before))) kinds.DoubleRoot
double_fault before keywords.Shallow = where_true (is_some (first_said root_said (last_circuit before))) kinds.DoubleRoot
double_fault before keywords.Resistor = None
double_fault before keywords.Inductor = None
double_fault before keywords.Capacitor = None
double_fault before keywords.Lattice = None
double_fault before keywords.Branch = None

-- the fault of a first word behind these lines
abbrev pub keyword_fault : List Statement → Keyword → Option NetKind
keyword_fault before k = if may_stand before k then double_fault before k else Some kinds.Syntax

-- ---- the words behind it

-- a place in a line: the word before it, the name of the line's element, load or root if it was read, and the
-- words behind it
pub record Place : Type 0 where
  pub previous : LineWord
  pub name : Option (List ℕ)
  pub words : List LineWord

-- what a word may be
pub data Field : Type 0 where
  frames : Field  -- a rate
  new_name : Field  -- the name of a new element
  known_name : Field  -- the name of an element that stands in some line
  node : Field  -- the name of a node
  other_node : Field  -- the name of a node that is not the word before
  value : Field  -- a value with its unit
  letter : Field  -- the letter of a branch

-- the word is the letter of the branch that begins behind so many: A, then B
abbrev pub is_next_letter : ℕ → List ℕ → Bool
is_next_letter begun w = (begun == 0 && bytes_eq w (codes "A")) || (begun == 1 && bytes_eq w (codes "B"))

-- a rate is 1 to 20 digits, and in range
abbrev pub is_rate_word : List ℕ → Bool
is_rate_word w = is_whole w && (nat_le 1 (number_of w) && nat_le (number_of w) MAX_RATE)

abbrev pub is_taken : List (List ℕ) → List ℕ → Bool
is_taken names name = list_any (bytes_eq name) names

-- the fault of a name, or else another
abbrev pub name_fault : List ℕ → Option NetKind → Option NetKind
name_fault w other = if is_name w then other else Some kinds.BadName

-- the fault of a word
abbrev pub word_fault : List Statement → LineWord → Field → List ℕ → Option NetKind
word_fault before previous frames w = where_true (not (is_rate_word w)) kinds.RateRange
word_fault before previous new_name w = name_fault w (where_true (is_taken (names_of (own_parts before)) w) kinds.DoubleName)
word_fault before previous known_name w = name_fault w None
word_fault before previous node w = name_fault w None
word_fault before previous other_node w = name_fault w (where_true (bytes_eq w previous.bytes) kinds.Shorted)
word_fault before previous value w = value_fault w
word_fault before previous letter w = where_true (not (is_next_letter (branches before) w)) kinds.Syntax

-- the line's name once this word is read
abbrev pub name_read : Field → Option (List ℕ) → List ℕ → Option (List ℕ)
name_read new_name name w = if is_name w then Some w else name
name_read known_name name w = if is_name w then Some w else name
name_read frames name w = name
name_read node name w = name
name_read other_node name w = name
name_read value name w = name
name_read letter name w = name

-- a word is missing: just behind the last word
abbrev pub missing : Place → NetFault
missing p = record { kind = kinds.Syntax; line = p.previous.line; column = p.previous.column + length p.previous.bytes; name = p.name }

-- the next word, read as such a field
abbrev pub read_word : List Statement → Field → Place → List LineWord → Result Place NetFault
read_word before field p [] = Err (missing p)
read_word before field p (w ∷ ws) =
    let name = name_read field p.name w.bytes in
    unless (word_fault before p.previous field w.bytes) w name >>= λ _. Ok (record { previous = w; name = name; words = ws })

abbrev pub next : List Statement → Field → Place → Result Place NetFault
next before field p = read_word before field p p.words

-- no word is left over
abbrev pub none_left : Place → List LineWord → Result (Unit {0}) NetFault
none_left p [] = Ok tt
none_left p (w ∷ ws) = Err (fault_at kinds.Syntax w p.name)

abbrev pub end : Place → Result (Unit {0}) NetFault
end p = none_left p p.words

-- ---- the table of lines: what a line says behind these lines

-- one element more of this kind is too many
abbrev pub count_fault : List Part → Kind → Option NetKind
count_fault parts kind =
    if nat_le MAX_ELEMENTS (length parts) then Some kinds.TooManyElements
    else (if is_reactance kind && nat_le MAX_REACTANCES (count_parts is_reactance parts) then Some kinds.TooManyStates
    else (if is_source kind && nat_le MAX_SOURCES (count_parts is_source parts) then Some kinds.TooManyInputs
    else None))

-- rate N
abbrev pub rate_line : List Statement → Place → Result Statement NetFault
rate_line before p = next before frames p >>= λ n. end n >>= λ _. Ok (rate (number_of n.previous.bytes))

-- KEYWORD NAME FROM TO VALUE; the keyword is the word `first`
abbrev pub element_line : List Statement → Kind → LineWord → Place → Result Statement NetFault
element_line before kind first p =
    next before new_name p >>= λ name. next before node name >>= λ from. next before other_node from >>= λ to. next before value to >>= λ v. end v >>= λ _.
    unless (count_fault (own_parts before) kind) first v.name >>= λ _.
    Ok (element (record { kind = kind; name = name.previous.bytes; from = from.previous.bytes; to = to.previous.bytes; value = value_of v.previous.bytes }))

-- a name and where it stands
abbrev pub mention_of : LineWord → Mention
mention_of w = record { name = w.bytes; line = w.line; column = w.column }

-- load NAME
abbrev pub load_line : List Statement → Place → Result Statement NetFault
load_line before p = next before known_name p >>= λ name. end name >>= λ _. Ok (load (mention_of name.previous))

-- root NAME
abbrev pub root_line : List Statement → Place → Result Statement NetFault
root_line before p = next before known_name p >>= λ name. end name >>= λ _. Ok (root (At (mention_of name.previous)))

-- shallow
abbrev pub shallow_line : Place → Result Statement NetFault
shallow_line p = end p >>= λ _. Ok (root Shallow)

-- lattice VALUE
abbrev pub lattice_line : List Statement → Place → Result Statement NetFault
lattice_line before p = next before value p >>= λ v. end v >>= λ _. Ok (lattice (value_of v.previous.bytes))

-- the termination that the lattice line before says
abbrev pub termination : List Statement → DecimalNumber
termination before = unwrap_or (first_said termination_said before) (record { digits = 0; exp = pos 0 })

-- branch LETTER FROM TO
abbrev pub branch_line : List Statement → Place → Result Statement NetFault
branch_line before p =
    next before letter p >>= λ l. next before node l >>= λ from. next before other_node from >>= λ to. end to >>= λ _.
    Ok (branch (branch_part from.previous.bytes to.previous.bytes (termination before)))

abbrev pub words_said : List Statement → Keyword → LineWord → Place → Result Statement NetFault
words_said before keywords.Rate first p = rate_line before p
words_said before keywords.Source first p = element_line before Src first p
words_said before keywords.Input first p = element_line before Src first p
words_said before keywords.Resistor first p = element_line before Res first p
words_said before keywords.Inductor first p = element_line before Ind first p
words_said before keywords.Capacitor first p = element_line before Cap first p
words_said before keywords.Load first p = load_line before p
words_said before keywords.Root first p = root_line before p
words_said before keywords.Shallow first p = shallow_line p
words_said before keywords.Lattice first p = lattice_line before p
words_said before keywords.Branch first p = branch_line before p

-- a line with this keyword, the word `first`
abbrev pub known_said : List Statement → Keyword → LineWord → Place → Result Statement NetFault
known_said before k first p = unless (keyword_fault before k) first None >>= λ _. words_said before k first p

-- a line by its keyword
abbrev pub keyword_said : List Statement → Line → Option Keyword → Result Statement NetFault
keyword_said before l None = Err (fault_at kinds.Syntax l.first None)
keyword_said before l (Some k) = known_said before k l.first (record { previous = l.first; name = None; words = l.rest })

abbrev pub line_said : List Statement → Line → Result Statement NetFault
line_said before l = keyword_said before l (keyword_of l.first.bytes)
