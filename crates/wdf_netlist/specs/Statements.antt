-- What a line says, and what all the lines before a place say together.
use Rattle.std.specs.Prelude.{ℕ, suc, Bool, true, false, if◌then◌else◌, List, [], ◌∷◌, map, filter_map, Option, Some, None}
use Rattle.std.specs.List.{list_any}
use Rattle.std.specs.Option.{option_or}
use Rattle.wdf_text.specs.DecimalNumber.{DecimalNumber}
use Rattle.wdf_text.specs.Names.{at_sign}
use Rattle.wdf_law.specs.declared.kind.Kind.TheVariants.{Src}
use Rattle.wdf_netlist.specs.declared.mention.Mention.{Mention}
use Rattle.wdf_netlist.specs.declared.part.Part.{Part}
use Rattle.wdf_netlist.specs.declared.root_line.RootLine.{RootLine}

-- what a line says; a branch line says its source
pub data Statement : Type 0 where
  rate : (frames : ℕ) → Statement
  element : (part : Part) → Statement
  load : (name : Mention) → Statement
  root : (line : RootLine) → Statement
  lattice : (termination : DecimalNumber) → Statement
  branch : (source : Part) → Statement

-- the source of a branch, between these nodes
abbrev pub branch_part : List ℕ → List ℕ → DecimalNumber → Part
branch_part from to termination = record { kind = Src; name = at_sign; from = from; to = to; value = termination }

-- ---- what one line says

abbrev pub rate_said : Statement → Option ℕ
rate_said (rate n) = Some n
rate_said (element p) = None
rate_said (load w) = None
rate_said (root r) = None
rate_said (lattice v) = None
rate_said (branch p) = None

abbrev pub part_said : Statement → Option Part
part_said (rate n) = None
part_said (element p) = Some p
part_said (load w) = None
part_said (root r) = None
part_said (lattice v) = None
part_said (branch p) = Some p

abbrev pub load_said : Statement → Option Mention
load_said (rate n) = None
load_said (element p) = None
load_said (load w) = Some w
load_said (root r) = None
load_said (lattice v) = None
load_said (branch p) = None

abbrev pub root_said : Statement → Option RootLine
root_said (rate n) = None
root_said (element p) = None
root_said (load w) = None
root_said (root r) = Some r
root_said (lattice v) = None
root_said (branch p) = None

abbrev pub termination_said : Statement → Option DecimalNumber
termination_said (rate n) = None
termination_said (element p) = None
termination_said (load w) = None
termination_said (root r) = None
termination_said (lattice v) = Some v
termination_said (branch p) = None

abbrev pub is_branch : Statement → Bool
is_branch (rate n) = false
is_branch (element p) = false
is_branch (load w) = false
is_branch (root r) = false
is_branch (lattice v) = false
is_branch (branch p) = true

abbrev pub is_rate : Statement → Bool
is_rate (rate n) = true
is_rate (element p) = false
is_rate (load w) = false
is_rate (root r) = false
is_rate (lattice v) = false
is_rate (branch p) = false

-- ---- what lines say together

-- what the first line says of this
abbrev pub first_said : {A : Type 0} → (Statement → Option A) → List Statement → Option A
first_said said [] = None
first_said said (s ∷ ss) = option_or (said s) (first_said said ss)

-- how many branches are begun
abbrev pub branches : List Statement → ℕ
branches [] = 0
branches (s ∷ ss) = if is_branch s then suc (branches ss) else branches ss

-- the lines of the circuit that is written last: from the last branch line on, or all where there is none
abbrev pub last_circuit : List Statement → List Statement
last_circuit [] = []
last_circuit (s ∷ ss) = if list_any is_branch ss then last_circuit ss else s ∷ ss

-- the lines before the next branch line
abbrev pub up_to_branch : List Statement → List Statement
up_to_branch [] = []
up_to_branch (s ∷ ss) = if is_branch s then [] else (s ∷ up_to_branch ss)

-- the lines of the first branch: from its branch line up to the next
abbrev pub first_branch : List Statement → List Statement
first_branch [] = []
first_branch (s ∷ ss) = if is_branch s then s ∷ up_to_branch ss else first_branch ss

-- the elements of a circuit's lines, a branch's source among them
abbrev pub parts_of : List Statement → List Part
parts_of ss = filter_map part_said ss

-- their names
abbrev pub names_of : List Part → List (List ℕ)
names_of parts = map (λ (p : Part). p.name) parts
