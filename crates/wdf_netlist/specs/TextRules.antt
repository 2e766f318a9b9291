-- The rules of the whole text, which come after those of all lines: the netlist that the lines give together.
use Rattle.std.specs.Prelude.{ℕ, Bool, true, false, ◌&&◌, ◌==◌, nat_le, if◌then◌else◌, List, [], ◌∷◌, length, map, flat_map, bytes_eq, position, slice_get, Option, Some, None, option_map, unwrap_or, Result, Ok, Err}
use Rattle.std.specs.List.{position_or_len}
use Rattle.wdf_law.specs.Network.{is_resistor}
use Rattle.wdf_law.specs.declared.outlet.Outlet.{Outlet}
use Rattle.wdf_law.specs.declared.outlet.Outlet.TheVariants as outlets
use Rattle.wdf_netlist.specs.declared.element.Element.{Element}
use Rattle.wdf_netlist.specs.declared.mention.Mention.{Mention}
use Rattle.wdf_netlist.specs.declared.part.Part.{Part}
use Rattle.wdf_netlist.specs.declared.root_line.RootLine.{RootLine}
use Rattle.wdf_netlist.specs.declared.root_line.RootLine.TheVariants.{At, Shallow}
use Rattle.wdf_netlist.specs.declared.root_choice.RootChoice.{RootChoice}
use Rattle.wdf_netlist.specs.declared.root_choice.RootChoice.TheVariants as roots
use Rattle.wdf_netlist.specs.declared.form.Form.TheVariants.{Ladder, Lattice}
use Rattle.wdf_netlist.specs.declared.net_kind.NetKind.{NetKind}
use Rattle.wdf_netlist.specs.declared.net_kind.NetKind.TheVariants as kinds
use Rattle.wdf_netlist.specs.declared.net_fault.NetFault.{NetFault}
use Rattle.wdf_netlist.specs.Circuits.{CircuitValue, first_mentions, with_new}
use Rattle.wdf_netlist.specs.Netlists.{NetlistValue}
use Rattle.wdf_netlist.specs.Statements.{Statement, branches, first_branch, first_said, last_circuit, load_said, names_of, parts_of, rate_said, root_said}
use Rattle.wdf_netlist.specs.LineRules.{◌>>=◌, has_source, in_lattice}

-- a fault about what is absent from the text
abbrev pub absent : NetKind → NetFault
absent kind = record { kind = kind; line = 0; column = 0; name = None }

-- what has to be there
abbrev pub required : {A : Type 0} → NetKind → Option A → Result A NetFault
required kind None = Err (absent kind)
required kind (Some x) = Ok x

-- what has to hold
abbrev pub needed : NetKind → Bool → Result (Unit {0}) NetFault
needed kind true = Ok tt
needed kind false = Err (absent kind)

-- ---- the numbers of nodes and elements

-- the names of the nodes, in the order in which the elements first mention them
abbrev pub nodes_of : List Part → List (List ℕ)
nodes_of parts = first_mentions bytes_eq (flat_map (λ (p : Part). p.from ∷ p.to ∷ []) parts)

-- the nodes with those of a further element
abbrev pub with_part : List (List ℕ) → Part → List (List ℕ)
with_part nodes p = with_new bytes_eq (with_new bytes_eq nodes p.from) p.to

-- the place of a name in a list
abbrev pub place_of : List (List ℕ) → List ℕ → ℕ
place_of nodes name = position_or_len (bytes_eq name) nodes

-- an element with its nodes by their numbers
abbrev pub numbered : List (List ℕ) → Part → Element
numbered nodes p = record { name = p.name; kind = p.kind; from = place_of nodes p.from; to = place_of nodes p.to; value = p.value }

abbrev pub circuit_of : List Part → Outlet → RootChoice → CircuitValue
circuit_of parts outlet root = record { elements = map (numbered (nodes_of parts)) parts; nodes = nodes_of parts; outlet = outlet; root = root }

-- the number of the element with this name
abbrev pub number_of_name : List Part → List ℕ → Option ℕ
number_of_name parts name = position (bytes_eq name) (names_of parts)

-- the part with this number is a resistor
abbrev pub is_resistor_at : List Part → ℕ → Bool
is_resistor_at parts i = unwrap_or (option_map (λ (p : Part). is_resistor p.kind) (slice_get parts i)) false

-- ---- names that have to name an element

abbrev pub fault_of_name : NetKind → Mention → NetFault
fault_of_name kind m = record { kind = kind; line = m.line; column = m.column; name = Some m.name }

-- the number of an element, which has to be there
abbrev pub found : NetKind → Mention → Option ℕ → Result ℕ NetFault
found kind m None = Err (fault_of_name kind m)
found kind m (Some i) = Ok i

-- the number of a load, which has to be a resistor
abbrev pub load_number : List Part → Mention → Result ℕ NetFault
load_number parts m =
    found kinds.LoadUnknown m (number_of_name parts m.name) >>= λ i. if is_resistor_at parts i then Ok i else Err (fault_of_name kinds.LoadNotResistor m)

-- the choice of root that a circuit's lines make
abbrev pub root_choice : List Part → Option RootLine → Result RootChoice NetFault
root_choice parts None = Ok roots.Source
root_choice parts (Some Shallow) = Ok roots.Shallow
root_choice parts (Some (At m)) = found kinds.RootUnknown m (number_of_name parts m.name) >>= λ i. Ok (roots.Element i)

-- ---- the two forms

-- a ladder of this rate, load, elements and root
abbrev pub ladder_of : Option ℕ → Option Mention → List Part → Option RootLine → Result NetlistValue NetFault
ladder_of rate load parts root =
    required kinds.NoRate rate >>= λ n. needed kinds.NoSource (has_source parts) >>= λ _. required kinds.NoLoad load >>= λ m.
    load_number parts m >>= λ i. root_choice parts root >>= λ r. Ok (record { rate = n; form = Ladder (circuit_of parts (outlets.Load i) r) })

abbrev pub ladder_said : List Statement → Result NetlistValue NetFault
ladder_said ss = ladder_of (first_said rate_said ss) (first_said load_said ss) (parts_of (last_circuit ss)) (first_said root_said (last_circuit ss))

-- a branch has an element besides its source
abbrev pub has_element : List Part → Bool
has_element parts = nat_le 2 (length parts)

-- a branch of these elements and this root
abbrev pub branch_of : List Part → Option RootLine → Result CircuitValue NetFault
branch_of parts root = root_choice parts root >>= λ r. Ok (circuit_of parts outlets.Source r)

abbrev pub branch_said : List Statement → Result CircuitValue NetFault
branch_said lines = branch_of (parts_of lines) (first_said root_said lines)

abbrev pub lattice_said : List Statement → Result NetlistValue NetFault
lattice_said ss =
    required kinds.NoRate (first_said rate_said ss) >>= λ n. needed kinds.NoBranch (branches ss == 2) >>= λ _.
    needed kinds.EmptyBranch (has_element (parts_of (first_branch ss)) && has_element (parts_of (last_circuit ss))) >>= λ _.
    branch_said (first_branch ss) >>= λ a. branch_said (last_circuit ss) >>= λ b. Ok (record { rate = n; form = Lattice a b })

-- a text without a lattice line is a ladder
abbrev pub netlist_said : List Statement → Result NetlistValue NetFault
netlist_said ss = if in_lattice ss then lattice_said ss else ladder_said ss
