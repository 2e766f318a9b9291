-- The ladder that is made for a seed and an order, as the value of its netlist. Its text is that of `LadderText`, which
-- stands for this value and for no other: `text_stands` of `src/laws.rt`.
use Rattle.std.specs.Prelude.{ℕ, ℤ, pos, negsuc, ◌+ℤ◌, ◌+◌, ◌/◌, ◌%◌, ◌==◌, Bool, if◌then◌else◌, List, [], ◌∷◌, ◌++◌, map, codes, decimal}
use Rattle.std.specs.List.{range_with_len}
use Rattle.wdf_text.specs.DecimalNumber.{DecimalNumber}
use Rattle.wdf_law.specs.declared.kind.Kind.TheVariants.{Src, Res, Ind, Cap}
use Rattle.wdf_law.specs.declared.outlet.Outlet.TheVariants.{Load}
use Rattle.wdf_netlist.specs.declared.element.Element.{Element}
use Rattle.wdf_netlist.specs.declared.form.Form.TheVariants.{Ladder}
use Rattle.wdf_netlist.specs.declared.root_choice.RootChoice.TheVariants.{Source as At_source}
use Rattle.wdf_netlist.specs.Circuits.{CircuitValue}
use Rattle.wdf_netlist.specs.Netlists.{NetlistValue}
use Rattle.wdf_made.specs.Generator.{word_at}

-- ---- nodes

-- the number of the node nJ: n0 is mentioned first, then the ground 0, then n1 and the others in their order
abbrev pub node_number : (j : ℕ) → ℕ
node_number j = if j == 0 then 0 else j + 1

abbrev pub ground : ℕ
ground = 1

-- a letter and a number
abbrev pub numbered_name : (letter : List ℕ) → ℕ → List ℕ
numbered_name letter n = letter ++ decimal n

abbrev pub ladder_nodes : (order : ℕ) → List (List ℕ)
ladder_nodes order = codes "n0" ∷ codes "0" ∷ map (λ (j : ℕ). numbered_name (codes "n") (j + 1)) (range_with_len 0 (order / 2))

-- ---- values

-- n · 10^exp in its one form, for n in 1..=999
abbrev pub in_one_form : (n : ℕ) → (exp : ℤ) → DecimalNumber
in_one_form n exp =
    if n % 100 == 0 then record { digits = n / 100; exp = exp +ℤ pos 2 }
    else (if n % 10 == 0 then record { digits = n / 10; exp = exp +ℤ pos 1 } else record { digits = n; exp = exp })

-- elements are counted from 0 here: element Ei is the one at the place i - 1
abbrev pub is_capacitor : (place : ℕ) → Bool
is_capacitor place = place % 2 == 0

-- nanofarads of a capacitor, millihenries of an inductor
abbrev pub value_from : (place : ℕ) → (word : ℕ) → DecimalNumber
value_from place word = if is_capacitor place then in_one_form (1 + word % 999) (negsuc 8) else in_one_form (1 + word % 99) (negsuc 2)

-- 600 ohms, of the source and of the load
abbrev pub termination : DecimalNumber
termination = record { digits = 6; exp = pos 2 }

-- ---- elements

abbrev pub the_source : Element
the_source = record { name = codes "S"; kind = Src; from = node_number 0; to = ground; value = termination }

abbrev pub rung : (place : ℕ) → (value : DecimalNumber) → Element
rung place value =
    record {
      name = numbered_name (codes "E") (place + 1);
      kind = if is_capacitor place then Cap else Ind;
      from = node_number (place / 2);
      to = if is_capacitor place then ground else node_number (place / 2 + 1);
      value = value;
    }

abbrev pub the_load : (order : ℕ) → Element
the_load order = record { name = codes "L"; kind = Res; from = node_number (order / 2); to = ground; value = termination }

-- ---- the netlist

-- the elements of a ladder whose element at a place has the value `values place`
abbrev pub elements_with : (values : ℕ → DecimalNumber) → (order : ℕ) → List Element
elements_with values order = the_source ∷ map (λ (place : ℕ). rung place (values place)) (range_with_len 0 order) ++ the_load order ∷ []

-- the load is the last element
abbrev pub circuit_with : (values : ℕ → DecimalNumber) → (order : ℕ) → CircuitValue
circuit_with values order = record { elements = elements_with values order; nodes = ladder_nodes order; outlet = Load (order + 1); root = At_source }

abbrev pub made_value : (seed place : ℕ) → DecimalNumber
made_value seed place = value_from place (word_at seed place)

abbrev pub made_netlist : (seed order : ℕ) → NetlistValue
made_netlist seed order = record { rate = 48000; form = Ladder (circuit_with (made_value seed) order) }
