-- The netlist that a text stands for, or its fault. Each line is judged behind what the lines before it say
-- (`LineRules`); then the whole text is (`TextRules`).
use Rattle.std.specs.Prelude.{◌≡◌, ℕ, List, [], ◌∷◌, ◌++◌, Result, Ok, Err}
use Rattle.wdf_netlist.specs.declared.net_fault.NetFault.{NetFault}
use Rattle.wdf_netlist.specs.Netlists.{NetlistValue}
use Rattle.wdf_netlist.specs.Lines.{Line, lines_of}
use Rattle.wdf_netlist.specs.Statements.{Statement}
use Rattle.wdf_netlist.specs.LineRules.{◌>>=◌, line_said}
use Rattle.wdf_netlist.specs.TextRules.{netlist_said}

-- what all lines say, behind those before them: the first fault is that of the first faulty line
abbrev pub all_said : List Statement → List Line → Result (List Statement) NetFault
all_said before [] = Ok before
all_said before (l ∷ ls) = line_said before l >>= λ s. all_said (before ++ s ∷ []) ls

abbrev pub meaning : List ℕ → Result NetlistValue NetFault
meaning text = all_said [] (lines_of text) >>= λ ss. netlist_said ss

-- the text stands for this netlist
abbrev pub Stands : List ℕ → NetlistValue → Type 0
Stands text n = meaning text ≡ Ok n

-- this is what is wrong with the text
abbrev pub IsFault : List ℕ → NetFault → Type 0
IsFault text fault = meaning text ≡ Err fault

-- the netlist that a text stands for, or what is wrong with it
abbrev pub IsReading : List ℕ → Result NetlistValue NetFault → Type 0
IsReading text (Ok n) = Stands text n
IsReading text (Err fault) = IsFault text fault

-- a text stands for exactly one netlist and has no fault, or it has exactly one fault and stands for none
pub record HasOneReading (text : List ℕ) : Type 0 where
  pub reading : Result NetlistValue NetFault
  pub reads : IsReading text reading
  pub only : (other : Result NetlistValue NetFault) → IsReading text other → other ≡ reading
