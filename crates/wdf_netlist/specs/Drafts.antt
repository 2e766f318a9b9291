-- How what the reader holds stands for what the lines so far say.
use Rattle.std.specs.Prelude.{◌≡◌, ◌≢◌, ℕ, ◌≤◌, true, false, cond, List, [], ◌∷◌, ◌++◌, map, Option, Some, None, Result, Ok, Err, IfSome, IsSome, IsTrue}
use Rattle.std.specs.List.{list_all}
use Rattle.wdf_text.specs.declared.word.Word.{Word}
use Rattle.wdf_netlist.specs.declared.circuit_draft.CircuitDraft.{CircuitDraft}
use Rattle.wdf_netlist.specs.declared.draft.Draft.{Draft}
use Rattle.wdf_netlist.specs.declared.net_fault.NetFault.{NetFault}
use Rattle.wdf_netlist.specs.declared.part.Part.{Part}
use Rattle.wdf_netlist.specs.declared.read_error.ReadError.{ReadError}
use Rattle.wdf_netlist.specs.declared.read_error.ReadError.TheVariants as errors
use Rattle.wdf_text.specs.DecimalNumber.{DecimalNumber}
use Rattle.wdf_text.specs.Names.{IsName, is_name_or_at_sign}
use Rattle.wdf_law.specs.Network.{is_source}
use Rattle.wdf_law.specs.declared.kind.Kind.{Kind}
use Rattle.wdf_netlist.specs.declared.keyword.Keyword.{Keyword}
use Rattle.wdf_netlist.specs.declared.keyword.Keyword.TheVariants as keywords
use Rattle.wdf_netlist.specs.declared.TheConstants.{MAX_RATE}
use Rattle.wdf_netlist.specs.Circuits.{IsElementValue}
use Rattle.wdf_netlist.specs.Kept.{AreOfForm, IsNextPart, KeepsParts}
use Rattle.wdf_netlist.specs.declared.root_line.RootLine.{RootLine}
use Rattle.wdf_netlist.specs.declared.root_line.RootLine.TheVariants.{At, Shallow}
use Rattle.wdf_netlist.specs.Lines.{Line, is_comment, word_in}
use Rattle.wdf_netlist.specs.LineRules.{◌>>=◌, count_fault, is_taken, line_said}
use Rattle.wdf_netlist.specs.Statements.{Statement, branch_part, branches, first_branch, first_said, is_rate, last_circuit, load_said, names_of, parts_of, rate_said, root_said, termination_said}

pub record IsEmptyDraft (d : CircuitDraft) : Type 0 where
  pub parts : d.parts.items ≡ []
  pub names : d.names ≡ []
  pub root : d.root ≡ None

-- a part more
pub record IsPushed (old : CircuitDraft) (part : Part) (new : CircuitDraft) : Type 0 where
  pub parts : new.parts.items ≡ old.parts.items ++ part ∷ []
  pub names : new.names ≡ old.names ++ part.name ∷ []
  pub root : new.root ≡ old.root

-- the source of a branch alone
pub record IsSourceAlone (d : CircuitDraft) (p : Part) : Type 0 where
  pub parts : d.parts.items ≡ p ∷ []
  pub names : d.names ≡ p.name ∷ []
  pub root : d.root ≡ None
  pub source : p ≡ branch_part p.from p.to p.value
  pub next : IsNextPart [] p

-- these are the lines of the circuit
pub record IsDraftOf (d : CircuitDraft) (lines : List Statement) : Type 0 where
  pub parts : parts_of lines ≡ d.parts.items
  pub names : d.names ≡ names_of d.parts.items
  pub root : first_said root_said lines ≡ d.root

-- a root is at a name
abbrev pub IsAtName : RootLine → Type 0
IsAtName (At m) = IsName m.name
IsAtName Shallow = Unit {0}

-- what a circuit's draft keeps
pub record KeepsCircuit (d : CircuitDraft) : Type 0 where
  pub names : d.names ≡ names_of d.parts.items
  pub parts : KeepsParts d.parts.items
  pub root : IfSome d.root IsAtName

-- a part that may be added to a draft
pub record IsNewPart (d : CircuitDraft) (p : Part) : Type 0 where
  pub room : count_fault d.parts.items p.kind ≡ None
  pub named : IsTrue (is_name_or_at_sign p.name)
  pub new : is_taken d.names p.name ≡ false
  pub ends_differ : p.from ≢ p.to
  pub from_named : IsName p.from
  pub to_named : IsName p.to
  pub value : IsElementValue p.value

-- a circuit that is whole, in a text of this form
pub record IsWholeDraft (termination : Option DecimalNumber) (d : CircuitDraft) : Type 0 where
  pub circuit : KeepsCircuit d
  pub form : AreOfForm termination d.parts.items
  pub some : d.parts.items ≢ []

-- what a draft keeps
pub record KeepsDraft (d : Draft) : Type 0 where
  pub own : KeepsCircuit d.own
  pub form : AreOfForm d.termination d.own.parts.items
  pub source : 1 ≤ d.begun → d.own.parts.items ≢ []
  pub none : d.only_rates ≡ true → d.own.parts.items ≡ []
  pub first : IfSome d.first (IsWholeDraft d.termination)
  pub second : IsSome d.first → 1 ≤ d.begun
  pub rate : IfSome d.rate (λ n. (1 ≤ n) × (n ≤ MAX_RATE))
  pub termination : IfSome d.termination IsElementValue

-- the first branch, once the second is begun
abbrev pub IsFirstBranch : Option CircuitDraft → List Statement → Type 0
IsFirstBranch None before = branches before ≤ 1
IsFirstBranch (Some d) before = (branches before ≡ 2) × IsDraftOf d (first_branch before)

-- this is what the lines before say
pub record Reflects (d : Draft) (before : List Statement) : Type 0 where
  pub rate : first_said rate_said before ≡ d.rate
  pub load : first_said load_said before ≡ d.load
  pub termination : first_said termination_said before ≡ d.termination
  pub only_rates : list_all is_rate before ≡ d.only_rates
  pub begun : branches before ≡ d.begun
  pub own : IsDraftOf d.own (last_circuit before)
  pub first : IsFirstBranch d.first before
  pub keeps : KeepsDraft d

-- an element of this kind has its place in the text: in a ladder, or, unless it is a source, in a branch
abbrev pub BelongsTo : Draft → Kind → Type 0
BelongsTo d kind = IsSome d.termination → (1 ≤ d.begun) × (is_source kind ≡ false)

-- so has a line with this keyword
abbrev pub HasPlace : Draft → Keyword → Type 0
HasPlace d keywords.Rate = Unit {0}
HasPlace d keywords.Source = d.termination ≡ None
HasPlace d keywords.Input = d.termination ≡ None
HasPlace d keywords.Resistor = IsSome d.termination → 1 ≤ d.begun
HasPlace d keywords.Inductor = IsSome d.termination → 1 ≤ d.begun
HasPlace d keywords.Capacitor = IsSome d.termination → 1 ≤ d.begun
HasPlace d keywords.Load = Unit {0}
HasPlace d keywords.Root = Unit {0}
HasPlace d keywords.Shallow = Unit {0}
HasPlace d keywords.Lattice = d.only_rates ≡ true
HasPlace d keywords.Branch = IsSome d.termination

-- ---- what functions of the reader answer

-- a result, seen by a view, is what the definition gives
abbrev pub Says : {A B : Type 0} → (A → B) → Result A NetFault → Result B NetFault → Type 0
Says view (Ok x) said = said ≡ Ok (view x)
Says view (Err e) said = said ≡ Err e

-- a fault is the definition's; want of memory says nothing
abbrev pub Fails : {B : Type 0} → ReadError → Result B NetFault → Type 0
Fails (errors.Fault f) said = said ≡ Err f
Fails errors.NoMemory said = Unit {0}

-- the draft holds one statement more, which the definition gives
abbrev pub Continues : {U : Type 0} → Draft → List Statement → Result U ReadError → Result Statement NetFault → Type 0
Continues d before (Ok _) said = (s : Statement) × (said ≡ Ok s) × Reflects d (before ++ s ∷ [])
Continues d before (Err e) said = Fails e said

abbrev pub line_in : List ℕ → Word → List Word → Line
line_in text first rest = record { first = word_in text first; rest = map (word_in text) rest }

-- what a line adds to what is said; a comment adds nothing
abbrev pub added : List Statement → Line → Result (List Statement) NetFault
added before l = cond (is_comment l) (Ok before) (line_said before l >>= λ s. Ok (before ++ s ∷ []))

-- the draft holds all that is said
abbrev pub Holds : {U : Type 0} → Draft → Result U ReadError → Result (List Statement) NetFault → Type 0
Holds d (Ok _) said = (ss : List Statement) × (said ≡ Ok ss) × Reflects d ss
Holds d (Err e) said = Fails e said
