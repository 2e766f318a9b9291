-- The rules of the whole text, over what a draft holds.
use Rattle.std.specs.Prelude.{◌≡◌, ℕ, ◌&&◌, Option, Some, None, Result, Ok, Err}
use Rattle.wdf_netlist.specs.declared.circuit_draft.CircuitDraft.{CircuitDraft}
use Rattle.wdf_netlist.specs.declared.form.Form.TheVariants.{Lattice}
use Rattle.wdf_netlist.specs.declared.net_fault.NetFault.{NetFault}
use Rattle.wdf_netlist.specs.declared.net_kind.NetKind.TheVariants as kinds
use Rattle.wdf_netlist.specs.declared.read_error.ReadError.{ReadError}
use Rattle.wdf_netlist.specs.Drafts.{Fails}
use Rattle.wdf_netlist.specs.LineRules.{◌>>=◌}
use Rattle.wdf_netlist.specs.Netlists.{NetlistValue}
use Rattle.wdf_netlist.specs.NetlistText.{meaning}
use Rattle.wdf_netlist.specs.TextRules.{absent, branch_of, has_element, needed, required}
use Rattle.std.specs.Prelude.{List}

-- a result is what the definition gives
abbrev pub Gives : {A : Type 0} → Result A NetFault → Result A NetFault → Type 0
Gives (Ok x) said = said ≡ Ok x
Gives (Err e) said = said ≡ Err e

-- the same, where want of memory says nothing
abbrev pub GivesOrFails : {A : Type 0} → Result A ReadError → Result A NetFault → Type 0
GivesOrFails (Ok x) said = said ≡ Ok x
GivesOrFails (Err e) said = Fails e said

-- a lattice of this rate and these branches
abbrev pub lattice_of : Option ℕ → Option CircuitDraft → CircuitDraft → Result NetlistValue NetFault
lattice_of rate None own = required kinds.NoRate rate >>= λ n. Err (absent kinds.NoBranch)
lattice_of rate (Some first) own =
    required kinds.NoRate rate >>= λ n. needed kinds.EmptyBranch (has_element first.parts.items && has_element own.parts.items) >>= λ _.
    branch_of first.parts.items first.root >>= λ a. branch_of own.parts.items own.root >>= λ b. Ok (record { rate = n; form = Lattice a b })

-- what reading a text answers
abbrev pub Answers : List ℕ → Result NetlistValue ReadError → Type 0
Answers text read = GivesOrFails read (meaning text)
