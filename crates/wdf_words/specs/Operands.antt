-- The operands of the command line: those of each command, what their values may be, and what is taken where they are
-- not given.
use Rattle.std.specs.Prelude.{ℕ, Bool, true, false, ◌&&◌, nat_le, if◌then◌else◌, List, [], ◌∷◌, bytes_eq, codes, Option, Some, None, option_map}
use Rattle.std.specs.List.{find}
use Rattle.wdf_report.specs.declared.usage_kind.UsageKind.{UsageKind}
use Rattle.wdf_report.specs.declared.usage_kind.UsageKind.TheVariants as kinds
use Rattle.wdf_text.specs.Numbers.{number_of, is_whole}
use Rattle.wdf_bounds.specs.Plans.{is_sample_width}
use Rattle.wdf_words.specs.declared.command.Command.{Command}
use Rattle.wdf_words.specs.declared.command.Command.TheVariants as commands
use Rattle.wdf_words.specs.declared.values.Values.{Values}
use Rattle.wdf_words.specs.declared.values.Values.TheVariants.{Text, Between, SampleWidth}

-- the command of this name
abbrev pub command_named : List ℕ → Option Command
command_named w =
    if bytes_eq w (codes "run") then Some commands.Run
    else (if bytes_eq w (codes "report") then Some commands.Report
    else (if bytes_eq w (codes "certify") then Some commands.Certify
    else (if bytes_eq w (codes "check") then Some commands.Check
    else (if bytes_eq w (codes "soak") then Some commands.Soak
    else None))))

-- ---- the table

-- what is taken where an operand is not given
pub data Absent : Type 0 where
  needed : Absent  -- it has to be given
  by_wave : Absent  -- the wave decides
  counts_as : ℕ → Absent

-- the operand has to be given
abbrev pub is_needed : Absent → Bool
is_needed needed = true
is_needed by_wave = false
is_needed (counts_as n) = false

-- the number that it counts as
abbrev pub counted : Absent → ℕ
counted needed = 0
counted by_wave = 0
counted (counts_as n) = n

pub record Operand : Type 0 where
  pub name : List ℕ
  pub values : Values
  pub absent : Absent

-- a row of the table
abbrev pub operand : List ℕ → Values → Absent → Operand
operand name values absent = record { name = name; values = values; absent = absent }

abbrev pub net : Operand
net = operand (codes "net") Text needed

abbrev pub cert : Operand
cert = operand (codes "cert") Text needed

abbrev pub k : Operand
k = operand (codes "k") (Between 1 20) (counts_as 14)

abbrev pub guard : Operand
guard = operand (codes "guard") (Between 0 16) by_wave

abbrev pub shift : Operand
shift = operand (codes "shift") (Between 0 16) (counts_as 0)

abbrev pub frames : Operand
frames = operand (codes "frames") (Between 1 4294967295) (counts_as 67108864)

abbrev pub amp : Operand
amp = operand (codes "amp") (Between 1 2147483648) by_wave

abbrev pub bits : Operand
bits = operand (codes "bits") SampleWidth (counts_as 16)

abbrev pub seed : Operand
seed = operand (codes "seed") (Between 0 18446744073709551615) needed

abbrev pub order : Operand
order = operand (codes "order") (Between 1 32) needed

abbrev pub soak_frames : Operand
soak_frames = operand (codes "frames") (Between 1 4194304) needed

-- those of each command
abbrev pub operands_of : Command → List Operand
operands_of commands.Run = net ∷ k ∷ guard ∷ shift ∷ frames ∷ amp ∷ []
operands_of commands.Report = net ∷ k ∷ guard ∷ shift ∷ frames ∷ amp ∷ bits ∷ []
operands_of commands.Certify = net ∷ k ∷ []
operands_of commands.Check = net ∷ cert ∷ k ∷ []
operands_of commands.Soak = seed ∷ order ∷ soak_frames ∷ []

-- the one of this name
abbrev pub named : List Operand → List ℕ → Option Operand
named operands name = find (λ (o : Operand). bytes_eq name o.name) operands

-- the command's operand of this name
abbrev pub operand_named : Command → List ℕ → Option Operand
operand_named c name = named (operands_of c) name

-- what its values may be
abbrev pub values_of : Option Operand → Option Values
values_of o = option_map (λ (x : Operand). x.values) o

-- ---- what is wrong with a value that is not empty

-- with one that is to be a number which passes
abbrev pub number_fault : (ℕ → Bool) → List ℕ → Option UsageKind
number_fault passes value =
    if is_whole value then (if passes (number_of value) then None else Some kinds.OutOfRange) else Some kinds.BadNumber

-- both ends included
abbrev pub is_between : ℕ → ℕ → ℕ → Bool
is_between least most n = nat_le least n && nat_le n most

-- with one of these values
abbrev pub value_fault : Values → List ℕ → Option UsageKind
value_fault Text value = None
value_fault (Between least most) value = number_fault (is_between least most) value
value_fault SampleWidth value = number_fault is_sample_width value
