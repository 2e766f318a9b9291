-- What the words of the command line ask for, or the first thing that is wrong with them. The first word is the
-- command. Each further word is `name=value`, cut at its first `=`; it is judged by itself and by whether a word before
-- it gives the same operand. The first word with a fault is told; where no word has one, an operand may be missing.
use Rattle.std.specs.Prelude.{◌≡◌, ℕ, zero, suc, ◌+◌, ◌-◌, ◌^◌, ◌<◌, ◌≤◌, min, Bool, true, not, ◌&&◌, ◌==◌, if◌then◌else◌, List, [], ◌∷◌, length, take, get_or, map, bytes_eq, Option, Some, None, is_some, unwrap_or, IfSome, IsTrue, option_map, Result, Ok, Err, String, string_bytes}
use Rattle.std.specs.List.{list_any, position, before_first, after_first}
use Rattle.std.specs.Option.{option_or}
use Rattle.std.specs.declared.alloc.Global.{Global}
use Rattle.wdf_report.specs.declared.usage_kind.UsageKind.{UsageKind}
use Rattle.wdf_report.specs.declared.usage_kind.UsageKind.TheVariants as kinds
use Rattle.wdf_text.specs.Numbers.{number_of, is_whole}
use Rattle.wdf_bounds.specs.Plans.{PlanOf, plan_of, is_sample_width}
use Rattle.wdf_words.specs.declared.command.Command.{Command}
use Rattle.wdf_words.specs.declared.command.Command.TheVariants as commands
use Rattle.wdf_words.specs.declared.order.Order.{Order}
use Rattle.wdf_words.specs.declared.usage_fault.UsageFault.{UsageFault}
use Rattle.wdf_words.specs.Operands.{Operand, is_needed, counted, command_named, operand_named, operands_of, value_fault, net, cert, k, guard, shift, frames, amp, bits, seed, order}

-- the words as bytes
abbrev pub texts : List (String Global) → List (List ℕ)
texts words = map string_bytes words

-- ---- one word

abbrev pub is_equals : ℕ → Bool
is_equals b = b == 61

-- what stands before the first `=`, and what stands behind it
abbrev pub name_in : List ℕ → List ℕ
name_in w = before_first is_equals w

abbrev pub value_in : List ℕ → List ℕ
value_in w = after_first is_equals w

-- the word gives the operand of this name
abbrev pub gives : List ℕ → List ℕ → Bool
gives name w = list_any is_equals w && bytes_eq (name_in w) name

-- the number of a value; None where it is none
abbrev pub number_in : List ℕ → Option ℕ
number_in value = if is_whole value then Some (number_of value) else None

-- ---- words and their places, counted from 0

abbrev pub word_at : List (List ℕ) → ℕ → List ℕ
word_at words at = get_or words at []

-- the place of the first word that gives the operand of this name
abbrev pub place_given : List ℕ → List (List ℕ) → Option ℕ
place_given name words = position (gives name) words

-- some word gives it
abbrev pub is_given : List ℕ → List (List ℕ) → Bool
is_given name words = is_some (place_given name words)

-- what f makes of what is there
abbrev pub option_then : {A B : Type 0} → Option A → (A → Option B) → Option B
option_then None f = None
option_then (Some x) f = f x

-- the number that it is given
abbrev pub number_given : List ℕ → List (List ℕ) → Option ℕ
number_given name words = option_then (place_given name words) (λ at. number_in (value_in (word_at words at)))

-- ---- faults

-- that of a word with an `=`, by the operand that it names
abbrev pub operand_fault : Option Operand → List (List ℕ) → List ℕ → Option UsageKind
operand_fault None before w = Some kinds.UnknownOperand
operand_fault (Some o) before w =
    if is_given (name_in w) before then Some kinds.DoubleOperand
    else (if length (value_in w) == 0 then Some kinds.EmptyValue
    else value_fault o.values (value_in w))

-- what is wrong with a word behind those before it, for this command
abbrev pub word_fault : Command → List (List ℕ) → List ℕ → Option UsageKind
word_fault c before w = if list_any is_equals w then operand_fault (operand_named c (name_in w)) before w else Some kinds.NoEquals

-- the first of `count` places from `at` on where something is, and what is there
abbrev pub first_from : {A : Type 0} → (ℕ → Option A) → ℕ → ℕ → Option (ℕ × A)
first_from f at zero = None
first_from f at (suc count) = option_or (option_map (λ x. (at, x)) (f at)) (first_from f (at + 1) count)

-- what is wrong with the word at a place
abbrev pub fault_at : Command → List (List ℕ) → ℕ → Option UsageKind
fault_at c words at = word_fault c (take at words) (word_at words at)

abbrev pub usage : ℕ → UsageKind → UsageFault
usage word kind = record { word = word; kind = kind }

-- the fault of the first word behind the command that has one
abbrev pub first_fault : Command → List (List ℕ) → Option UsageFault
first_fault c words = option_map (λ f. usage f.0 f.1) (first_from (fault_at c words) 1 (length words - 1))

-- an operand that has to be given is not
abbrev pub is_missing : List (List ℕ) → Operand → Bool
is_missing words o = is_needed o.absent && not (is_given o.name words)

-- where one is, that is told at the number of words
abbrev pub missing_fault : Command → List (List ℕ) → Option UsageFault
missing_fault c words = if list_any (is_missing words) (operands_of c) then Some (usage (length words) kinds.MissingOperand) else None

-- ---- what is asked for

-- the number that an operand is given, or counts as
abbrev pub number_of_operand : Operand → List (List ℕ) → ℕ
number_of_operand o words = unwrap_or (number_given o.name words) (counted o.absent)

-- what words without fault ask for
abbrev pub order_given : Command → List (List ℕ) → Order
order_given c words = record {
  command = c;
  net = place_given net.name words;
  cert = place_given cert.name words;
  k = number_of_operand k words;
  guard = number_given guard.name words;
  shift = number_of_operand shift words;
  frames = number_of_operand frames words;
  amp = number_given amp.name words;
  bits = number_of_operand bits words;
  seed = number_of_operand seed words;
  order = number_of_operand order words;
}

-- the order, where there is no fault
abbrev pub unless_fault : Option UsageFault → Order → Result Order UsageFault
unless_fault None o = Ok o
unless_fault (Some fault) o = Err fault

-- what the words of a command ask for
abbrev pub order_by : Option Command → List (List ℕ) → Result Order UsageFault
order_by None words = Err (usage 0 kinds.UnknownCommand)
order_by (Some c) words = unless_fault (option_or (first_fault c words) (missing_fault c words)) (order_given c words)

-- what the words ask for, or their first fault
abbrev pub order_of : List (List ℕ) → Result Order UsageFault
order_of [] = Err (usage 0 kinds.NoCommand)
order_of (first ∷ rest) = order_by (command_named first) (first ∷ rest)

-- ---- files and plans

-- the name of a file: what stands behind the `=` of the word at its place
abbrev pub file_named : List (List ℕ) → ℕ → List ℕ
file_named words at = value_in (word_at words at)

-- the words name a file at this place
abbrev pub IsFileNamed : List (List ℕ) → Option ℕ → Type 0
IsFileNamed words None = ⊥
IsFileNamed words (Some at) = (at < length words) × (1 ≤ length (file_named words at))

-- the command reads a netlist, a certificate
abbrev pub reads_netlist : Command → Bool
reads_netlist c = is_some (operand_named c net.name)

abbrev pub reads_certificate : Command → Bool
reads_certificate c = is_some (operand_named c cert.name)

-- the files that the command reads are named
pub record NamesFiles (words : List (List ℕ)) (o : Order) : Type 0 where
  pub net : reads_netlist o.command ≡ true → IsFileNamed words o.net
  pub cert : reads_certificate o.command ≡ true → IsFileNamed words o.cert

-- the numbers of every order are in these ranges
pub record HasRanges (o : Order) : Type 0 where
  pub k : (1 ≤ o.k) × (o.k ≤ 20)
  pub guard : IfSome o.guard (λ n. n ≤ 16)
  pub shift : o.shift ≤ 16
  pub frames : (1 ≤ o.frames) × (o.frames ≤ 4294967295)
  pub amp : IfSome o.amp (λ n. (1 ≤ n) × (n ≤ 2147483648))
  pub bits : IsTrue (is_sample_width o.bits)
  pub soak : o.command ≡ commands.Soak → (1 ≤ o.order) × (o.order ≤ 32) × (o.frames ≤ 4194304)

-- the greatest magnitude of a sample of this width
abbrev pub full_scale : ℕ → ℕ
full_scale bits = 2 ^ (bits - 1)

-- the guard bits of samples of this width, where none are asked for
abbrev pub usual_guard : ℕ → ℕ
usual_guard bits = if bits == 32 then 0 else 4

-- the plan of a run over samples of this width
abbrev pub plan_for : Order → ℕ → PlanOf
plan_for o bits = plan_of o.k (unwrap_or o.guard (usual_guard bits)) o.shift o.frames (min (unwrap_or o.amp (full_scale bits)) (full_scale bits)) bits
