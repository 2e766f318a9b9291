-- What holds of words without fault.
use Rattle.std.specs.Prelude.{◌≡◌, ℕ, ◌≤◌, true, false, List, Option, Some, None, IfSome, IsTrue, ⊤}
use Rattle.std.specs.List.{list_any}
use Rattle.wdf_text.specs.Numbers.{number_of, is_whole}
use Rattle.wdf_bounds.specs.Plans.{is_sample_width}
use Rattle.wdf_words.specs.declared.command.Command.{Command}
use Rattle.wdf_words.specs.declared.values.Values.{Values}
use Rattle.wdf_words.specs.declared.values.Values.TheVariants.{Text, Between, SampleWidth}
use Rattle.wdf_words.specs.Operands.{command_named, operands_of, k, guard, shift, frames, amp, bits, order}
use Rattle.wdf_words.specs.Orders.{first_fault, is_missing, number_given, word_at}

-- words of the command c without fault, none of which is missing
pub record AreWellFormed (c : Command) (words : List (List ℕ)) : Type 0 where
  pub command : command_named (word_at words 0) ≡ Some c
  pub first : first_fault c words ≡ None
  pub whole : list_any (is_missing words) (operands_of c) ≡ false

-- a value without fault
abbrev pub Suits : Option Values → List ℕ → Type 0
Suits None value = ⊥
Suits (Some Text) value = ⊤
Suits (Some (Between least most)) value = (is_whole value ≡ true) × (least ≤ number_of value) × (number_of value ≤ most)
Suits (Some SampleWidth) value = (is_whole value ≡ true) × IsTrue (is_sample_width (number_of value))

-- a number that such a value writes
abbrev pub NumberSuits : Option Values → ℕ → Type 0
NumberSuits None n = ⊥
NumberSuits (Some Text) n = ⊤
NumberSuits (Some (Between least most)) n = (least ≤ n) × (n ≤ most)
NumberSuits (Some SampleWidth) n = IsTrue (is_sample_width n)

-- the numbers that are given fit the fields of an order
pub record HaveRoom (words : List (List ℕ)) : Type 0 where
  pub k : IfSome (number_given k.name words) (λ n. n ≤ 255)
  pub guard : IfSome (number_given guard.name words) (λ n. n ≤ 255)
  pub shift : IfSome (number_given shift.name words) (λ n. n ≤ 255)
  pub frames : IfSome (number_given frames.name words) (λ n. n ≤ 4294967295)
  pub amp : IfSome (number_given amp.name words) (λ n. n ≤ 4294967295)
  pub bits : IfSome (number_given bits.name words) (λ n. n ≤ 255)
  pub order : IfSome (number_given order.name words) (λ n. n ≤ 255)
