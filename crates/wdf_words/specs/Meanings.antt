-- What a list of words means, by conditions on its words and with no search for the first: it asks for an order, or it has
-- a fault. The law `one_meaning` says that each list means just one of these, which `order_of` finds.
use Rattle.std.specs.Prelude.{◌≡◌, ℕ, ◌<◌, ◌≤◌, true, false, ◌⊎◌, List, [], length, Some, None, Result, Ok, Err}
use Rattle.std.specs.List.{list_any}
use Rattle.wdf_report.specs.declared.usage_kind.UsageKind.TheVariants as kinds
use Rattle.wdf_words.specs.declared.command.Command.{Command}
use Rattle.wdf_words.specs.declared.order.Order.{Order}
use Rattle.wdf_words.specs.declared.usage_fault.UsageFault.{UsageFault}
use Rattle.wdf_words.specs.Operands.{command_named, operands_of}
use Rattle.wdf_words.specs.Orders.{fault_at, is_missing, order_given, order_of, usage, word_at}

-- no word behind the command has a fault
abbrev pub AreGood : Command → List (List ℕ) → Type 0
AreGood c words = (at : ℕ) → 1 ≤ at → at < length words → fault_at c words at ≡ None

-- the words give all that their command needs, and the order is what they give
pub record IsOrder (words : List (List ℕ)) (o : Order) : Type 0 where
  pub some : 1 ≤ length words
  pub command : command_named (word_at words 0) ≡ Some o.command
  pub good : AreGood o.command words
  pub whole : list_any (is_missing words) (operands_of o.command) ≡ false
  pub given : o ≡ order_given o.command words

-- there is no word, or the first is no command
pub record IsNoCommand (words : List (List ℕ)) (fault : UsageFault) : Type 0 where
  pub none : words ≡ []
  pub is : fault ≡ usage 0 kinds.NoCommand

pub record IsUnknownCommand (words : List (List ℕ)) (fault : UsageFault) : Type 0 where
  pub some : 1 ≤ length words
  pub unknown : command_named (word_at words 0) ≡ None
  pub is : fault ≡ usage 0 kinds.UnknownCommand

-- the word has a fault, and no word before it
pub record IsFirstFault (words : List (List ℕ)) (fault : UsageFault) : Type 0 where
  pub of : Command
  pub command : command_named (word_at words 0) ≡ Some of
  pub later : 1 ≤ fault.word
  pub within : fault.word < length words
  pub here : fault_at of words fault.word ≡ Some fault.kind
  pub before : (at : ℕ) → 1 ≤ at → at < fault.word → fault_at of words at ≡ None

-- no word has one, and something that the command needs is not given
pub record IsLack (words : List (List ℕ)) (fault : UsageFault) : Type 0 where
  pub some : 1 ≤ length words
  pub of : Command
  pub command : command_named (word_at words 0) ≡ Some of
  pub good : AreGood of words
  pub lacks : list_any (is_missing words) (operands_of of) ≡ true
  pub is : fault ≡ usage (length words) kinds.MissingOperand

abbrev pub IsMeaning : List (List ℕ) → Result Order UsageFault → Type 0
IsMeaning words (Ok o) = IsOrder words o
IsMeaning words (Err fault) = IsNoCommand words fault ⊎ (IsUnknownCommand words fault ⊎ (IsFirstFault words fault ⊎ IsLack words fault))

pub record HasOneMeaning (words : List (List ℕ)) : Type 0 where
  pub means : IsMeaning words (order_of words)
  pub only : (other : Result Order UsageFault) → IsMeaning words other → other ≡ order_of words
