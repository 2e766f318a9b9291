use Rattle.std.proofs.Common.{rules, List, ℕ, sym, ap, ◌∙◌, eqb, length}
use Rattle.wdf_words.specs.Operands.{operand_named, value_fault, values_of}
use Rattle.wdf_words.specs.Orders.{is_given, texts}
use Rattle.wdf_words.proofs.WellFormedLemmas.{value_of_word}
use Rattle.wdf_words.proofs.reading.word_fault.Goals as goal

pub returns : goal.returns
returns c =
    let w = c.args.word.now in
    let before = texts c.args.before.now in
    c.fault.ensures ∙ ap (value_fault c.in-Some.values) c.value_in-2.ensures
    ∙ sym (value_of_word c.args.command before w c.in-Some.values (search rules)
    (ap (λ (n : List ℕ). values_of (operand_named c.args.command n)) (sym c.name_in.ensures) ∙ sym c.values_of.ensures ∙ c.in-Some.is)
    (ap (λ (n : List ℕ). is_given n before) (sym c.name_in-2.ensures) ∙ sym c.is_given.ensures ∙ c.if-is_given.false)
    (ap (λ (v : List ℕ). eqb (length v) 0) (sym c.value_in.ensures) ∙ sym c.is_empty.ensures ∙ c.if-is_empty.false))
