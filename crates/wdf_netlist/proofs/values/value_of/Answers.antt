use Rattle.std.proofs.Common.{◌≡◌, ℕ, ℤ, sym, ap, subst, take, drop, ◌∙◌}
use Rattle.std.proofs.Math.Facts.{to_z-of_z}
use Rattle.wdf_text.specs.Decimals.{is_decimal, number_in}
use Rattle.wdf_netlist.specs.Values.{HasScaled, decimal_of, power_of_unit, unit_of}
use Rattle.wdf_netlist.proofs.ValueLemmas.{scaled_value}
use Rattle.wdf_netlist.proofs.values.value_of.Goals as goal

pub returns-clause-said : goal.returns-clause-said
returns-clause-said c =
    let word = c.args.word.now in
    let front : c.split_at.result.0.now ≡ decimal_of word = c.split_at.ensures.front ∙ ap (λ (n : ℕ). take n word) c.decimal_len.ensures.value in
    let behind : c.split_at.result.1.now ≡ unit_of word = c.split_at.ensures.back ∙ ap (λ (n : ℕ). drop n word) c.decimal_len.ensures.value in
    let test = sym c.in-Ok.ensures.test in
    let number = c.in-Ok.ensures.number in
    let power = sym c.in-Some.ensures.power in
    let fits = c.in-Some.ensures.small in
    let scaled = subst (λ (z : ℤ). HasScaled c.in-Ok.number z c.scaled.result) (to_z-of_z fits) c.scaled.ensures.scaled in
    scaled_value word c.in-Ok.number c.in-Some.power c.scaled.result (sym (ap is_decimal front) ∙ test) (number ∙ ap number_in front) (sym (ap power_of_unit behind) ∙ power) scaled
