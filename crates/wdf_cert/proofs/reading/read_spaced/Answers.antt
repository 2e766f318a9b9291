use Rattle.std.proofs.Common.{ℕ, ◌≤◌, List, length, drop, sym, ap, ◌∙◌, subst, arith}
use Rattle.std.specs.Prelude.{All}
use Rattle.std.proofs.lemmas.List.{length_push}
use Rattle.std.proofs.lemmas.List.Elements.{All-push}
use Rattle.std.proofs.lemmas.Result.{err_from_is_err_and}
use Rattle.wdf_cert.specs.CertText.{spaced}
use Rattle.wdf_cert.proofs.ReadingLemmas.{spaced_fails_blank, spaced_fails_number, spaced_carries, spaced_spelled}
use Rattle.wdf_cert.proofs.reading.read_spaced.Goals as goal

pub returns-in_err-blank : goal.returns-in_err-blank
returns-in_err-blank c =
    let p = err_from_is_err_and c.from_residual.result c.from_residual.ensures.1 in
    rw (p.1, p.2) (spaced_fails_blank c.args.count c.args.low c.args.high c.loop-i.i c.args.text.now c.args.at c.loop-i.place c.in_err-blank.field-0.0
    c.loop-i-test.true c.loop-i.invariant.carries c.in_err-blank.ensures)

pub returns-in_err-number : goal.returns-in_err-number
returns-in_err-number c =
    let p = err_from_is_err_and c.from_residual-in_err-number.result c.from_residual-in_err-number.ensures.1 in
    rw (p.1, p.2) (spaced_fails_number c.args.count c.args.low c.args.high c.loop-i.i c.args.text.now c.args.at c.loop-i.place c.in_ok-blank.blank c.in_err-number.field-0.0
    c.loop-i-test.true c.loop-i.invariant.carries c.in_ok-blank.ensures c.in_err-number.ensures)

pub loop-i-preserved : goal.loop-i-preserved
loop-i-preserved c =
    let v = c.in_ok-number.number.value in
    let items = c.in_ok-push.ensures.items in
    let count = c.loop-i.invariant.count in
    let long = ap length items ∙ length_push c.loop-i.values.items v in
    let InRange = λ (n : ℕ). (c.args.low ≤ n) × (n ≤ c.args.high) in
    record {
      within = c.in_ok-number.ensures.within;
      count = omega arith;
      range = subst (All InRange) (sym items) (All-push InRange c.loop-i.values.items v c.loop-i.invariant.range c.in_ok-number.ensures.meets.range);
      spelled = spaced_spelled c.args.low c.args.high c.args.text.now c.loop-i.values.items c.args.at c.loop-i.place c.in_ok-blank.blank c.in_ok-number.number.next v
          c.loop-i.invariant.spelled c.in_ok-blank.ensures c.in_ok-number.ensures
          ∙ ap (λ (ns : List ℕ). spaced ns (drop c.in_ok-number.number.next c.args.text.now)) (sym items);
      carries = spaced_carries c.args.count c.args.low c.args.high c.loop-i.i c.args.text.now c.args.at c.loop-i.place c.in_ok-blank.blank c.in_ok-number.number.next v
          c.loop-i-test.true c.loop-i.invariant.carries c.in_ok-blank.ensures c.in_ok-number.ensures;
    }
