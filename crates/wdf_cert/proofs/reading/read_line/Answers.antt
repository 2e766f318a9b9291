use Rattle.std.proofs.Common.{◌≡◌, ℕ, List, [], ◌∷◌, ◌++◌, sym, ap, ◌∙◌, subst}
use Rattle.std.proofs.lemmas.Result.{err_from_is_err_and}
use Rattle.wdf_cert.specs.Scanning.{ReadsLine}
use Rattle.wdf_cert.proofs.ReadingLemmas.{line_fails_end, line_reads}
use Rattle.wdf_cert.proofs.reading.read_line.Goals as goal

pub returns-in_err-next : goal.returns-in_err-next
returns-in_err-next c =
    let p = err_from_is_err_and c.from_residual-in_err-next.result c.from_residual-in_err-next.ensures.1 in
    rw (p.1, p.2) (line_fails_end c.args.n c.args.text.now c.in_ok-others.others.values.items c.args.at c.in_ok-first.first.next c.in_ok-others.others.next c.in_ok-first.first.value
    c.in_err-next.field-0.0 c.requires.some c.in_ok-first.ensures c.in_ok-others.ensures c.in_err-next.ensures)

pub returns : goal.returns
returns c =
    let v = c.in_ok-first.first.value in
    let others = c.in_ok-others.others.values.items in
    let pushed : c.push.new.self.items ≡ v ∷ [] = c.in_ok-push.ensures.items ∙ ap (λ (ns : List ℕ). ns ++ v ∷ []) c.new-values.ensures.items in
    let items : c.extend_from_slice.new.self.items ≡ v ∷ others =
    c.in_ok-extend_from_slice.ensures.items ∙ (λ i. pushed i ++ c.deref.ensures.value i) in
    subst (λ (ns : List ℕ). ReadsLine c.args.n ns c.args.text.now c.args.at c.in_ok-next.next) (sym items)
    (line_reads c.args.n c.args.text.now others c.args.at c.in_ok-first.first.next c.in_ok-others.others.next c.in_ok-next.next v
    c.requires.some c.in_ok-first.ensures c.in_ok-others.ensures c.in_ok-next.ensures)
