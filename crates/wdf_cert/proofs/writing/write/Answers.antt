use Rattle.std.proofs.Common.{◌≡◌, ℕ, List, [], ◌∷◌, ◌++◌, length, ap, ◌∙◌}
use Rattle.std.specs.Prelude.{decimal, codes}
use Rattle.wdf_cert.specs.CertText.{counted, number_lines}
use Rattle.wdf_cert.proofs.WritingLemmas.{whole_written}
use Rattle.wdf_cert.proofs.writing.write.Goals as goal

pub returns : goal.returns
returns c =
    let cert = c.args.cert.now in
    let head : c.push_line.new.out.items ≡ [] ++ codes "wdfcert 1" ++ 10 ∷ [] =
    c.in_ok-push_line.ensures.ok ∙ ap (λ (xs : List ℕ). xs ++ codes "wdfcert 1" ++ 10 ∷ []) c.new-out.ensures.items in
    let key = c.in_ok-push.ensures.items in
    let number = c.from.ensures ∙ c.k.ensures in
    let width : c.push_spaced.new.out.items ≡ c.push.new.self.items ++ 32 ∷ decimal cert.k =
    c.in_ok-push_spaced.ensures ∙ ap (λ (n : ℕ). c.push.new.self.items ++ 32 ∷ decimal n) number in
    let multipliers : (rest : List ℕ) → c.push_counted.new.out.items ++ rest ≡ c.push-2.new.self.items ++ counted (codes "multipliers") cert.multipliers rest =
    λ rest. c.in_ok-push_counted.ensures rest ∙ ap (λ (ns : List ℕ). c.push-2.new.self.items ++ counted (codes "multipliers") ns rest) c.multipliers.ensures in
    let rows : (rest : List ℕ) → c.push_counted-2.new.out.items ++ rest ≡ c.push_counted.new.out.items ++ counted (codes "rows") cert.rows rest =
    λ rest. c.in_ok-push_counted-2.ensures rest ∙ ap (λ (ns : List ℕ). c.push_counted.new.out.items ++ counted (codes "rows") ns rest) c.rows.ensures in
    let lines : (rest : List ℕ) → c.push_square.new.out.items ++ rest ≡ c.push_line-2.new.out.items ++ number_lines (length cert.rows) (length cert.rows) cert.inverse rest =
    λ rest. c.in_ok-push_square.ensures rest
    ∙ (λ i. c.push_line-2.new.out.items ++ number_lines (length (c.rows-2.ensures i)) (length (c.rows-2.ensures i)) (c.inverse.ensures.value i) rest) in
    whole_written c.args.cert.now c.push_line.new.out.items c.push.new.self.items c.push_spaced.new.out.items c.push-2.new.self.items c.push_counted.new.out.items c.push_counted-2.new.out.items
    c.push_line-2.new.out.items c.push_square.new.out.items c.push_line-3.new.out.items
    head key width c.in_ok-push-2.ensures.items multipliers rows c.in_ok-push_line-2.ensures.ok lines c.in_ok-push_line-3.ensures.ok
