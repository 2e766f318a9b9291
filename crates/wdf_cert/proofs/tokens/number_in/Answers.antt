use Rattle.std.proofs.Common.{◌≡◌, sym, ◌∙◌}
use Rattle.std.specs.Prelude.{decimal}
use Rattle.std.proofs.lemmas.Slice.Eq.{bytes_eq-Decides}
use Rattle.wdf_cert.proofs.TakenTokens.{digits_other}
use Rattle.wdf_cert.proofs.tokens.number_in.Goals as goal

pub returns-else-eq : goal.returns-else-eq
returns-else-eq c =
    let word = c.args.word.now in
    let n = c.in_ok-n.n in
    let written : c.as_bytes.result.now ≡ decimal n = c.as_bytes.ensures.value ∙ c.format.ensures.text in
    let other : word ≡ decimal n → ⊥ =
    λ same. absurd (let both = c.if-eq.ensures ∙ (bytes_eq-Decides word c.as_bytes.result.now).1 (same ∙ sym written) in cc) in
    digits_other word n c.in_ok-n.ensures.0 other
