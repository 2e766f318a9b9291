use Rattle.std.proofs.Common.{◌≡◌, ◌-◌, take, drop, sym, ◌∙◌}
use Rattle.std.proofs.lemmas.Slice.Eq.{bytes_eq-Decides}
use Rattle.wdf_cert.proofs.TakenTokens.{word_taken, word_missed}
use Rattle.wdf_cert.proofs.tokens.take_word.Goals as goal

pub returns-then-eq : goal.returns-then-eq
returns-then-eq c =
    let word = take (c.word_end-end.result - c.args.at) (drop c.args.at c.args.text.now) in
    let same : word ≡ c.args.want.now = (bytes_eq-Decides word c.args.want.now).0 (sym c.if-eq.ensures) in
    word_taken c.args.text.now c.args.want.now c.args.at c.word_end-end.result c.word_end-end.ensures.order c.word_end-end.ensures.within same c.word_end-end.ensures.end

pub returns-else-eq : goal.returns-else-eq
returns-else-eq c =
    let word = take (c.word_end-end.result - c.args.at) (drop c.args.at c.args.text.now) in
    let other : word ≡ c.args.want.now → ⊥ = λ same. absurd (let both = c.if-eq.ensures ∙ (bytes_eq-Decides word c.args.want.now).1 same in cc) in
    word_missed c.args.text.now c.args.want.now c.args.at c.word_end-end.result c.word_end-end.ensures.order c.word_end-end.ensures.bytes c.requires.bytes c.word_end-end.ensures.end other
