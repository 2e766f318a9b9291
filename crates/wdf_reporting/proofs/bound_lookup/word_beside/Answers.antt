use Rattle.std.proofs.Common.{◌≡◌, ℕ, false, List, length, get_or, Some, sym, ap, ◌∙◌, arith}
use Rattle.wdf_reporting.proofs.LeafLemmas.{length-bounds, word_found}
use Rattle.wdf_reporting.proofs.bound_lookup.word_beside.Goals as goal

pub bounds-words-i : goal.bounds-words-i
bounds-words-i c =
    let same : length c.args.words.now ≡ length c.args.ports.now = ap length c.requires.words ∙ length-bounds c.args.plan.now c.args.ports.now in
    omega (arith, same)

pub returns-then-ports-i-2 : goal.returns-then-ports-i-2
returns-then-ports-i-2 c =
    word_found c.args.plan.now c.args.ports.now c.args.elem c.loop-i.i (record { elem = 0; leaf = false; ratio = 0 }) c.loop-i-test.true c.if-ports-i.true c.if-ports-i-2.true c.loop-i.invariant
    ∙ ap (λ (words : List ℕ). Some (get_or words c.loop-i.i 0)) (sym c.requires.words)
