use Rattle.std.proofs.Common.{◌≡◌, ◌*◌, ◌%◌, ◌<◌, ℕ, length, ap, sym, ◌∙◌, arith}
use Rattle.std.proofs.lemmas.List.{length-map, get_or-map}
use Rattle.wdf_residue.specs.Residue.{prime}
use Rattle.wdf_residue.specs.Matrix.{entry, entry_at, column_of}
use Rattle.wdf_residue.proofs.VectorLemmas.{dot_step}
use Rattle.wdf_residue.proofs.products.weighed.Goals as goal

pub loop-at-preserved : goal.loop-at-preserved
loop-at-preserved c =
    let ys = column_of c.args.matrix.now.rows c.args.numbers.now c.args.col in
    let long = length-map c.args.numbers.now (λ (r : ℕ). entry_at c.args.matrix.now.rows r c.args.col) in
    let within : c.loop-at.at < length c.args.numbers.now = c.loop-at-test.true in
    let first : c.loop-at.at < length c.args.weights.now = let e = c.requires.count in omega arith in
    let second : c.loop-at.at < length (column_of c.args.matrix.now.rows c.args.numbers.now c.args.col) = omega arith in
    let named = get_or-map (λ (r : ℕ). entry_at c.args.matrix.now.rows r c.args.col) c.args.numbers.now c.loop-at.at 0 0 within in
    let product : c.times.result ≡ (entry c.args.weights.now c.loop-at.at * entry (column_of c.args.matrix.now.rows c.args.numbers.now c.args.col) c.loop-at.at) % prime =
    c.times.ensures.value ∙ ap (λ (x : ℕ). (entry c.args.weights.now c.loop-at.at * x) % prime) (c.at-entry.ensures.value ∙ sym named) in
    record {
      below = c.plus-sum.ensures.residue;
      value = dot_step c.args.weights.now (column_of c.args.matrix.now.rows c.args.numbers.now c.args.col) c.loop-at.at c.loop-at.sum c.times.result c.plus-sum.result
          first second c.loop-at.invariant.value product c.plus-sum.ensures.value;
    }
