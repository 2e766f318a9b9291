-- One source more.
use Rattle.std.proofs.Common.{◌≡◌, rules, sym, ◌∙◌, arith, w64}
use Rattle.std.specs.Prelude.{pos, slice_set, slice_index_or}
use Rattle.std.proofs.lemmas.Int.{to_z-of_z}
use mir.Val.{SFits}
use Rattle.wdf_law.specs.OutputRule.{scaled_up}
use Rattle.wdf_tree.proofs.FedLemmas.{fed_more}
use Rattle.wdf_tree.proofs.numbers.feed.Goals as goal

pub loop-j-preserved : goal.loop-j-preserved
loop-j-preserved c =
    let ks = c.args.sources.now in
    let zs = c.args.samples.now in
    let z = slice_index_or zs c.loop-j.j (pos 0) in
    let f1 : SFits w64 c.scaled.result = record { sfits = c.scaled.type_inv } in
    let f2 : SFits w64 (slice_index_or c.args.samples.now c.loop-j.j (pos 0)) = search rules in
    let each = c.requires.each in
    let value : c.scaled.result ≡ scaled_up c.args.guard z = simp to_z-of_z at c.scaled.ensures in
    (λ i. slice_set (c.loop-j.invariant i) (slice_index_or ks c.loop-j.j 0) ((to_z-of_z w64 c.scaled.result f1 ∙ value) i))
    ∙ sym (fed_more c.args.guard ks zs c.args.inputs.now c.loop-j.j (omega arith) (omega arith))
