use Rattle.std.proofs.Common.{◌≡◌, ℕ, ◌^◌, ◌<◌, pos, length, slice_index_or, if◌then◌else◌, sym, subst, ap, ◌∙◌, arith}
use Rattle.wdf_law.specs.declared.tree.Tree.{Tree}
use Rattle.wdf_law.specs.Trees.{adaptor_tree}
use Rattle.wdf_law.specs.Network.{has_leaf}
use Rattle.wdf_residue.specs.Residue.{residue}
use Rattle.wdf_check.specs.ResidueStep.{unit_inverse, series_share, sends, reflects}
use Rattle.wdf_check.specs.Stepping.{state_of}
use Rattle.wdf_check.proofs.StepCodes.{descend_series, descend_parallel}
use Rattle.wdf_check.proofs.stepping.+descend.Goals as goal

pub returns-in-Series : goal.returns-in-Series
returns-in-Series t c = λ i less.
    let second_less : i < length c.descend.new.sent = omega arith in
    subst (λ (s : Tree). slice_index_or c.descend-in-Series.new.sent i 0
    ≡ (if has_leaf (adaptor_tree s) i then residue (sends (2 ^ c.args.k) (unit_inverse c.args.k) (state_of c.args.states.now) (adaptor_tree s) (pos c.args.d) i) else slice_index_or c.args.sent.now i 0))
    (sym c.in-Series.is)
    (descend_series (2 ^ c.args.k) (unit_inverse c.args.k) (state_of c.args.states.now) c.in-Series.m (adaptor_tree c.in-Series.l.value) (adaptor_tree c.in-Series.r.value)
    c.climb-u1.result c.climb-u2.result c.args.d c.series_share-first.result c.series_share-second.result i
    (slice_index_or c.args.sent.now i 0) (slice_index_or c.descend.new.sent i 0) (slice_index_or c.descend-in-Series.new.sent i 0)
    (c.climb-u1.ensures.value ∙ ap (λ (s : Tree). residue (reflects (2 ^ c.args.k) (unit_inverse c.args.k) (state_of c.args.states.now) (adaptor_tree s))) c.deref.ensures)
    (c.climb-u2.ensures.value ∙ ap (λ (s : Tree). residue (reflects (2 ^ c.args.k) (unit_inverse c.args.k) (state_of c.args.states.now) (adaptor_tree s))) c.deref-in-Series.ensures)
    c.series_share-first.ensures.value
    (c.series_share-second.ensures.value
    ∙ ap (λ (m : ℕ). residue (series_share (unit_inverse c.args.k) m (pos c.climb-u1.result) (pos c.climb-u2.result) (pos c.args.d) (pos c.climb-u2.result))) c.complement.ensures)
    (c.descend.ensures i less
    ∙ ap (λ (s : Tree). if has_leaf (adaptor_tree s) i then residue (sends (2 ^ c.args.k) (unit_inverse c.args.k) (state_of c.args.states.now) (adaptor_tree s) (pos c.series_share-second.result) i)
    else slice_index_or c.args.sent.now i 0) c.deref-in-Series-2.ensures)
    (c.descend-in-Series.ensures i second_less
    ∙ ap (λ (s : Tree). if has_leaf (adaptor_tree s) i then residue (sends (2 ^ c.args.k) (unit_inverse c.args.k) (state_of c.args.states.now) (adaptor_tree s) (pos c.series_share-first.result) i)
    else slice_index_or c.descend.new.sent i 0) c.deref-in-Series-3.ensures))

pub returns-in-Parallel : goal.returns-in-Parallel
returns-in-Parallel t c = λ i less.
    let second_less : i < length c.descend-in-Parallel.new.sent = omega arith in
    subst (λ (s : Tree). slice_index_or c.descend-in-Parallel-2.new.sent i 0
    ≡ (if has_leaf (adaptor_tree s) i then residue (sends (2 ^ c.args.k) (unit_inverse c.args.k) (state_of c.args.states.now) (adaptor_tree s) (pos c.args.d) i) else slice_index_or c.args.sent.now i 0))
    (sym c.in-Parallel.is)
    (descend_parallel (2 ^ c.args.k) (unit_inverse c.args.k) (state_of c.args.states.now) c.in-Parallel.m (adaptor_tree c.in-Parallel.l.value) (adaptor_tree c.in-Parallel.r.value)
    c.climb-u1-in-Parallel.result c.climb-u2-in-Parallel.result c.args.d c.mean.result c.plus-whole.result c.minus-in-Parallel.result c.minus.result i
    (slice_index_or c.args.sent.now i 0) (slice_index_or c.descend-in-Parallel.new.sent i 0) (slice_index_or c.descend-in-Parallel-2.new.sent i 0)
    (c.climb-u1-in-Parallel.ensures.value ∙ ap (λ (s : Tree). residue (reflects (2 ^ c.args.k) (unit_inverse c.args.k) (state_of c.args.states.now) (adaptor_tree s))) c.deref-in-Parallel.ensures)
    (c.climb-u2-in-Parallel.ensures.value ∙ ap (λ (s : Tree). residue (reflects (2 ^ c.args.k) (unit_inverse c.args.k) (state_of c.args.states.now) (adaptor_tree s))) c.deref-in-Parallel-2.ensures)
    c.mean.ensures.value c.plus-whole.ensures.value c.minus-in-Parallel.ensures.value c.minus.ensures.value
    (c.descend-in-Parallel.ensures i less
    ∙ ap (λ (s : Tree). if has_leaf (adaptor_tree s) i then residue (sends (2 ^ c.args.k) (unit_inverse c.args.k) (state_of c.args.states.now) (adaptor_tree s) (pos c.minus.result) i)
    else slice_index_or c.args.sent.now i 0) c.deref-in-Parallel-3.ensures)
    (c.descend-in-Parallel-2.ensures i second_less
    ∙ ap (λ (s : Tree). if has_leaf (adaptor_tree s) i then residue (sends (2 ^ c.args.k) (unit_inverse c.args.k) (state_of c.args.states.now) (adaptor_tree s) (pos c.minus-in-Parallel.result) i)
    else slice_index_or c.descend-in-Parallel.new.sent i 0) c.deref-in-Parallel-4.ensures))
