use Rattle.std.proofs.Common.{[], ◌∷◌, ◌++◌, sym, ◌∙◌, arith}
use Rattle.std.proofs.lemmas.List.FromFn.{map-range_with_len_more}
use Rattle.wdf_loop.specs.Rows.{share_in}
use Rattle.wdf_loop.proofs.row.shares.Goals as goal

pub loop-i-preserved : goal.loop-i-preserved
loop-i-preserved c =
    c.in_ok-push.ensures.items
    ∙ ((λ t. c.loop-i.invariant t ++ c.share_at.ensures t ∷ []) ∙ sym (map-range_with_len_more (share_in c.args.schedule.now) 0 c.loop-i.i c.loop-i.i (omega arith)))
