use Rattle.std.proofs.Common.{◌≡◌, ◌+◌, ◌-◌, ◌*◌, ◌<◌, ◌≤◌, length, map, ap, sym, ◌∙◌, subst, arith}
use Rattle.wdf_law.specs.Laws.{HasOneStep}
use Rattle.wdf_law.specs.Network.{Network}
use Rattle.wdf_law.specs.TreeRules.{HasNumbers}
use Rattle.wdf_bounds.specs.HeldWords.{HoldsWords}
use Rattle.wdf_loop.specs.Advances.{root_of}
use Rattle.wdf_loop.proofs.AdvanceLemmas.{CanGoOn, fitting_words, go_on, lists_moved, lists_of, run_moved}
use Rattle.wdf_loop.proofs.InputLemmas.{are_inputs, are_small}
use Rattle.wdf_loop.proofs.advance.advance.Goals as goal

pub block_of-requires : goal.block_of-requires
block_of-requires g c =
    let s = c.args.schedule.now in
    let shares = c.args.layout.now.shares.items in
    let width : c.k.result ≡ c.args.schedule.now.net.k = c.k.ensures.value ∙ ap (λ (n : Network). n.k) c.net-net.ensures in
    let few : c.args.schedule.now.net.k ≤ 20 = let most = c.k.ensures.range.1 in omega arith in
    let count = c.requires.layout.shares_count in
    let root : c.len-root.result - 1 ≡ root_of c.args.layout.now.shares.items = let long = c.len-root.ensures in omega arith in
    let stages : length c.args.cells.now ≡ c.len-root.result - 1 + 1 = let long = c.requires.stages in omega arith in
    let can : CanGoOn c.args.schedule.now c.args.plan.now c.args.done c.args.count c.args.layout.now.shares.items c.args.layout.now.marks.items c.args.layout.now.chains.items c.args.layout.now.feeds.items c.args.absorbing.now = record {
      layout = c.requires.layout;
      words = fitting_words c.args.schedule.now c.args.plan.now c.requires.fits.width few;
      parts = c.requires.parts;
      rules = c.rules.ensures;
      values = c.values.ensures;
      numbers = subst HasNumbers c.net-net.ensures c.numbers.ensures;
      one = subst HasOneStep c.net-net.ensures c.one_step.ensures;
      holds = subst (λ (n : Network). HoldsWords n c.args.plan.now) c.net-net.ensures c.every_word.ensures;
      frames = c.requires.frames;
    } in
    let lists = lists_moved g.row.C c.args.schedule.now.net.k c.k.result (root_of c.args.layout.now.shares.items) (c.len-root.result - 1) c.args.layout.now.shares.items c.deref.result.now c.args.layout.now.chains.items c.deref-2.result.now
    c.args.layout.now.feeds.items c.deref-3.result.now c.args.absorbing.now c.args.count (map g.R.RunRow.cells c.args.cells.now) c.args.values.now width root c.deref.ensures.value c.deref-2.ensures.value c.deref-3.ensures.value
    (lists_of c.args.schedule.now c.args.plan.now c.args.done c.args.count c.args.layout.now.shares.items c.args.layout.now.marks.items c.args.layout.now.chains.items c.args.layout.now.feeds.items c.args.absorbing.now g.row.C
    (map g.R.RunRow.cells c.args.cells.now) c.args.values.now can (are_inputs g.row.C c.args.schedule.now c.args.plan.now c.args.count c.args.layout.now.feeds.items c.args.values.now c.requires.allowed) c.requires.run) in
    let sources : length c.args.values.now ≡ c.args.count * length c.deref-3.result.now = c.requires.sources ∙ (λ i. c.args.count * length (sym c.deref-3.ensures.value i)) in
    let waves = c.requires.waves in
    let runs : g.row.C ≤ 8 = c.requires.runs in
    let size : g.row.C * 8 < 9223372036854775808 = omega arith in
    (size, (c.k.ensures.range.0, (c.k.ensures.range.1, (runs, (stages, (lists.each, (lists.whole, (lists.row, (lists.signs, (sources, (lists.places, (waves, (lists.inside, (are_small g.row.C c.args.plan.now c.args.values.now c.rules-2.ensures c.requires.allowed, lists.run))))))))))))))

pub returns : goal.returns
returns g c =
    let width : c.k.result ≡ c.args.schedule.now.net.k = c.k.ensures.value ∙ ap (λ (n : Network). n.k) c.net-net.ensures in
    let few : c.args.schedule.now.net.k ≤ 20 = let most = c.k.ensures.range.1 in omega arith in
    let root : c.len-root.result - 1 ≡ root_of c.args.layout.now.shares.items = let long = c.len-root.ensures in omega arith in
    let can : CanGoOn c.args.schedule.now c.args.plan.now c.args.done c.args.count c.args.layout.now.shares.items c.args.layout.now.marks.items c.args.layout.now.chains.items c.args.layout.now.feeds.items c.args.absorbing.now = record {
      layout = c.requires.layout;
      words = fitting_words c.args.schedule.now c.args.plan.now c.requires.fits.width few;
      parts = c.requires.parts;
      rules = c.rules.ensures;
      values = c.values.ensures;
      numbers = subst HasNumbers c.net-net.ensures c.numbers.ensures;
      one = subst HasOneStep c.net-net.ensures c.one_step.ensures;
      holds = subst (λ (n : Network). HoldsWords n c.args.plan.now) c.net-net.ensures c.every_word.ensures;
      frames = c.requires.frames;
    } in
    go_on c.args.schedule.now c.args.plan.now c.args.done c.args.count c.args.layout.now.shares.items c.args.layout.now.marks.items c.args.layout.now.chains.items c.args.layout.now.feeds.items c.args.absorbing.now g.row.C
    (map g.R.RunRow.cells c.args.cells.now) (map g.R.RunRow.cells c.block_of.new.rows) c.args.values.now c.block_of.new.waves can (are_inputs g.row.C c.args.schedule.now c.args.plan.now c.args.count c.args.layout.now.feeds.items c.args.values.now c.requires.allowed)
    (run_moved g.row.C c.args.schedule.now.net.k c.k.result (root_of c.args.layout.now.shares.items) (c.len-root.result - 1) c.args.layout.now.shares.items c.deref.result.now c.args.layout.now.chains.items c.deref-2.result.now
    c.args.layout.now.feeds.items c.deref-3.result.now c.args.absorbing.now c.args.count (map g.R.RunRow.cells c.args.cells.now) (map g.R.RunRow.cells c.block_of.new.rows) c.args.values.now c.block_of.new.waves width root c.deref.ensures.value c.deref-2.ensures.value
    c.deref-3.ensures.value c.block_of.ensures)
