use Rattle.std.proofs.Common.{rules, ◌≡◌, ℕ, ◌+◌, ◌*◌, ◌<◌, ◌≤◌, ◌^◌, List, length, map, sym, ◌∙◌, subst, arith}
use Rattle.wdf_law.specs.Network.{Network, absorbing_numbers, elements, source_numbers}
use Rattle.wdf_law.specs.OutputRule.{scaled_up}
use Rattle.wdf_law.specs.TreeRules.{HasNumbers}
use Rattle.wdf_energy.specs.Blocks.{FollowsBlocks}
use Rattle.wdf_energy.specs.LedgerLaws.{FollowsFrames}
use Rattle.wdf_loop.specs.declared.part.Part.{Part}
use Rattle.wdf_loop.specs.Advances.{root_of}
use Rattle.wdf_loop.specs.Blocks.{frame_values}
use Rattle.wdf_loop.specs.Inputs.{HoldFrames}
use Rattle.wdf_loop.specs.Parts.{AreParts, HasParts, absorbing_at}
use Rattle.wdf_loop.specs.RunFrames.{samples_of}
use Rattle.wdf_loop.proofs.GoingLemmas.{all_at, all_going, all_on, hold_on, loads_small, parts_within, rooms}
use Rattle.wdf_loop.proofs.GroupLemmas.{allowed, values_are}
use Rattle.wdf_loop.proofs.MapLemmas.{map-length}
use Rattle.wdf_loop.proofs.group.group_block.Goals as goal

pub advance-requires : goal.advance-requires
advance-requires g c =
    let s = c.args.schedule.now in
    let layout = c.args.layout.now in
    let sources : c.len.result ≡ length c.args.layout.now.feeds.items = let long = c.len.ensures in omega arith in
    let hold = subst (λ (n : ℕ). HoldFrames g.row.C c.args.plan.now.guard c.args.all c.args.first n c.args.count c.args.samples.now c.scale_block.new.rows) sources
    (subst (λ (n : ℕ). HoldFrames g.row.C n c.args.all c.args.first c.len.result c.args.count c.args.samples.now c.scale_block.new.rows) c.guard-guard.ensures.value c.scale_block.ensures) in
    let kept : length c.scale_block.new.rows ≡ length c.args.values.now = search rules in
    let rows : length c.scale_block.new.rows ≡ c.args.count * length c.args.layout.now.feeds.items = kept ∙ c.requires.values in
    let small = allowed g.row.C c.args.plan.now c.args.all c.args.first (length c.args.layout.now.feeds.items) c.args.count c.args.samples.now c.scale_block.new.rows hold rows c.requires.amplitude in
    let parts = subst (AreParts s (root_of layout.shares.items) layout.marks.items (length (absorbing_numbers s.net)) (absorbing_at s.net)) (sym c.deref.ensures.value) c.requires.parts.absorb in
    let waves : length c.args.waves.now ≡ c.args.count * length c.deref.result.now = c.requires.waves ∙ (λ i. c.args.count * length (sym c.deref.ensures.value i)) in
    let runs : g.row.C ≤ 8 = c.requires.runs in
    let one : g.row.C * 8 < 9223372036854775808 = omega arith in
    (one, (runs, (c.requires.fits, (c.requires.layout, (c.requires.stages, (parts, (rows, (waves, (small, (c.requires.frames, c.requires.at))))))))))

pub give_block-requires : goal.give_block-requires
give_block-requires g c =
    let s = c.args.schedule.now in
    let layout = c.args.layout.now in
    let sources : c.len.result ≡ length c.args.layout.now.feeds.items = let long = c.len.ensures in omega arith in
    let hold = subst (λ (n : ℕ). HoldFrames g.row.C c.args.plan.now.guard c.args.all c.args.first n c.args.count c.args.samples.now c.scale_block.new.rows) sources
    (subst (λ (n : ℕ). HoldFrames g.row.C n c.args.all c.args.first c.len.result c.args.count c.args.samples.now c.scale_block.new.rows) c.guard-guard.ensures.value c.scale_block.ensures) in
    let kept : length c.scale_block.new.rows ≡ length c.args.values.now = search rules in
    let rows : length c.scale_block.new.rows ≡ c.args.count * length c.args.layout.now.feeds.items = kept ∙ c.requires.values in
    let small = allowed g.row.C c.args.plan.now c.args.all c.args.first (length c.args.layout.now.feeds.items) c.args.count c.args.samples.now c.scale_block.new.rows hold rows c.requires.amplitude in
    let numbers = subst HasNumbers c.net-net.ensures c.numbers.ensures in
    let cells : length c.advance.new.cells ≡ length c.args.cells.now = search rules in
    let going = all_going g.row.C c.args.first s c.args.plan.now c.args.done c.args.count layout.shares.items layout.marks.items layout.chains.items layout.feeds.items (map g.R.RunRow.cells c.args.cells.now) (map g.R.RunRow.cells c.advance.new.cells) c.scale_block.new.rows
    c.advance.new.waves c.requires.layout c.rules.ensures numbers c.values.ensures (map-length g.R.RunRow.cells c.args.cells.now ∙ c.requires.stages) (map-length g.R.RunRow.cells c.advance.new.cells ∙ (cells ∙ c.requires.stages)) rows c.requires.frame c.requires.frames small c.requires.at c.advance.ensures in
    let count = c.requires.parts.absorb.count_is in
    let width : c.len-2.result ≡ length (absorbing_numbers c.args.schedule.now.net) = let long = c.len-2.ensures in omega (arith, long, count) in
    let same : length c.advance.new.waves ≡ length c.args.waves.now = search rules in
    let waves : length c.advance.new.waves ≡ c.args.count * c.len-2.result = same ∙ (c.requires.waves ∙ (λ i. c.args.count * (count ∙ sym width) i)) in
    let inside : c.args.outlet.place < c.len-2.result = let own = c.requires.outlet.inside in omega (arith, own, width) in
    let runs : g.row.C ≤ 8 = c.requires.runs in
    let one : g.row.C * 8 < 9223372036854775808 = omega arith in (
      one,
      (
        runs,
        (
          c.requires.within,
          (
            inside,
            (
              waves,
              (
                c.requires.places,
                loads_small g.row.C c.args.first s c.args.plan.now c.args.done c.args.count layout.shares.items layout.marks.items layout.chains.items layout.feeds.items (map g.R.RunRow.cells c.args.cells.now) (map g.R.RunRow.cells c.advance.new.cells) c.scale_block.new.rows
                    c.advance.new.waves going c.args.parts.now.every.items c.args.parts.now.absorbing.items c.args.outlet c.len-2.result c.requires.parts c.requires.outlet width,
              ),
            ),
          ),
        ),
      ),
    )

pub note_runs-requires : goal.note_runs-requires
note_runs-requires g c =
    let s = c.args.schedule.now in
    let layout = c.args.layout.now in
    let sources : c.len.result ≡ length c.args.layout.now.feeds.items = let long = c.len.ensures in omega arith in
    let hold = subst (λ (n : ℕ). HoldFrames g.row.C c.args.plan.now.guard c.args.all c.args.first n c.args.count c.args.samples.now c.scale_block.new.rows) sources
    (subst (λ (n : ℕ). HoldFrames g.row.C n c.args.all c.args.first c.len.result c.args.count c.args.samples.now c.scale_block.new.rows) c.guard-guard.ensures.value c.scale_block.ensures) in
    let kept : length c.scale_block.new.rows ≡ length c.args.values.now = search rules in
    let rows : length c.scale_block.new.rows ≡ c.args.count * length c.args.layout.now.feeds.items = kept ∙ c.requires.values in
    let small = allowed g.row.C c.args.plan.now c.args.all c.args.first (length c.args.layout.now.feeds.items) c.args.count c.args.samples.now c.scale_block.new.rows hold rows c.requires.amplitude in
    let numbers = subst HasNumbers c.net-net.ensures c.numbers.ensures in
    let cells : length c.advance.new.cells ≡ length c.args.cells.now = search rules in
    let going = all_going g.row.C c.args.first s c.args.plan.now c.args.done c.args.count layout.shares.items layout.marks.items layout.chains.items layout.feeds.items (map g.R.RunRow.cells c.args.cells.now) (map g.R.RunRow.cells c.advance.new.cells) c.scale_block.new.rows
    c.advance.new.waves c.requires.layout c.rules.ensures numbers c.values.ensures (map-length g.R.RunRow.cells c.args.cells.now ∙ c.requires.stages) (map-length g.R.RunRow.cells c.advance.new.cells ∙ (cells ∙ c.requires.stages)) rows c.requires.frame c.requires.frames small c.requires.at c.advance.ensures in
    let net = c.requires.ledger.net in
    let parts = subst (λ (ps : List Part). HasParts s (root_of layout.shares.items) layout.marks.items ps c.args.parts.now.absorbing.items) (sym c.deref-2.ensures.value) c.requires.parts in
    let every : length c.deref-2.result.now ≡ length (elements c.args.schedule.now.net) = parts.all.count_is in
    let each : length c.deref-2.result.now ≡ length (elements c.args.ledger.now.net) = every ∙ (λ i. length (elements (sym net i))) in
    let most : length (elements c.args.schedule.now.net) ≤ 128 = subst (λ (n : Network). length (elements n) ≤ 128) c.net-net.ensures c.rules-3.ensures.most in
    let few : length c.deref-2.result.now ≤ 128 = omega (arith, every, most) in
    let same : length c.advance.new.waves ≡ length c.args.waves.now = search rules in
    let count = c.requires.parts.absorb.count_is in
    let waves : length c.advance.new.waves ≡ c.args.count * length (absorbing_numbers c.args.ledger.now.net) = same ∙ (c.requires.waves ∙ (λ i. c.args.count * (count ∙ (λ t. length (absorbing_numbers (sym net t)))) i)) in
    let values : length c.scale_block.new.rows ≡ c.args.count * length (source_numbers c.args.ledger.now.net) = rows ∙ (λ i. c.args.count * (c.requires.layout.feeds_count ∙ (λ t. length (source_numbers (sym net t)))) i) in
    let blocks = subst (λ (n : Network). FollowsBlocks n c.args.plan.now) c.net-net.ensures c.blocks_followed.ensures in
    let within = c.requires.within in
    let all = c.ranges.all.fits in
    let places : c.args.first + g.row.C < 2 ^ 64 = omega (arith, within, all) in
    let runs : g.row.C ≤ 8 = c.requires.runs in
    let one : g.row.C * 8 < 9223372036854775808 = omega arith in (
      one,
      (
        runs,
        (
          c.requires.frame,
          (
            places,
            (
              c.requires.ledger.inside,
              (
                few,
                (
                  each,
                  (
                    parts_within s layout.shares.items layout.marks.items layout.chains.items layout.feeds.items c.deref-2.result.now c.args.parts.now.absorbing.items (length c.advance.new.cells) c.requires.layout parts (cells ∙ c.requires.stages),
                    (
                      values,
                      (
                        waves,
                        rooms g.row.C c.args.first s c.args.plan.now c.args.done c.args.count layout.shares.items layout.marks.items layout.chains.items layout.feeds.items (map g.R.RunRow.cells c.args.cells.now) (map g.R.RunRow.cells c.advance.new.cells) c.scale_block.new.rows
                            c.advance.new.waves going c.args.ledger.now blocks c.requires.ledger,
                      ),
                    ),
                  ),
                ),
              ),
            ),
          ),
        ),
      ),
    )

pub returns-clause-at : goal.returns-clause-at
returns-clause-at g c =
    let s = c.args.schedule.now in
    let layout = c.args.layout.now in
    let sources : c.len.result ≡ length c.args.layout.now.feeds.items = let long = c.len.ensures in omega arith in
    let hold = subst (λ (n : ℕ). HoldFrames g.row.C c.args.plan.now.guard c.args.all c.args.first n c.args.count c.args.samples.now c.scale_block.new.rows) sources
    (subst (λ (n : ℕ). HoldFrames g.row.C n c.args.all c.args.first c.len.result c.args.count c.args.samples.now c.scale_block.new.rows) c.guard-guard.ensures.value c.scale_block.ensures) in
    let kept : length c.scale_block.new.rows ≡ length c.args.values.now = search rules in
    let rows : length c.scale_block.new.rows ≡ c.args.count * length c.args.layout.now.feeds.items = kept ∙ c.requires.values in
    let small = allowed g.row.C c.args.plan.now c.args.all c.args.first (length c.args.layout.now.feeds.items) c.args.count c.args.samples.now c.scale_block.new.rows hold rows c.requires.amplitude in
    let numbers = subst HasNumbers c.net-net.ensures c.numbers.ensures in
    let cells : length c.advance.new.cells ≡ length c.args.cells.now = search rules in
    let going = all_going g.row.C c.args.first s c.args.plan.now c.args.done c.args.count layout.shares.items layout.marks.items layout.chains.items layout.feeds.items (map g.R.RunRow.cells c.args.cells.now) (map g.R.RunRow.cells c.advance.new.cells) c.scale_block.new.rows
    c.advance.new.waves c.requires.layout c.rules.ensures numbers c.values.ensures (map-length g.R.RunRow.cells c.args.cells.now ∙ c.requires.stages) (map-length g.R.RunRow.cells c.advance.new.cells ∙ (cells ∙ c.requires.stages)) rows c.requires.frame c.requires.frames small c.requires.at c.advance.ensures in
    all_at g.row.C c.args.first s c.args.plan.now c.args.done c.args.count layout.shares.items layout.marks.items layout.chains.items layout.feeds.items (map g.R.RunRow.cells c.args.cells.now) (map g.R.RunRow.cells c.advance.new.cells) c.scale_block.new.rows
    c.advance.new.waves going

pub returns-clause-on : goal.returns-clause-on
returns-clause-on g c =
    let s = c.args.schedule.now in
    let layout = c.args.layout.now in
    let sources : c.len.result ≡ length c.args.layout.now.feeds.items = let long = c.len.ensures in omega arith in
    let hold = subst (λ (n : ℕ). HoldFrames g.row.C c.args.plan.now.guard c.args.all c.args.first n c.args.count c.args.samples.now c.scale_block.new.rows) sources
    (subst (λ (n : ℕ). HoldFrames g.row.C n c.args.all c.args.first c.len.result c.args.count c.args.samples.now c.scale_block.new.rows) c.guard-guard.ensures.value c.scale_block.ensures) in
    let kept : length c.scale_block.new.rows ≡ length c.args.values.now = search rules in
    let rows : length c.scale_block.new.rows ≡ c.args.count * length c.args.layout.now.feeds.items = kept ∙ c.requires.values in
    let small = allowed g.row.C c.args.plan.now c.args.all c.args.first (length c.args.layout.now.feeds.items) c.args.count c.args.samples.now c.scale_block.new.rows hold rows c.requires.amplitude in
    let numbers = subst HasNumbers c.net-net.ensures c.numbers.ensures in
    let cells : length c.advance.new.cells ≡ length c.args.cells.now = search rules in
    let going = all_going g.row.C c.args.first s c.args.plan.now c.args.done c.args.count layout.shares.items layout.marks.items layout.chains.items layout.feeds.items (map g.R.RunRow.cells c.args.cells.now) (map g.R.RunRow.cells c.advance.new.cells) c.scale_block.new.rows
    c.advance.new.waves c.requires.layout c.rules.ensures numbers c.values.ensures (map-length g.R.RunRow.cells c.args.cells.now ∙ c.requires.stages) (map-length g.R.RunRow.cells c.advance.new.cells ∙ (cells ∙ c.requires.stages)) rows c.requires.frame c.requires.frames small c.requires.at c.advance.ensures in
    let parts = subst (λ (ps : List Part). HasParts s (root_of layout.shares.items) layout.marks.items ps c.args.parts.now.absorbing.items) (sym c.deref-2.ensures.value) c.requires.parts in
    let count = c.requires.parts.absorb.count_is in
    let width : c.len-2.result ≡ length (absorbing_numbers c.args.schedule.now.net) = let long = c.len-2.ensures in omega (arith, long, count) in
    let frames = subst (λ (n : Network). FollowsFrames n c.args.plan.now) c.net-net.ensures c.frames_followed.ensures in
    all_on g.row.C c.args.first s c.args.plan.now c.args.done c.args.count layout.shares.items layout.marks.items layout.chains.items layout.feeds.items (map g.R.RunRow.cells c.args.cells.now) (map g.R.RunRow.cells c.advance.new.cells) c.scale_block.new.rows
    c.advance.new.waves going c.deref-2.result.now c.args.parts.now.absorbing.items c.args.ledger.now c.note_runs.new.ledger parts c.requires.ledger c.note_runs.ensures.notes c.args.outlet c.args.all c.len-2.result
    c.args.samples.now c.give_block.new.output c.requires.outlet frames width
    (λ f k h few. subst (λ (n : ℕ). frame_values (length layout.feeds.items) c.scale_block.new.rows f k ≡ map (scaled_up c.args.plan.now.guard) (samples_of c.args.all n (c.args.first + k) f c.args.samples.now)) c.requires.layout.feeds_count
    (values_are g.row.C c.args.plan.now.guard c.args.all c.args.first (length layout.feeds.items) c.args.count c.args.samples.now c.scale_block.new.rows hold c.requires.within rows c.requires.each f k h few))
    c.give_block.ensures.waves

pub returns-clause-ledger : goal.returns-clause-ledger
returns-clause-ledger g c =
    let s = c.args.schedule.now in
    let layout = c.args.layout.now in
    let sources : c.len.result ≡ length c.args.layout.now.feeds.items = let long = c.len.ensures in omega arith in
    let hold = subst (λ (n : ℕ). HoldFrames g.row.C c.args.plan.now.guard c.args.all c.args.first n c.args.count c.args.samples.now c.scale_block.new.rows) sources
    (subst (λ (n : ℕ). HoldFrames g.row.C n c.args.all c.args.first c.len.result c.args.count c.args.samples.now c.scale_block.new.rows) c.guard-guard.ensures.value c.scale_block.ensures) in
    let kept : length c.scale_block.new.rows ≡ length c.args.values.now = search rules in
    let rows : length c.scale_block.new.rows ≡ c.args.count * length c.args.layout.now.feeds.items = kept ∙ c.requires.values in
    let small = allowed g.row.C c.args.plan.now c.args.all c.args.first (length c.args.layout.now.feeds.items) c.args.count c.args.samples.now c.scale_block.new.rows hold rows c.requires.amplitude in
    let numbers = subst HasNumbers c.net-net.ensures c.numbers.ensures in
    let cells : length c.advance.new.cells ≡ length c.args.cells.now = search rules in
    let going = all_going g.row.C c.args.first s c.args.plan.now c.args.done c.args.count layout.shares.items layout.marks.items layout.chains.items layout.feeds.items (map g.R.RunRow.cells c.args.cells.now) (map g.R.RunRow.cells c.advance.new.cells) c.scale_block.new.rows
    c.advance.new.waves c.requires.layout c.rules.ensures numbers c.values.ensures (map-length g.R.RunRow.cells c.args.cells.now ∙ c.requires.stages) (map-length g.R.RunRow.cells c.advance.new.cells ∙ (cells ∙ c.requires.stages)) rows c.requires.frame c.requires.frames small c.requires.at c.advance.ensures in
    let parts = subst (λ (ps : List Part). HasParts s (root_of layout.shares.items) layout.marks.items ps c.args.parts.now.absorbing.items) (sym c.deref-2.ensures.value) c.requires.parts in
    let blocks = subst (λ (n : Network). FollowsBlocks n c.args.plan.now) c.net-net.ensures c.blocks_followed.ensures in
    hold_on g.row.C c.args.first s c.args.plan.now c.args.done c.args.count layout.shares.items layout.marks.items layout.chains.items layout.feeds.items (map g.R.RunRow.cells c.args.cells.now) (map g.R.RunRow.cells c.advance.new.cells) c.scale_block.new.rows
    c.advance.new.waves going c.deref-2.result.now c.args.parts.now.absorbing.items c.args.ledger.now c.note_runs.new.ledger parts c.requires.ledger c.note_runs.ensures.notes blocks c.note_runs.ensures.accounts
