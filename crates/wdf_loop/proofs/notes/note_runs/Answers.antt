use Rattle.std.proofs.Common.{◌≡◌, ◌+◌, ◌*◌, ◌<◌, ◌≤◌, length, map, sym, subst, arith}
use Rattle.wdf_law.specs.Network.{Network, absorbing_numbers, elements, source_numbers}
use Rattle.wdf_loop.proofs.NoteLemmas.{keeps_more, noted_more, room_next}
use Rattle.wdf_loop.proofs.notes.note_runs.Goals as goal

pub overflow_add-first : goal.overflow_add-first
overflow_add-first g c = let small = c.loop-c-test.true in let few = c.requires.places in record { fits = omega (arith, small, few) }

pub note_run-requires : goal.note_run-requires
note_run-requires g c =
    let small : c.loop-c.c < g.row.C = c.loop-c-test.true in
    let keeps = c.loop-c.invariant.accounts in
    let net = sym keeps.net in
    let channel : c.args.first + c.loop-c.c < length c.loop-c.ledger.accounts = omega (arith, small, c.requires.accounts, keeps.count) in
    let each : length c.args.every.now ≡ length (elements c.loop-c.ledger.net) = subst (λ (n : Network). length c.args.every.now ≡ length (elements n)) net c.requires.each in
    let values : length c.args.values.now ≡ c.args.count * length (source_numbers c.loop-c.ledger.net) = subst (λ (n : Network). length c.args.values.now ≡ c.args.count * length (source_numbers n)) net c.requires.values in
    let waves : length c.args.waves.now ≡ c.args.count * length (absorbing_numbers c.loop-c.ledger.net) = subst (λ (n : Network). length c.args.waves.now ≡ c.args.count * length (absorbing_numbers n)) net c.requires.waves in
    let room = room_next c.loop-c.c c.args.first c.args.count c.args.values.now c.args.waves.now c.args.ledger.now c.loop-c.ledger keeps (c.requires.room c.loop-c.c small) in
    let runs : g.row.C ≤ 8 = c.requires.runs in
    let size : g.row.C * 8 < 9223372036854775808 = omega arith in
    (size, (runs, (small, (c.requires.some, (channel, (c.requires.few, (each, (c.requires.inside, (values, (waves, room))))))))))

pub loop-c-preserved : goal.loop-c-preserved
loop-c-preserved g c = record {
  accounts = keeps_more c.loop-c.c c.args.first c.args.ledger.now c.loop-c.ledger c.note_run.new.ledger c.loop-c.invariant.accounts c.note_run.ensures.accounts;
  notes = noted_more c.loop-c.c c.args.first c.args.count c.args.every.now (map g.R.RunRow.cells c.args.cells.now) c.args.values.now c.args.waves.now c.args.ledger.now c.loop-c.ledger c.note_run.new.ledger c.loop-c.invariant.accounts
      c.note_run.ensures.accounts c.loop-c.invariant.notes c.note_run.ensures.notes;
}
