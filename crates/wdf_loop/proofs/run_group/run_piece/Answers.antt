use Rattle.std.proofs.Common.{◌≡◌, ◌*◌, ◌<◌, ◌≤◌, length, map, sym, ◌∙◌, arith}
use Rattle.wdf_loop.proofs.MapLemmas.{map-length}
use Rattle.wdf_loop.proofs.PieceLemmas.{few_places, room_taken}
use Rattle.wdf_loop.proofs.run_group.run_piece.Goals as goal

pub group_block-requires : goal.group_block-requires
group_block-requires g c =
    let runs : g.row.C ≤ 8 = c.requires.runs in
    let one : g.row.C * 8 < 9223372036854775808 = omega arith in
    let t = c.args.setting.now in
    let set = c.requires.setting in
    let piece = c.requires.piece in
    let at = c.requires.at in
    let sources : c.len-sources.result ≡ length t.layout.feeds.items = let long = c.len-sources.ensures in omega arith in
    let absorbing : c.len-absorbing.result ≡ length t.parts.absorbing.items = let long = c.len-absorbing.ensures in omega arith in
    let few = few_places c.args.count t.piece c.args.all piece.most set.few piece.few in
    let values = room_taken c.args.count t.piece c.len-sources.result (length t.layout.feeds.items) c.args.values.now piece.most sources at.value_rows in
    let waves = room_taken c.args.count t.piece c.len-absorbing.result (length t.parts.absorbing.items) c.args.waves.now piece.most absorbing at.wave_rows in
    let stages : length c.args.cells.now ≡ length t.layout.shares.items = sym (map-length g.R.RunRow.cells c.args.cells.now) ∙ at.stages in
    (one, (c.requires.some, (runs, (c.requires.within, (set.fits, (set.layout, (stages, (set.parts, (set.outlet, (piece.some, (few, (piece.each, (piece.amplitude, (values, (waves, (piece.places, (piece.frames, (at.at, c.requires.ledger))))))))))))))))))
