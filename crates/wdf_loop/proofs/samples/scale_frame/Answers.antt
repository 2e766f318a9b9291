use Rattle.std.proofs.Common.{◌*◌, ◌<◌, ◌≤◌, arith}
use Rattle.wdf_loop.proofs.samples.scale_frame.Goals as goal

pub scale_row-requires : goal.scale_row-requires
scale_row-requires g c =
    let runs : g.row.C ≤ 8 = c.requires.runs in
    let size : g.row.C * 8 < 9223372036854775808 = omega arith in
    let h : c.loop-i.i < c.args.sources = c.loop-i-test.true in
    (size, (c.requires.guard, (c.requires.amplitude, λ c' few. c.requires.inside c.loop-i.i c' h few)))
