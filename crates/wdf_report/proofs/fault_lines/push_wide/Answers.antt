use Rattle.std.proofs.Common.{length, ap, arith, length-append}
use Rattle.std.specs.Prelude.{decimal}
use Rattle.wdf_report.proofs.LengthLemmas.{wide_short}
use Rattle.wdf_report.proofs.fault_lines.push_wide.Goals as goal

pub push_u128-requires : goal.push_u128-requires
push_u128-requires c =
    let long = ap length c.push.ensures in
    let short = wide_short c.args.n (omega (arith, c.ranges.n.fits)) in
    record { room = omega (arith, c.requires.room, long, short, length-append c.args.line.now c.args.label.now) }

pub returns-clause-short : goal.returns-clause-short
returns-clause-short c =
    let first = ap length c.push.ensures in
    let second = ap length c.push_u128.ensures in
    let short = wide_short c.args.n (omega (arith, c.ranges.n.fits)) in
    omega (arith, first, second, short, length-append c.args.line.now c.args.label.now, length-append c.push.new.self (decimal c.args.n))
