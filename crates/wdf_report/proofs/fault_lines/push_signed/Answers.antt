use Rattle.std.proofs.Common.{◌≡◌, length, ap, arith, rules, length-append, to_z, of_z}
use Rattle.std.specs.Fmt.{signed_decimal}
use mir.Syntax.{w128}
use Rattle.wdf_report.proofs.LengthLemmas.{widened_short}
use Rattle.wdf_report.proofs.fault_lines.push_signed.Goals as goal

pub push_i128-requires : goal.push_i128-requires
push_i128-requires c =
    let same : c.from.result ≡ c.args.n = search rules in
    let long = ap length c.push.ensures in
    let short = widened_short c.args.n c.from.result c.ranges.n same in
    record { room = omega (arith, c.requires.room, long, short, length-append c.args.line.now c.args.label.now) }

pub returns-clause-short : goal.returns-clause-short
returns-clause-short c =
    let same : c.from.result ≡ c.args.n = search rules in
    let first = ap length c.push.ensures in
    let second = ap length c.push_i128.ensures in
    let short = widened_short c.args.n c.from.result c.ranges.n same in
    omega (arith, first, second, short, length-append c.args.line.now c.args.label.now, length-append c.push.new.self (signed_decimal (to_z w128 (of_z w128 c.from.result))))
