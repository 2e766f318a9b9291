use Rattle.std.proofs.Common.{◌<◌, ◌≤◌, length, rules}
use Rattle.wdf_wav.proofs.StopLemmas.{short_id_stops}
use Rattle.wdf_wav.proofs.chunk_reader.take_id.Goals as goal

pub returns-in_default-clause-stop : goal.returns-in_default-clause-stop
returns-in_default-clause-stop g c =
    let count = c.in_ok-count.count in
    let read = c.in_ok-count.ensures in
    let some : 0 < count = search rules in
    let few : count < 4 = search rules in
    let within : count ≤ length c.take_exact.new.buf = search rules in
    let end : count < length c.take_exact.new.buf = search rules in
    rw c.fault-in_default.ensures
    (short_id_stops c.args.at count c.take_exact.new.buf (g.S.Source.left c.args.src.now) (g.S.Source.left c.take_exact.new.src) some few within read.bytes (read.end end))
