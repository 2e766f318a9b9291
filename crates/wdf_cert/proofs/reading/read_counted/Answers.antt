use Rattle.wdf_cert.proofs.ReadingLemmas.{counted_reads}
use Rattle.wdf_cert.proofs.reading.read_counted.Goals as goal

pub returns : goal.returns
returns c =
    counted_reads c.args.text.now c.args.want.now c.in_ok-numbers.numbers.values.items c.args.least c.args.most c.args.low c.args.high c.args.at c.in_ok-next.next c.in_ok-count.count.next
    c.in_ok-numbers.numbers.next c.in_ok-next-2.next c.in_ok-count.count.value c.in_ok-next.ensures c.in_ok-count.ensures c.in_ok-numbers.ensures c.in_ok-next-2.ensures
