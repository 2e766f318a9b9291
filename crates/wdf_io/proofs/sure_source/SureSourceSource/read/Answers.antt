use Rattle.std.proofs.Common.{◌≡◌, ◌≤◌, ◌-◌, min, length, take, drop, ap, ◌∙◌, arith, length-take-le}
use Rattle.std.proofs.lemmas.List.{take_rest}
use Rattle.wdf_io.proofs.ServedLemmas.{left-served, none-left}
use Rattle.wdf_io.proofs.sure_source.SureSourceSource.read.Goals as goal

pub returns-clause-bytes : goal.returns-clause-bytes
returns-clause-bytes c =
    let source = c.args.self.now in
    let bytes = source.bytes.items in
    let n = c.min-count.result in
    let given = c.deref.result.now in
    let rest : take (length given - source.at) (drop source.at given) ≡ drop source.at bytes =
    take_rest given source.at ∙ ap (drop source.at) c.deref.ensures.value in
    let least : n ≡ min (length c.args.buf.now) (length (drop source.at bytes)) = c.min-count.ensures ∙ ap (λ l. min (length c.args.buf.now) (length l)) rest in
    let fits : n ≤ length (drop source.at bytes) = omega arith in
    let copied = c.copy_from_slice.ensures.after ∙ ap (take n) rest in
    let long = ap length copied ∙ length-take-le n (drop source.at bytes) fits in (
      left-served bytes c.copy_from_slice.new.self (drop n c.args.buf.now) source.at n fits copied,
      none-left bytes c.args.buf.now c.copy_from_slice.new.self source.at n least long,
    )
