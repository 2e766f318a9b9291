use Rattle.std.proofs.Common.{sym, subst}
use Rattle.std.proofs.KnownBytes.{Keeps-refl}
use Rattle.std.specs.Prelude.{IfErr}
use Rattle.std.specs.Io.KnownBytes.{Appends}
use Rattle.wdf_io.specs.Moved.{AppendsPart}
use Rattle.wdf.specs.declared.soaking_stop.SoakingStop.TheVariants.{Write}
use Rattle.wdf.specs.SoakAnswer.{SoakStops}
use Rattle.wdf.specs.World.{world}
use Rattle.wdf.proofs.Handed.{handed_on}
use Rattle.wdf.proofs.soaking.soak_order.Goals as goal

-- the write failed
pub returns-in_err-put_all-clause-refused : goal.returns-in_err-put_all-clause-refused
returns-in_err-put_all-clause-refused g c words files left noted =
    let old = g.O.Sink.written c.args.out.now in
    let now = g.O.Sink.written c.put_all.new.sink in
    let same = handed_on c.from_residual-in_err-put_all.result Write c.from_residual-in_err-put_all.ensures.0 c.from_residual-in_err-put_all.ensures.1 in
    subst (λ r. IfErr r (SoakStops (world words files left left old now noted noted) c.args.order.now)) (sym same)
    (record {
      text = c.in_ok-text.text.items;
      soaked = c.in_ok-text.ensures.soaked;
      input = Keeps-refl left;
      output = subst (AppendsPart old now) c.deref.ensures.value c.in_err-put_all.ensures.part;
      note = Keeps-refl noted;
    })

-- the summary is written
pub returns-clause-done : goal.returns-clause-done
returns-clause-done g c words files left noted =
    let old = g.O.Sink.written c.args.out.now in
    let now = g.O.Sink.written c.put_all.new.sink in
    record {
      text = c.in_ok-text.text.items;
      soaked = c.in_ok-text.ensures.soaked;
      input = Keeps-refl left;
      output = subst (Appends old now) c.deref.ensures.value c.in_ok-put_all.ensures.whole;
      note = Keeps-refl noted;
    }
