use Rattle.std.proofs.Common.{◌≡◌, sym, subst}
use Rattle.std.proofs.KnownBytes.{Keeps-refl}
use Rattle.std.specs.Prelude.{IfErr}
use Rattle.std.specs.Io.KnownBytes.{Appends}
use Rattle.wdf_bounds.specs.Plans.{PlanOf}
use Rattle.wdf_io.specs.Moved.{AppendsPart}
use Rattle.wdf_stages.specs.Bounding.{AreBounded, BoundRefuses}
use Rattle.wdf_reporting.specs.Findings.{IsReport}
use Rattle.wdf_words.specs.Orders.{texts}
use Rattle.wdf.specs.declared.reporting_stop.ReportingStop.TheVariants.{Bound, NoMemory, Write}
use Rattle.wdf.specs.ReportAnswer.{ReportStops, report_plan}
use Rattle.wdf.specs.World.{world}
use Rattle.wdf.proofs.Handed.{handed_on}
use Rattle.wdf.proofs.reporting.report_words.Goals as goal

-- the plan does not fit the networks
pub returns-in_err-bounds-clause-refused : goal.returns-in_err-bounds-clause-refused
returns-in_err-bounds-clause-refused g c left noted =
    let old = g.O.Sink.written c.args.out.now in
    let w = world (texts c.args.words.now) (g.H.Shelf.files c.args.shelf.now) left left old old noted noted in
    let o = c.args.order.now in
    let d = c.in_ok-netlist.field-0 in
    let plan : c.plan-plan.result ≡ report_plan o = c.plan-plan.ensures in
    let stop = c.in_err-bounds.field-0.0 in
    let same = handed_on c.from_residual-in_err-bounds.result (Bound stop) c.from_residual-in_err-bounds.ensures.0 c.from_residual-in_err-bounds.ensures.1 in
    subst (λ r. IfErr r (ReportStops w o)) (sym same)
    (record {
      design = d;
      networks = c.in_ok-netlist.ensures.designed;
      refuses = subst (λ (p : PlanOf). BoundRefuses d.netlist.form d.networks p stop) plan c.in_err-bounds.ensures.refused;
      quiet = record { input = Keeps-refl left; output = Keeps-refl old; note = Keeps-refl noted };
    })

-- there is no memory for the text
pub returns-in_err-text-clause-refused : goal.returns-in_err-text-clause-refused
returns-in_err-text-clause-refused g c left noted =
    let old = g.O.Sink.written c.args.out.now in
    let w = world (texts c.args.words.now) (g.H.Shelf.files c.args.shelf.now) left left old old noted noted in
    let o = c.args.order.now in
    let d = c.in_ok-netlist.field-0 in
    let plan : c.plan-plan.result ≡ report_plan o = c.plan-plan.ensures in
    let same = handed_on c.from_residual-in_err-text.result NoMemory c.from_residual-in_err-text.ensures.0 c.from_residual-in_err-text.ensures.1 in
    subst (λ r. IfErr r (ReportStops w o)) (sym same)
    (record {
      planned = record {
        design = d;
        networks = c.in_ok-netlist.ensures.designed;
        bounds = c.in_ok-bounds.bounds;
        bounded = subst (λ (p : PlanOf). AreBounded d.networks p c.in_ok-bounds.bounds) plan c.in_ok-bounds.ensures.bounded;
      };
      quiet = record { input = Keeps-refl left; output = Keeps-refl old; note = Keeps-refl noted };
    })

-- the write failed
pub returns-in_err-put_all-clause-refused : goal.returns-in_err-put_all-clause-refused
returns-in_err-put_all-clause-refused g c left noted =
    let old = g.O.Sink.written c.args.out.now in
    let now = g.O.Sink.written c.put_all.new.sink in
    let w = world (texts c.args.words.now) (g.H.Shelf.files c.args.shelf.now) left left old now noted noted in
    let o = c.args.order.now in
    let d = c.in_ok-netlist.field-0 in
    let plan : c.plan-plan.result ≡ report_plan o = c.plan-plan.ensures in
    let text = c.in_ok-text.text.items in
    let same = handed_on c.from_residual-in_err-put_all.result Write c.from_residual-in_err-put_all.ensures.0 c.from_residual-in_err-put_all.ensures.1 in
    subst (λ r. IfErr r (ReportStops w o)) (sym same)
    (record {
      text = text;
      has = record {
        planned = record {
          design = d;
          networks = c.in_ok-netlist.ensures.designed;
          bounds = c.in_ok-bounds.bounds;
          bounded = subst (λ (p : PlanOf). AreBounded d.networks p c.in_ok-bounds.bounds) plan c.in_ok-bounds.ensures.bounded;
        };
        report = subst (λ (p : PlanOf). IsReport d.netlist d.networks p text) plan c.in_ok-text.ensures;
      };
      input = Keeps-refl left;
      output = subst (AppendsPart old now) c.deref.ensures.value c.in_err-put_all.ensures.part;
      note = Keeps-refl noted;
    })

-- the report is written
pub returns-clause-done : goal.returns-clause-done
returns-clause-done g c left noted =
    let o = c.args.order.now in
    let d = c.in_ok-netlist.field-0 in
    let plan : c.plan-plan.result ≡ report_plan o = c.plan-plan.ensures in
    let text = c.in_ok-text.text.items in
    record {
      text = text;
      has = record {
        planned = record {
          design = d;
          networks = c.in_ok-netlist.ensures.designed;
          bounds = c.in_ok-bounds.bounds;
          bounded = subst (λ (p : PlanOf). AreBounded d.networks p c.in_ok-bounds.bounds) plan c.in_ok-bounds.ensures.bounded;
        };
        report = subst (λ (p : PlanOf). IsReport d.netlist d.networks p text) plan c.in_ok-text.ensures;
      };
      input = Keeps-refl left;
      output = subst (Appends (g.O.Sink.written c.args.out.now) (g.O.Sink.written c.put_all.new.sink)) c.deref.ensures.value c.in_ok-put_all.ensures.whole;
      note = Keeps-refl noted;
    }
