use Rattle.std.proofs.Common.{◌≡◌, refl, sym, subst, ap, ◌∙◌}
use Rattle.std.proofs.KnownBytes.{Keeps-refl}
use Rattle.std.specs.Prelude.{IfErr}
use Rattle.wdf_bounds.specs.Plans.{PlanOf}
use Rattle.wdf_stages.specs.Bounding.{AreBounded, BoundRefuses}
use Rattle.wdf_frames.specs.Setting.{setting}
use Rattle.wdf_frames.specs.RunStates.{setting_of}
use Rattle.wdf_reporting.specs.Findings.{IsReport}
use Rattle.wdf_words.specs.Orders.{texts}
use Rattle.wdf.specs.declared.beginning_stop.BeginningStop.TheVariants.{Bound, NoMemory}
use Rattle.wdf.specs.RunAnswer.{BeginningStops, plan_in, setting_for}
use Rattle.wdf.specs.Runs.{KeepsRuns}
use Rattle.wdf.specs.World.{world}
use Rattle.wdf.proofs.Handed.{handed_on}
use Rattle.wdf.proofs.beginning.begin_words.Goals as goal

-- the plan does not fit the networks
pub returns-in_err-bounds-clause-refused : goal.returns-in_err-bounds-clause-refused
returns-in_err-bounds-clause-refused g c written noted =
    let w = world (texts c.args.words.now) (g.H.Shelf.files c.args.shelf.now) (g.I.Source.left c.args.input.now) (g.I.Source.left c.open_wave.new.input) written written noted noted in
    let o = c.args.order.now in
    let d = c.in_ok-netlist.field-0 in
    let head = c.in_ok-head.head in
    let plan : c.plan-plan.result ≡ plan_in o head = c.plan-plan.ensures in
    let stop = c.in_err-bounds.field-0.0 in
    let same = handed_on c.from_residual-in_err-bounds.result (Bound stop) c.from_residual-in_err-bounds.ensures.0 c.from_residual-in_err-bounds.ensures.1 in
    subst (λ r. IfErr r (BeginningStops w o)) (sym same)
    (record {
      opened = record { design = d; networks = c.in_ok-netlist.ensures.designed; head = head; opens = c.in_ok-head.ensures.opens };
      refuses = subst (λ (p : PlanOf). BoundRefuses d.netlist.form d.networks p stop) plan c.in_err-bounds.ensures.refused;
      output = Keeps-refl written;
      note = Keeps-refl noted;
    })

-- there is no memory for the report
pub returns-in_err-text-clause-refused : goal.returns-in_err-text-clause-refused
returns-in_err-text-clause-refused g c written noted =
    let w = world (texts c.args.words.now) (g.H.Shelf.files c.args.shelf.now) (g.I.Source.left c.args.input.now) (g.I.Source.left c.open_wave.new.input) written written noted noted in
    let o = c.args.order.now in
    let d = c.in_ok-netlist.field-0 in
    let head = c.in_ok-head.head in
    let plan : c.plan-plan.result ≡ plan_in o head = c.plan-plan.ensures in
    let same = handed_on c.from_residual-in_err-text.result NoMemory c.from_residual-in_err-text.ensures.0 c.from_residual-in_err-text.ensures.1 in
    subst (λ r. IfErr r (BeginningStops w o)) (sym same)
    (record {
      prepared = record {
        opened = record { design = d; networks = c.in_ok-netlist.ensures.designed; head = head; opens = c.in_ok-head.ensures.opens };
        bounds = c.in_ok-bounds.bounds;
        bounded = subst (λ (p : PlanOf). AreBounded d.networks p c.in_ok-bounds.bounds) plan c.in_ok-bounds.ensures.bounded;
      };
      output = Keeps-refl written;
      note = Keeps-refl noted;
    })

-- the sources are driven by the channels
pub new-requires-clause-driven : goal.new-requires-clause-driven
new-requires-clause-driven g c = c.in_ok-netlist.ensures.driven c.in_ok-head.head.channels

-- there is no memory for the run
pub returns-in_err-wave_run-clause-refused : goal.returns-in_err-wave_run-clause-refused
returns-in_err-wave_run-clause-refused g c written noted =
    let w = world (texts c.args.words.now) (g.H.Shelf.files c.args.shelf.now) (g.I.Source.left c.args.input.now) (g.I.Source.left c.open_wave.new.input) written written noted noted in
    let o = c.args.order.now in
    let d = c.in_ok-netlist.field-0 in
    let head = c.in_ok-head.head in
    let plan : c.plan-plan.result ≡ plan_in o head = c.plan-plan.ensures in
    let same = handed_on c.from_residual-in_err-wave_run.result NoMemory c.from_residual-in_err-wave_run.ensures.0 c.from_residual-in_err-wave_run.ensures.1 in
    subst (λ r. IfErr r (BeginningStops w o)) (sym same)
    (record {
      prepared = record {
        opened = record { design = d; networks = c.in_ok-netlist.ensures.designed; head = head; opens = c.in_ok-head.ensures.opens };
        bounds = c.in_ok-bounds.bounds;
        bounded = subst (λ (p : PlanOf). AreBounded d.networks p c.in_ok-bounds.bounds) plan c.in_ok-bounds.ensures.bounded;
      };
      output = Keeps-refl written;
      note = Keeps-refl noted;
    })

-- it can begin
pub returns-clause-begun : goal.returns-clause-begun
returns-clause-begun g c left' written written' noted noted' =
    let o = c.args.order.now in
    let d = c.in_ok-netlist.field-0 in
    let head = c.in_ok-head.head in
    let plan : c.plan-plan.result ≡ plan_in o head = c.plan-plan.ensures in
    let set : setting_of c.in_ok-wave_run.wave_run ≡ setting_for o d head = c.in_ok-wave_run.ensures.set ∙ ap (λ (p : PlanOf). setting d.networks p head) plan in
    record {
      prepared = record {
        opened = record { design = d; networks = c.in_ok-netlist.ensures.designed; head = head; opens = c.in_ok-head.ensures.opens };
        bounds = c.in_ok-bounds.bounds;
        bounded = subst (λ (p : PlanOf). AreBounded d.networks p c.in_ok-bounds.bounds) plan c.in_ok-bounds.ensures.bounded;
      };
      report = subst (λ (p : PlanOf). IsReport d.netlist d.networks p c.in_ok-text.text.items) plan c.in_ok-text.ensures;
      frames = refl;
      ready = record { set = set; fresh = c.in_ok-wave_run.ensures.fresh };
      keeps = subst (λ (p : PlanOf). KeepsRuns (setting d.networks p head)) plan c.run_laws.ensures;
    }
