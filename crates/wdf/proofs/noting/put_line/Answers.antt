use Rattle.std.proofs.Common.{◌≡◌, rules, List, ℕ, OnErr, subst}
use Rattle.wdf_io.specs.Moved.{AppendsPart}
use Rattle.wdf_frames.specs.RunStates.{totals_by}
use Rattle.wdf_reporting.specs.LedgerLine.{ledger_text}
use Rattle.wdf.specs.RunNote.{told_totals}
use Rattle.wdf.proofs.noting.put_line.Goals as goal

pub returns-clause-part : goal.returns-clause-part
returns-clause-part g c =
    let old = g.N.Sink.written c.args.note.now in
    let now = g.N.Sink.written c.put_all.new.sink in
    let text : c.as_bytes.result.now ≡ ledger_text c.args.side c.args.run (told_totals (totals_by c.args.wave_run.now) c.args.side c.args.run) = search rules in
    subst (λ (t : List ℕ). OnErr c.put_all.result (AppendsPart old now t)) text c.put_all.ensures.part
