use Rattle.std.proofs.Common.{◌≡◌, rules, List, ℕ, ◌++◌, OnErr, subst}
use Rattle.wdf_law.specs.declared.side.Side.TheVariants.{Whole, A, B}
use Rattle.wdf_io.specs.Moved.{AppendsPart}
use Rattle.wdf_frames.specs.RunStates.{setting_of, totals_by}
use Rattle.wdf_frames.specs.Setting.{runs_of}
use Rattle.wdf_reporting.specs.Notes.{side_ledger}
use Rattle.wdf.specs.RunNote.{ledger_by, told_totals}
use Rattle.wdf.proofs.NoteLemmas.{in_err, part_behind}
use Rattle.wdf.proofs.noting.put_ledger.Goals as goal

pub returns-in-Ladder-clause-part : goal.returns-in-Ladder-clause-part
returns-in-Ladder-clause-part g c =
    let old = g.N.Sink.written c.args.note.now in
    let now = g.N.Sink.written c.put_side.new.note in
    let run = c.args.wave_run.now in
    let lines : side_ledger Whole (runs_of (setting_of run)) (told_totals (totals_by run) Whole) ≡ ledger_by run = search rules in
    subst (λ (t : List ℕ). OnErr c.put_side.result (AppendsPart old now t)) lines c.put_side.ensures.part

-- branch A's lines were written
pub returns-in_ok-put_side-in-Lattice-clause-part : goal.returns-in_ok-put_side-in-Lattice-clause-part
returns-in_ok-put_side-in-Lattice-clause-part g c =
    let old = g.N.Sink.written c.args.note.now in
    let between = g.N.Sink.written c.put_side-in-Lattice.new.note in
    let now = g.N.Sink.written c.put_side-in-Lattice-2.new.note in
    let run = c.args.wave_run.now in
    let first = side_ledger A (runs_of (setting_of run)) (told_totals (totals_by run) A) in
    let second = side_ledger B (runs_of (setting_of run)) (told_totals (totals_by run) B) in
    let lines : first ++ second ≡ ledger_by run = search rules in
    in_err c.put_side-in-Lattice-2.result (AppendsPart between now second) (AppendsPart old now (ledger_by run))
    (λ part. subst (AppendsPart old now) lines (part_behind old between now first second c.in_ok-put_side-in-Lattice.ensures.whole part))
    c.put_side-in-Lattice-2.ensures.part
