-- From a run that began to where it stopped, or to its end.
use Rattle.std.proofs.Common.{◌≡◌, ℕ, List, Option, Result, Err, refl, sym, ◌∙◌, subst}
use Rattle.std.specs.Prelude.{◌≢◌, IfErr}
use Rattle.std.specs.Io.KnownBytes.{Appends}
use Rattle.wdf_io.specs.Moved.{AppendsPart}
use Rattle.wdf_frames.specs.declared.frame_stop.FrameStop.{FrameStop}
use Rattle.wdf_frames.specs.declared.wave_run.WaveRun.{WaveRun}
use Rattle.wdf_frames.specs.RunFacts.{TellsRun}
use Rattle.wdf_frames.specs.RunStates.{setting_of, limited_by, totals_by}
use Rattle.wdf_frames.specs.Setting.{Setting}
use Rattle.wdf_frames.specs.Stops.{FrameStops}
use Rattle.wdf_frames.specs.WaveRuns.{WritesWave}
use Rattle.wdf_words.specs.declared.order.Order.{Order}
use Rattle.wdf.specs.declared.begun.Begun.{Begun}
use Rattle.wdf.specs.declared.filtering_stop.FilteringStop.{FilteringStop}
use Rattle.wdf.specs.declared.filtering_stop.FilteringStop.TheVariants.{Note}
use Rattle.wdf.specs.RunAnswer.{HasBegun, HasFiltered, AtFrames, AtNote, DoneRun, setting_for}
use Rattle.wdf.specs.RunNote.{told_by}
use Rattle.wdf.specs.Runs.{KeepsRuns}
use Rattle.wdf.specs.World.{World, KeepsNote}
use Rattle.wdf.proofs.NoteLemmas.{is_note}

-- the wave that a run wrote, and what is told of it
abbrev pub Wrote : World → (between : Option (List ℕ)) → WaveRun → Setting → Type 0
Wrote w between run s = (wave : WritesWave s between w.left' w.written w.written') × TellsRun s wave.body (limited_by run) (totals_by run)

-- with what holds of every run of its setting
abbrev Kept : (w : World) (o : Order) (text : List ℕ) → Type 0
Kept w o text = (f : HasFiltered w o text) × KeepsRuns (setting_for o f.prepared.opened.design f.prepared.opened.head)

wrote : (w : World) (o : Order) (between : Option (List ℕ)) (b : Begun) → HasBegun w o between b → (run : WaveRun) → setting_of run ≡ setting_of b.wave_run
    → Wrote w between run (setting_of b.wave_run) → Kept w o (told_by b.report.items b.frames run)
wrote w o between b h run same told =
    let s = setting_for o h.prepared.opened.design h.prepared.opened.head in
    let moved : Wrote w between run s = subst (Wrote w between run) h.ready.set told in (
      record {
        between = between;
        prepared = h.prepared;
        writes = moved.0;
        note = is_note h.prepared.opened.design.netlist s run moved.0.body b.report.items b.frames (same ∙ h.ready.set) h.frames h.report moved.1;
      },
      h.keeps,
    )

pub at_frames : (w : World) (o : Order) (between : Option (List ℕ)) (b : Begun) → HasBegun w o between b → (stop : FrameStop)
    → FrameStops (setting_of b.wave_run) between w.left' w.written w.written' stop → KeepsNote w → AtFrames w o stop
at_frames w o between b h stop stopped note = record {
  between = between;
  prepared = h.prepared;
  stopped = subst (λ (s : Setting). FrameStops s between w.left' w.written w.written' stop) h.ready.set stopped;
  note = note;
}

pub at_note : (w : World) (o : Order) (between : Option (List ℕ)) (b : Begun) → HasBegun w o between b → (run : WaveRun) → setting_of run ≡ setting_of b.wave_run
    → Wrote w between run (setting_of b.wave_run) → AppendsPart w.noted w.noted' (told_by b.report.items b.frames run) → AtNote w o
at_note w o between b h run same told part =
    let f = wrote w o between b h run same told in
    record { text = told_by b.report.items b.frames run; filtered = f.0; note = part }

pub done_run : (w : World) (o : Order) (between : Option (List ℕ)) (b : Begun) → HasBegun w o between b → (run : WaveRun) → setting_of run ≡ setting_of b.wave_run
    → Wrote w between run (setting_of b.wave_run) → Appends w.noted w.noted' (told_by b.report.items b.frames run) → DoneRun w o
done_run w o between b h run same told whole =
    let f = wrote w o between b h run same told in
    record {
      text = told_by b.report.items b.frames run;
      filtered = f.0;
      note = whole;
      kirchhoff = f.1.kirchhoff f.0.writes.body;
      energy = f.1.energy f.0.writes.body;
      words = f.1.words f.0.writes.body f.0.writes.size f.0.writes.within;
      certified = f.1.certified f.0.note.certified f.0.note.found;
    }

-- what is said of every stop but that at the note
pub not_quiet : {T : Type 0} (r : Result T FilteringStop) (X : Type 0) → r ≡ Err Note → IfErr r (λ stop. stop ≢ Note → X)
not_quiet r X same = subst (λ q. IfErr q (λ stop. stop ≢ Note → X)) (sym same) (λ n. absurd (n refl))
