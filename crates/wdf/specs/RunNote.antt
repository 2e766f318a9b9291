-- The note of a run that was done.
use Rattle.std.specs.Prelude.{◌≡◌, ℕ, Bool, List, ◌++◌, Option, unwrap_or}
use Rattle.wdf_law.specs.declared.side.Side.{Side}
use Rattle.wdf_netlist.specs.Netlists.{NetlistValue}
use Rattle.wdf_energy.specs.declared.totals.Totals.{Totals}
use Rattle.wdf_frames.specs.Setting.{Setting, runs_of}
use Rattle.wdf_frames.specs.declared.wave_run.WaveRun.{WaveRun}
use Rattle.wdf_frames.specs.RunFacts.{TellsRun}
use Rattle.wdf_frames.specs.RunStates.{setting_of, limited_by, totals_by}
use Rattle.wdf_reporting.specs.CountLines.{count_text}
use Rattle.wdf_reporting.specs.Findings.{AreFindings}
use Rattle.wdf_reporting.specs.Notes.{ledger_texts, note_text}

-- those of no frames
abbrev pub no_totals : Totals
no_totals = record { incident = 0; absorbed = 0; stored = 0 }

-- the totals of each run that there is
abbrev pub told_totals : (Side → ℕ → Option Totals) → Side → ℕ → Totals
told_totals totals side run = unwrap_or (totals side run) no_totals

-- what a run tells: its report, and behind it the counts and the ledger's lines
abbrev pub ledger_by : WaveRun → List ℕ
ledger_by run = ledger_texts (setting_of run).networks (runs_of (setting_of run)) (told_totals (totals_by run))

abbrev pub told_by : (report : List ℕ) → (frames : ℕ) → WaveRun → List ℕ
told_by report frames run = report ++ count_text frames (limited_by run) ++ ledger_by run

-- this is the note of the netlist's run on the frames of body
pub record IsNote (n : NetlistValue) (s : Setting) (body text : List ℕ) : Type 0 where
  -- which networks have a certificate
  pub certified : Side → Bool
  pub found : AreFindings s.networks certified
  -- how many output samples were limited, and where the energy of each run went
  pub clipped : ℕ
  pub totals : Side → ℕ → Option Totals
  pub tells : TellsRun s body clipped totals
  pub lines : text ≡ note_text n s.networks s.plan certified s.head.frames clipped (runs_of s) (told_totals totals)
