-- How far a run of a wave has come: the frames that a round has run from rest, and what they gave.
use Rattle.std.specs.Prelude.{◌≡◌, ℕ, ◌+◌, ◌-◌, ◌*◌, ◌<◌, ◌≤◌, ℤ, List, ◌++◌, length, take, min, Option, Some, None}
use Rattle.std.specs.Io.KnownBytes.{Consumes, Appends, IsAtEnd}
use Rattle.wdf_io.specs.Moved.{ConsumesAtMost, AppendsPart}
use Rattle.wdf_algebra.specs.Samples.{IsSampleWidth}
use Rattle.wdf_law.specs.declared.side.Side.{Side}
use Rattle.wdf_energy.specs.declared.totals.Totals.{Totals}
use Rattle.wdf_lattice.specs.Sides.{sources_driven}
use Rattle.wdf_lattice.specs.SolvedWaves.{waves_for}
use Rattle.wdf_lattice.specs.SideAccounts.{accounts_for, totals_with}
use Rattle.wdf_lattice.specs.Runners.{AreAtRest, AreOpened, RunsOn, NotesOn, states_of, accounts_of}
use Rattle.wdf_lattice.specs.RunnerLaws.{LeadsTo, AreAccountsOf, GoesOnFromRest}
use Rattle.wdf_lattice.specs.TotalLaws.{TellsTotals}
use Rattle.wdf_lattice.specs.WaveLaws.{HasOneWave}
use Rattle.wdf_wav.specs.Header.{head_bytes_of}
use Rattle.wdf_wav.specs.Laws.{SamplesAppend, DataAppends, CountsSamples}
use Rattle.wdf_frames.specs.declared.frame_stop.FrameStop.{FrameStop}
use Rattle.wdf_frames.specs.declared.frame_stop.FrameStop.TheVariants.{Amplitude, Truncated, ReadFault, WriteFault}
use Rattle.wdf_frames.specs.declared.over.Over.{Over}
use Rattle.wdf_frames.specs.declared.round.Round.{Round}
use Rattle.wdf_frames.specs.Setting.{Setting, setting, runs_of, read_size, samples_in, AreWithin, IsFirstOver, written_head}
use Rattle.wdf_frames.specs.Written.{coded, limited_among}

-- ---- what frames give, solved

abbrev pub solved_waves : Setting → List ℕ → List ℤ
solved_waves s body = waves_for s.networks s.plan.guard (runs_of s) (samples_in s body)

abbrev pub data_for : Setting → List ℕ → List ℕ
data_for s body = coded s (solved_waves s body)

abbrev pub limited_in : Setting → List ℕ → ℕ
limited_in s body = limited_among s (solved_waves s body)

abbrev pub totals_for : Setting → List ℕ → Side → ℕ → Option Totals
totals_for s body = totals_with s.networks (runs_of s) (accounts_for s.networks s.plan.guard (runs_of s) (samples_in s body))

-- ---- a round

abbrev pub round_setting : Round → Setting
round_setting r = setting r.runner.networks r.runner.plan r.head

-- it has just begun
pub record IsBegunRound (r : Round) (s : Setting) : Type 0 where
  pub set : round_setting r ≡ s
  pub none_done : r.runner.done ≡ 0
  pub none_limited : r.limited ≡ 0
  pub rest : AreAtRest s.networks (runs_of s) (states_of r.runner)
  pub none_noted : AreOpened s.networks (runs_of s) (accounts_of r.runner)

-- it has run the frames of body from rest, all of them within amp
pub record HasRun (s : Setting) (body : List ℕ) (r : Round) : Type 0 where
  pub set : round_setting r ≡ s
  pub size : length body ≡ r.runner.done * read_size s
  pub within : AreWithin s body
  pub leads : LeadsTo s.networks s.plan.guard (runs_of s) (samples_in s body) (states_of r.runner)
  pub counted : r.limited ≡ limited_in s body
  pub noted : AreAccountsOf s.networks s.plan.guard (runs_of s) (samples_in s body) (accounts_of r.runner)

-- it goes on over the samples of so many frames, whose output samples have these bytes
pub record RunsSamples (s : Setting) (old new : Round) (samples : List ℤ) (made : List ℕ) (count : ℕ) : Type 0 where
  pub set : round_setting new ≡ round_setting old
  pub waves : List ℤ
  pub on : RunsOn s.networks s.plan.guard (runs_of s) (states_of old.runner) (states_of new.runner) samples waves
  pub bytes : made ≡ coded s waves
  pub limited : new.limited ≡ old.limited + limited_among s waves
  pub notes : NotesOn s.networks s.plan.guard (runs_of s) (states_of old.runner) (accounts_of old.runner) (accounts_of new.runner) samples
  pub done : new.runner.done ≡ old.runner.done + count

-- and over the bytes of as many frames
pub record RunsFrames (s : Setting) (old new : Round) (frames made : List ℕ) (count : ℕ) : Type 0 where
  pub size : length frames ≡ count * read_size s
  pub ran : RunsSamples s old new (samples_in s frames) made count

-- the frames in front of the one that has the first sample over amp, of all where none is
abbrev pub frames_before : ℕ → Option Over → ℕ
frames_before count None = count
frames_before count (Some o) = o.frame

abbrev pub FindsOver : Setting → List ℕ → Option Over → Type 0
FindsOver s frames None = AreWithin s frames
FindsOver s frames (Some o) = IsFirstOver s frames o.frame o.channel o.sample

-- ---- a block: so many whole frames that were read

-- all of them were run, and their data was written
pub record WritesFrames (s : Setting) (old new : Round) (count : ℕ) (frames : List ℕ) (written written' : Option (List ℕ)) : Type 0 where
  pub made : List ℕ
  pub run : RunsFrames s old new frames made count
  pub within : AreWithin s frames
  pub output : Appends written written' made

-- those before the first sample over amp were
pub record WritesBefore (s : Setting) (old new : Round) (frames : List ℕ) (written written' : Option (List ℕ)) (frame channel : ℕ) (sample : ℤ) : Type 0 where
  pub inner : ℕ
  pub place : frame ≡ new.runner.done
  pub over : IsFirstOver s frames inner channel sample
  pub made : List ℕ
  pub run : RunsFrames s old new (take (inner * read_size s) frames) made inner
  pub output : Appends written written' made

-- a part of the data of the first of them was written
pub record WritesPart (s : Setting) (old new : Round) (count : ℕ) (frames : List ℕ) (written written' : Option (List ℕ)) : Type 0 where
  pub held : ℕ
  pub few : held ≤ count
  pub made : List ℕ
  pub run : RunsFrames s old new (take (held * read_size s) frames) made held
  pub within : AreWithin s (take (held * read_size s) frames)
  pub output : AppendsPart written written' made

abbrev pub WriteStops : Setting → (old new : Round) → (count : ℕ) → (frames : List ℕ) → (written written' : Option (List ℕ)) → FrameStop → Type 0
WriteStops s old new count frames written written' (Amplitude frame channel sample) = WritesBefore s old new frames written written' frame channel sample
WriteStops s old new count frames written written' WriteFault = WritesPart s old new count frames written written'
WriteStops s old new count frames written written' (Truncated total) = ⊥
WriteStops s old new count frames written written' ReadFault = ⊥

-- ---- what the laws of the crates below say of a setting

-- its samples are read from whole frames, one after another
pub record HasSampleLaws (s : Setting) : Type 0 where
  pub width : IsSampleWidth s.head.bits
  pub some_channel : 1 ≤ s.head.channels
  pub read : SamplesAppend s.head.bits
  pub counts : CountsSamples s.head.bits

pub record HasLaws (s : Setting) : Type 0 where
  pub samples : HasSampleLaws s
  pub driven : s.head.channels ≡ runs_of s * sources_driven s.networks
  pub codes : DataAppends s.head.bits
  pub goes_on : GoesOnFromRest s.networks
  pub one_wave : HasOneWave s.networks
  pub tells : TellsTotals s.networks

-- ---- a block of so many frames is read, run and written

-- just its frames were read
pub record WritesBlock (s : Setting) (old new : Round) (count : ℕ) (left left' written written' : Option (List ℕ)) : Type 0 where
  pub frames : List ℕ
  pub input : Consumes left left' frames
  pub wrote : WritesFrames s old new count frames written written'

-- `held` whole frames of it, and a part of one more, were read
pub record ReadsSome (s : Setting) (count held : ℕ) (frames : List ℕ) (left left' : Option (List ℕ)) : Type 0 where
  pub size : length frames ≡ held * read_size s
  pub few : held ≤ count
  pub tail : List ℕ
  pub part : length tail < read_size s
  pub most : length frames + length tail ≤ count * read_size s
  pub input : Consumes left left' (frames ++ tail)

pub record StopsAtOver (s : Setting) (old new : Round) (count : ℕ) (left left' written written' : Option (List ℕ)) (frame channel : ℕ) (sample : ℤ) : Type 0 where
  pub held : ℕ
  pub frames : List ℕ
  pub reads : ReadsSome s count held frames left left'
  pub wrote : WritesBefore s old new frames written written' frame channel sample

pub record StopsAtEnd (s : Setting) (old new : Round) (count : ℕ) (left left' written written' : Option (List ℕ)) (total : ℕ) : Type 0 where
  pub held : ℕ
  pub frames : List ℕ
  pub reads : ReadsSome s count held frames left left'
  pub short : held < count
  pub end : IsAtEnd left'
  pub wrote : WritesFrames s old new held frames written written'
  pub place : total ≡ new.runner.done

pub record StopsInPart (s : Setting) (old new : Round) (count : ℕ) (left left' written written' : Option (List ℕ)) : Type 0 where
  pub held : ℕ
  pub frames : List ℕ
  pub reads : ReadsSome s count held frames left left'
  pub wrote : WritesPart s old new held frames written written'

pub record StopsAtRead (s : Setting) (count : ℕ) (left left' written written' : Option (List ℕ)) : Type 0 where
  pub taken : ConsumesAtMost left left' (count * read_size s)
  pub kept : written' ≡ written

abbrev pub BlockStops : Setting → (old new : Round) → (count : ℕ) → (left left' written written' : Option (List ℕ)) → FrameStop → Type 0
BlockStops s old new count left left' written written' (Amplitude frame channel sample) = StopsAtOver s old new count left left' written written' frame channel sample
BlockStops s old new count left left' written written' (Truncated total) = StopsAtEnd s old new count left left' written written' total
BlockStops s old new count left left' written written' ReadFault = StopsAtRead s count left left' written written'
BlockStops s old new count left left' written written' WriteFault = StopsInPart s old new count left left' written written'

-- the frames of the next block
abbrev pub next_count : (done all : ℕ) → ℕ
next_count done all = min 4096 (all - done)

-- ---- all blocks so far, behind the header

pub record RanSoFar (s : Setting) (r : Round) (left left' written written' : Option (List ℕ)) : Type 0 where
  pub body : List ℕ
  pub run : HasRun s body r
  pub input : Consumes left left' body
  pub output : Appends written written' (head_bytes_of (written_head s) ++ data_for s body)
