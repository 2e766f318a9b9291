-- The opening of the wave that a netlist runs: its head, or why it is not run.
use Rattle.std.specs.Prelude.{◌≡◌, ◌≢◌, ℕ, ◌<◌, ◌≤◌, List, length, Option, ⊤}
use Rattle.wdf_io.specs.Told.{Told}
use Rattle.wdf_netlist.specs.declared.form.Form.{Form}
use Rattle.wdf_netlist.specs.declared.form.Form.TheVariants.{Ladder, Lattice}
use Rattle.wdf_netlist.specs.Circuits.{sources}
use Rattle.wdf_netlist.specs.Netlists.{NetlistValue}
use Rattle.wdf_wav.specs.declared.head.Head.{Head}
use Rattle.wdf_wav.specs.declared.wav_error.WavError.{WavError}
use Rattle.wdf_wav.specs.declared.wav_error.WavError.TheVariants as waves
use Rattle.wdf_wav.specs.WaveHead.{IsWaveFault, TakesHead}
use Rattle.wdf_stages.specs.declared.open_stop.OpenStop.{OpenStop}
use Rattle.wdf_stages.specs.declared.open_stop.OpenStop.TheVariants.{BadWave, RateMismatch, ChannelCount, TooLong, ReadFault}

-- how many sources the wave drives: those of a ladder, and one of a lattice
abbrev pub source_count_of : Form → ℕ
source_count_of (Ladder c) = length (sources c.elements)
source_count_of (Lattice a b) = 1

-- what a run asks of its wave
pub record Terms : Type 0 where
  -- frames in a second
  pub rate : ℕ
  -- the sources that it drives
  pub sources : ℕ
  -- the most frames
  pub limit : ℕ

abbrev pub terms_of : NetlistValue → (limit : ℕ) → Terms
terms_of n limit = record { rate = n.rate; sources = source_count_of n.form; limit = limit }

-- with several sources there is a channel for each
abbrev pub DrivesSources : (sources channels : ℕ) → Type 0
DrivesSources sources channels = 1 < sources → channels ≡ sources

-- the input begins with a head of these terms, and lost just that
pub record Opens (t : Terms) (left left' : Option (List ℕ)) (head : Head) : Type 0 where
  pub takes : TakesHead left left' head
  pub rate : head.rate ≡ t.rate
  pub channels : DrivesSources t.sources head.channels
  pub length : head.frames ≤ t.limit

-- it begins with a head of another rate
pub record HasOtherRate (t : Terms) (left left' : Option (List ℕ)) (netlist wave : ℕ) : Type 0 where
  pub head : Head
  pub takes : TakesHead left left' head
  pub ours : netlist ≡ t.rate
  pub theirs : wave ≡ head.rate
  pub differ : netlist ≢ wave

-- it begins with a head of this rate, but there are several sources and another number of channels
pub record HasOtherChannels (t : Terms) (left left' : Option (List ℕ)) (have want : ℕ) : Type 0 where
  pub head : Head
  pub takes : TakesHead left left' head
  pub rate : head.rate ≡ t.rate
  pub theirs : have ≡ head.channels
  pub ours : want ≡ t.sources
  pub several : 1 < want
  pub differ : have ≢ want

-- it begins with a head of this rate and of enough channels, but with too many frames
pub record IsTooLong (t : Terms) (left left' : Option (List ℕ)) (frames limit : ℕ) : Type 0 where
  pub head : Head
  pub takes : TakesHead left left' head
  pub rate : head.rate ≡ t.rate
  pub channels : DrivesSources t.sources head.channels
  pub theirs : frames ≡ head.frames
  pub ours : limit ≡ t.limit
  pub over : limit < frames

-- why the wave is not run
abbrev pub OpenRefuses : Terms → Option (List ℕ) → Option (List ℕ) → OpenStop → Type 0
OpenRefuses t left left' (BadWave kind at) = Told left (λ bytes. IsWaveFault bytes kind at)
OpenRefuses t left left' (RateMismatch netlist wave) = HasOtherRate t left left' netlist wave
OpenRefuses t left left' (ChannelCount have want) = HasOtherChannels t left left' have want
OpenRefuses t left left' (TooLong frames limit) = IsTooLong t left left' frames limit
OpenRefuses t left left' ReadFault = ⊤

-- not run, since no head was read
abbrev pub open_stop_of : WavError → OpenStop
open_stop_of (waves.Fault kind at) = BadWave kind at
open_stop_of waves.ReadFault = ReadFault
