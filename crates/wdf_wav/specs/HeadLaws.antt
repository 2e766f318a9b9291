-- What the laws of heads say: each text has one answer.
use Rattle.std.specs.Prelude.{◌≡◌, ℕ, ◌<◌, ◌⊎◌, List, ◌++◌, length, Option}
use Rattle.std.specs.Io.KnownBytes.{Consumes}
use Rattle.wdf_wav.specs.declared.head.Head.{Head}
use Rattle.wdf_wav.specs.declared.wav_error.WavKind.{WavKind}
use Rattle.wdf_wav.specs.Header.{data_size, head_bytes_of}
use Rattle.wdf_wav.specs.PcmStream.{IsPcmStream, IsPlainStream, ReadsStream}
use Rattle.wdf_wav.specs.WaveHead.{IsHeaded, IsWaveFault, TakesHead}

-- bytes begin with the text of this head
pub record HasHead (bytes : List ℕ) (head : Head) (text : List ℕ) : Type 0 where
  pub headed : IsHeaded text head
  pub rest : List ℕ
  pub parts : bytes ≡ text ++ rest

-- with that of one head at most
abbrev pub IsOneHead : Type 0
IsOneHead = (bytes text text' : List ℕ) (head head' : Head) → HasHead bytes head text → HasHead bytes head' text'
    → (head' ≡ head) × (text' ≡ text)

-- they have one first fault at most
abbrev pub IsOneFault : Type 0
IsOneFault = (bytes : List ℕ) (kind kind' : WavKind) (at at' : ℕ) → IsWaveFault bytes kind at → IsWaveFault bytes kind' at'
    → (kind' ≡ kind) × (at' ≡ at)

-- no text has both
abbrev pub IsEither : Type 0
IsEither = (bytes text : List ℕ) (head : Head) (kind : WavKind) (at : ℕ) → HasHead bytes head text → IsWaveFault bytes kind at → ⊥

-- each text has one of the two
abbrev pub IsAnswered : Type 0
IsAnswered = (bytes : List ℕ) → ((head : Head) × (text : List ℕ) × HasHead bytes head text) ⊎ ((kind : WavKind) × (at : ℕ) × IsWaveFault bytes kind at)

-- no front of the header is the text of a head but the whole
abbrev pub HasNoFront : Head → Type 0
HasNoFront head = (text more : List ℕ) (other : Head) → head_bytes_of head ≡ text ++ more → 0 < length more → IsHeaded text other → ⊥

-- a wave in the plain form is a wave
abbrev pub IsStream : Head → Type 0
IsStream head = (bytes body rest : List ℕ) → IsPlainStream bytes head body rest → IsPcmStream bytes head body rest

-- a head, and then the bytes of all its frames, are a wave
abbrev pub ReadsWave : Type 0
ReadsWave = (left middle left' : Option (List ℕ)) (head : Head) (body : List ℕ) → TakesHead left middle head → Consumes middle left' body
    → length body ≡ data_size head → ReadsStream left left' head body
