-- The two answers to a text: its head, or its first fault.
use Rattle.std.specs.Prelude.{◌≡◌, ℕ, ◌+◌, ◌*◌, ◌/◌, ◌<◌, ◌≤◌, ◌⊎◌, List, ◌++◌, length, flat_map, Result, Option, Some, is_some, ⊤, IsErrOf}
use Rattle.std.specs.Io.KnownBytes.{Consumes}
use Rattle.wdf_io.specs.Causes.{Rose}
use Rattle.wdf_io.specs.Told.{Told}
use Rattle.wdf_wav.specs.declared.format.Format.{Format}
use Rattle.wdf_wav.specs.declared.head.Head.{Head}
use Rattle.wdf_wav.specs.declared.wav_error.WavError.{WavError}
use Rattle.wdf_wav.specs.declared.wav_error.WavError.TheVariants.{Fault, ReadFault}
use Rattle.wdf_wav.specs.declared.wav_error.WavKind.{WavKind}
use Rattle.wdf_wav.specs.Chunks.{BeginsWith, Chunk, chunk_bytes, data_id}
use Rattle.wdf_wav.specs.FormatChunk.{u32_at}
use Rattle.wdf_wav.specs.HeadFaults.{chunk_rows, first_row, form_rows}

-- the head of a format and a size of data: as many whole frames as the size has room for
abbrev pub head_of : Format → ℕ → Head
head_of f size = record { channels = f.channels; rate = f.rate; bits = f.bits; frames = size / (f.channels * (f.bits / 8)) }

-- bytes are the text up to the size of `data`, and tell this head
pub record IsHeaded (bytes : List ℕ) (head : Head) : Type 0 where
  pub chunks : List Chunk
  pub format : Format
  pub size : List ℕ
  pub cut : BeginsWith bytes chunks (Some format) (data_id ++ size)
  pub sized : length size ≡ 4
  pub known : u32_at 0 size < 0xFFFFFF00
  pub tells : head ≡ head_of format (u32_at 0 size)

-- the fault stands in what is left behind some chunks
pub record FailsBehind (bytes : List ℕ) (kind : WavKind) (at : ℕ) : Type 0 where
  pub chunks : List Chunk
  pub told : Option Format
  pub rest : List ℕ
  pub cut : BeginsWith bytes chunks told rest
  pub offset : ℕ
  pub fault : first_row (chunk_rows (length chunks) (is_some told) rest) ≡ Some (kind, offset)
  pub place : at ≡ 12 + length (flat_map chunk_bytes chunks) + offset

-- the first fault of bytes is of this kind and stands at this offset
abbrev pub IsWaveFault : List ℕ → WavKind → ℕ → Type 0
IsWaveFault bytes kind at = (first_row (form_rows bytes) ≡ Some (kind, at)) ⊎ FailsBehind bytes kind at

-- A head was read: the input began with a text that tells it, and lost just that.
pub record TakesHead (left left' : Option (List ℕ)) (head : Head) : Type 0 where
  pub bytes : List ℕ
  pub input : Consumes left left' bytes
  pub headed : IsHeaded bytes head

-- Why no head was read: the first fault of all bytes that the input holds.
abbrev pub HeadStops : Option (List ℕ) → WavError → Type 0
HeadStops left (Fault kind at) = Told left (λ bytes. IsWaveFault bytes kind at)
HeadStops left ReadFault = ⊤

-- the count of faults never falls, and it rose where the answer is ReadFault
pub record HeadHasCause {T : Type 0} (before now : ℕ) (result : Result T WavError) : Type 0 where
  pub later : before ≤ now
  pub failed : IsErrOf result ReadFault → Rose before now
