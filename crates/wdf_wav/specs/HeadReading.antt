-- What the stages of reading a head do to what is left of the input. `at` is the offset of the first byte left.
use Rattle.std.specs.Prelude.{◌≡◌, ℕ, ◌+◌, ◌*◌, ◌^◌, ◌<◌, ◌≤◌, ◌⊎◌, Bool, List, [], ◌++◌, length, take, flat_map, Option, Some, None, ⊤, IfSome, is_some}
use Rattle.std.specs.Io.KnownBytes.{Consumes}
use Rattle.wdf_io.specs.Told.{Told}
use Rattle.wdf_wav.specs.declared.format.Format.{Format}
use Rattle.wdf_wav.specs.declared.head.Head.{Head}
use Rattle.wdf_wav.specs.declared.next.Next.{Next}
use Rattle.wdf_wav.specs.declared.next.Next.TheVariants as next
use Rattle.wdf_wav.specs.declared.seen.Seen.{Seen}
use Rattle.wdf_wav.specs.declared.wav_error.WavError.{WavError}
use Rattle.wdf_wav.specs.declared.wav_error.WavError.TheVariants.{Fault, ReadFault}
use Rattle.wdf_wav.specs.declared.wav_error.WavKind.TheVariants.{ShortHead}
use Rattle.wdf_wav.specs.Chunks.{Chunk, IsForm, MayPrecede, MayStand, chunk_bytes, data_id}
use Rattle.wdf_wav.specs.FormatChunk.{IsFormat, u16_at, u32_at}
use Rattle.wdf_wav.specs.Header.{IsFrameFormat, IsReadHead}
use Rattle.wdf_wav.specs.HeadFaults.{chunk_rows, first_row, form_rows, format_rows}
use Rattle.wdf_wav.specs.WaveHead.{head_of}

-- bytes of this number were taken
pub record TakesBytes (count : ℕ) (left left' : Option (List ℕ)) : Type 0 where
  pub bytes : List ℕ
  pub size : length bytes ≡ count
  pub input : Consumes left left' bytes

-- four bytes of this number were taken
pub record TakesNumber (left left' : Option (List ℕ)) (n : ℕ) : Type 0 where
  pub bytes : List ℕ
  pub size : length bytes ≡ 4
  pub number : n ≡ u32_at 0 bytes
  pub input : Consumes left left' bytes

-- why a part of this size was not taken: the input ends within it
abbrev pub PartStops : ℕ → ℕ → Option (List ℕ) → WavError → Type 0
PartStops size at left (Fault kind place) = (kind ≡ ShortHead) × Told left (λ more. (length more < size) × (place ≡ at + length more))
PartStops size at left ReadFault = ⊤

-- what the fields of a body say, if it tells a format
abbrev pub format_in : List ℕ → Format
format_in body = record { channels = u16_at 2 body; rate = u32_at 4 body; bits = u16_at 14 body }

-- why the body of a chunk `fmt ` at this offset tells no format
abbrev pub FieldsStop : ℕ → List ℕ → WavError → Type 0
FieldsStop at body (Fault kind place) = (offset : ℕ) × (place ≡ at + offset) × (first_row (format_rows body) ≡ Some (kind, offset))
FieldsStop at body ReadFault = ⊥

-- What is known of the chunks that were read: there are at most 64, none longer than its size can say, and the format
-- that one told is read.
pub record IsSeen (seen : Seen) : Type 0 where
  pub few : seen.chunks ≤ 64
  pub near : seen.at ≤ 12 + seen.chunks * (2 ^ 32 + 8)
  pub format : IfSome seen.format (λ f. IsFrameFormat f.channels f.bits)

-- The input does not go on as it should behind these chunks and what was taken of the next, its front.
abbrev pub ChunkStops : Seen → List ℕ → Option (List ℕ) → WavError → Type 0
ChunkStops seen front left (Fault kind place) =
    Told left (λ more. (offset : ℕ) × (place ≡ seen.at + offset) × (first_row (chunk_rows seen.chunks (is_some seen.format) (front ++ more)) ≡ Some (kind, offset)))
ChunkStops seen front left ReadFault = ⊤

-- There is no id: the input ends before it, or within it.
abbrev pub IdStops : ℕ → Option (List ℕ) → WavError → Type 0
IdStops at left (Fault kind place) =
    (count : ℕ) (told : Bool) → Told left (λ more. (offset : ℕ) × (place ≡ at + offset) × (first_row (chunk_rows count told more) ≡ Some (kind, offset)))
IdStops at left ReadFault = ⊤

-- The rest of a chunk behind its front was taken: it may stand where it stands.
pub record Passes (seen : Seen) (front : List ℕ) (left left' : Option (List ℕ)) (seen' : Seen) : Type 0 where
  pub chunk : Chunk
  pub early : seen.chunks < 64
  pub stands : MayStand seen.format seen'.format chunk
  pub count : seen'.chunks ≡ seen.chunks + 1
  pub place : seen'.at ≡ seen.at + length (chunk_bytes chunk)
  pub behind : List ℕ
  pub parts : chunk_bytes chunk ≡ front ++ behind
  pub input : Consumes left left' behind

-- The rest of the id and the size of `data` was taken, and the head is told.
pub record EndsAtData (seen : Seen) (front : List ℕ) (left left' : Option (List ℕ)) (head : Head) : Type 0 where
  pub format : Format
  pub told : seen.format ≡ Some format
  pub size : List ℕ
  pub sized : length size ≡ 4
  pub known : u32_at 0 size < 0xFFFFFF00
  pub tells : head ≡ head_of format (u32_at 0 size)
  pub behind : List ℕ
  pub parts : data_id ++ size ≡ front ++ behind
  pub input : Consumes left left' behind

-- what was read next
abbrev pub NextMeets : Seen → Option (List ℕ) → Option (List ℕ) → Next → Type 0
NextMeets seen left left' (next.Chunk seen') = IsSeen seen' × Passes seen [] left left' seen'
NextMeets seen left left' (next.Data head) = IsReadHead head × EndsAtData seen [] left left' head

-- The body of a chunk `fmt ` was taken, and tells this format.
pub record TakesFormat (size : ℕ) (left left' : Option (List ℕ)) (format : Format) : Type 0 where
  pub body : List ℕ
  pub sized : length body ≡ size
  pub told : IsFormat body format
  pub input : Consumes left left' body

-- the body of a chunk `fmt ` at this offset was not taken whole, or tells no format
abbrev pub BodyStops : ℕ → ℕ → Option (List ℕ) → WavError → Type 0
BodyStops size at left (Fault kind place) = Told left (λ more. ((length more < size) × (kind ≡ ShortHead) × (place ≡ at + 8 + length more))
    ⊎ ((size ≤ length more) × FieldsStop at (take size more) (Fault kind place)))
BodyStops size at left ReadFault = ⊤

-- The twelve bytes before the chunks were taken.
pub record TakesForm (left left' : Option (List ℕ)) : Type 0 where
  pub form : List ℕ
  pub riff : IsForm form
  pub input : Consumes left left' form

-- the first twelve bytes are wrong, or the input ends within them
abbrev pub FormStops : Option (List ℕ) → WavError → Type 0
FormStops left (Fault kind place) = Told left (λ bytes. first_row (form_rows bytes) ≡ Some (kind, place))
FormStops left ReadFault = ⊤

-- The bytes up to here were taken: the twelve and these chunks.
pub record HasSeen (left left' : Option (List ℕ)) (seen : Seen) : Type 0 where
  pub form : List ℕ
  pub riff : IsForm form
  pub chunks : List Chunk
  pub count : length chunks ≡ seen.chunks
  pub precede : MayPrecede None chunks seen.format
  pub place : seen.at ≡ 12 + length (flat_map chunk_bytes chunks)
  pub input : Consumes left left' (form ++ flat_map chunk_bytes chunks)
