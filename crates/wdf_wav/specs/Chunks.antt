-- The head of a wave as a text of chunks: a RIFF file of the form WAVE is twelve bytes and then chunks.
use Rattle.std.specs.Prelude.{◌≡◌, ◌≢◌, ℕ, ◌%◌, ◌≤◌, ◌⊎◌, List, [], ◌∷◌, ◌++◌, length, flat_map, codes, Option, Some, None}
use Rattle.wdf_wav.specs.declared.format.Format.{Format}
use Rattle.wdf_wav.specs.FormatChunk.{IsFormat, u32_at}

-- the twelve bytes: two words, and a size between them that nothing depends on
pub record IsForm (form : List ℕ) : Type 0 where
  pub size : List ℕ
  pub sized : length size ≡ 4
  pub parts : form ≡ codes "RIFF" ++ (size ++ codes "WAVE")

-- the parts of a chunk
pub record Chunk : Type 0 where
  pub id : List ℕ
  pub size : List ℕ
  pub body : List ℕ
  pub pad : List ℕ

-- four bytes of id, four of size, as many of body, and a pad byte after a body of odd size
pub record IsChunk (c : Chunk) : Type 0 where
  pub named : length c.id ≡ 4
  pub sized : length c.size ≡ 4
  pub whole : length c.body ≡ u32_at 0 c.size
  pub padded : length c.pad ≡ length c.body % 2

abbrev pub chunk_bytes : Chunk → List ℕ
chunk_bytes c = c.id ++ (c.size ++ (c.body ++ c.pad))

abbrev pub format_id : List ℕ
format_id = codes "fmt "

abbrev pub data_id : List ℕ
data_id = codes "data"

-- the first `fmt ` tells its format
pub record TellsFormat (before after : Option Format) (c : Chunk) : Type 0 where
  pub id : c.id ≡ format_id
  pub first : before ≡ None
  pub format : Format
  pub told : after ≡ Some format
  pub body : IsFormat c.body format

-- a chunk that is neither `fmt ` nor `data` is passed over
pub record IsPassedOver (before after : Option Format) (c : Chunk) : Type 0 where
  pub other : c.id ≢ format_id
  pub same : after ≡ before

-- a chunk that may stand before `data`, with the formats that were told before it and after it
pub record MayStand (before after : Option Format) (c : Chunk) : Type 0 where
  pub chunk : IsChunk c
  pub early : c.id ≢ data_id
  pub told : TellsFormat before after c ⊎ IsPassedOver before after c

-- chunks that may stand before `data`, one after the other
abbrev pub MayPrecede : Option Format → List Chunk → Option Format → Type 0
MayPrecede before [] after = after ≡ before
MayPrecede before (c ∷ cs) after = (next : Option Format) × MayStand before next c × MayPrecede next cs after

-- bytes are the twelve, at most 64 such chunks and a rest
pub record BeginsWith (bytes : List ℕ) (chunks : List Chunk) (told : Option Format) (rest : List ℕ) : Type 0 where
  pub form : List ℕ
  pub riff : IsForm form
  pub few : length chunks ≤ 64
  pub precede : MayPrecede None chunks told
  pub parts : bytes ≡ form ++ (flat_map chunk_bytes chunks ++ rest)
