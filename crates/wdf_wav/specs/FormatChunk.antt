-- The body of the chunk `fmt `, which tells the channels, the rate and the width of a wave's samples.
use Rattle.std.specs.Prelude.{◌≡◌, ℕ, ◌*◌, ◌/◌, ◌≤◌, ◌⊎◌, List, [], ◌∷◌, length, take, drop}
use Rattle.byteorder.specs.Endian.{little_number}
use Rattle.wdf_wav.specs.declared.format.Format.{Format}
use Rattle.wdf_wav.specs.Header.{IsFrameFormat}

-- the field of 16 bits at a place, the lowest byte first
abbrev pub u16_at : ℕ → List ℕ → ℕ
u16_at at bytes = little_number 2 (drop at bytes)

-- the field of 32 bits at a place
abbrev pub u32_at : ℕ → List ℕ → ℕ
u32_at at bytes = little_number 4 (drop at bytes)

-- the tag of uncompressed PCM
abbrev pub pcm_tag : ℕ
pcm_tag = 1

-- the tag of a body that names its samples by a GUID
abbrev pub extensible_tag : ℕ
extensible_tag = 0xFFFE

-- the GUID of uncompressed PCM, 01000000-0000-1000-8000-00aa00389b71
abbrev pub pcm_subformat : List ℕ
pcm_subformat = 1 ∷ 0 ∷ 0 ∷ 0 ∷ 0 ∷ 0 ∷ 16 ∷ 0 ∷ 128 ∷ 0 ∷ 0 ∷ 170 ∷ 0 ∷ 56 ∷ 155 ∷ 113 ∷ []

-- the GUID of an extensible body
abbrev pub subformat_of : List ℕ → List ℕ
subformat_of body = take 16 (drop 24 body)

-- the body of uncompressed PCM by its tag, or by the GUID of an extensible body
pub record IsExtensiblePcm (body : List ℕ) : Type 0 where
  pub tag : u16_at 0 body ≡ extensible_tag
  pub long : 40 ≤ length body
  pub subformat : subformat_of body ≡ pcm_subformat

-- The body tells this format. What stands behind its fields is passed over.
--   0 tag, 2 channels, 4 rate, 8 bytes a second, 12 block align, 14 bits
--   and of an extensible body: 16 size, 18 valid bits, 20 channel mask, 24 GUID
pub record IsFormat (body : List ℕ) (f : Format) : Type 0 where
  pub least : 16 ≤ length body
  pub most : length body ≤ 64
  pub pcm : (u16_at 0 body ≡ pcm_tag) ⊎ IsExtensiblePcm body
  pub channels : u16_at 2 body ≡ f.channels
  pub rate : u32_at 4 body ≡ f.rate
  pub bits : u16_at 14 body ≡ f.bits
  pub frame : IsFrameFormat f.channels f.bits
  pub align : u16_at 12 body ≡ f.channels * (f.bits / 8)
