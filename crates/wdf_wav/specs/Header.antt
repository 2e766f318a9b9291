-- The header of an uncompressed PCM wave, and the sizes that stand in it.
use Rattle.std.specs.Prelude.{ℕ, ◌+◌, ◌*◌, ◌/◌, ◌%◌, ◌<◌, ◌≤◌, List, ◌++◌, codes}
use Rattle.byteorder.specs.Endian.{little_bytes}
use Rattle.wdf_algebra.specs.Samples.{IsSampleWidth}
use Rattle.wdf_wav.specs.declared.head.Head.{Head}

-- the frames that are read and written: one to eight channels of samples of 8, 16, 24 or 32 bits
pub record IsFrameFormat (channels bits : ℕ) : Type 0 where
  pub some_channel : 1 ≤ channels
  pub few_channels : channels ≤ 8
  pub width : IsSampleWidth bits

-- the bytes of a frame, which is one sample of each channel: channels · bits / 8
abbrev pub block_align : Head → ℕ
block_align head = head.channels * (head.bits / 8)

-- the bytes of all frames: frames · block align
abbrev pub data_size : Head → ℕ
data_size head = head.frames * block_align head

-- the pad byte after data of odd size
abbrev pub pad_size : Head → ℕ
pad_size head = data_size head % 2

-- the heads that are read: from 0xFFFFFF00 on a size stands for an unknown length
pub record IsReadHead (head : Head) : Type 0 where
  pub format : IsFrameFormat head.channels head.bits
  pub size : data_size head < 0xFFFFFF00

-- the heads that a header is written for: its rate is at most 1,000,000, so that no field wraps, and
-- from 0xFFFFFF00 on a size stands for an unknown length
pub record IsPcmHead (head : Head) : Type 0 where
  pub format : IsFrameFormat head.channels head.bits
  pub rate : head.rate ≤ 1000000
  pub size : data_size head < 0xFFFFFF00

-- a field of 16 bits, the lowest byte first
abbrev pub u16 : ℕ → List ℕ
u16 n = little_bytes 2 n

-- a field of 32 bits, the lowest byte first
abbrev pub u32 : ℕ → List ℕ
u32 n = little_bytes 4 n

-- the 44 bytes before the data, field by field, each with its place
unfoldable pub head_bytes_of : Head → List ℕ
head_bytes_of head =
    codes "RIFF"  -- 0: the file's id
    ++ u32 (36 + data_size head + pad_size head)  -- 4: the bytes after this field
    ++ codes "WAVE"  -- 8: the file's form
    ++ codes "fmt "  -- 12: the id of the format chunk
    ++ u32 16  -- 16: the size of the chunk
    ++ u16 1  -- 20: the tag of uncompressed PCM
    ++ u16 head.channels  -- 22: channels
    ++ u32 head.rate  -- 24: frames a second
    ++ u32 (head.rate * block_align head)  -- 28: bytes a second
    ++ u16 (block_align head)  -- 32: bytes a frame
    ++ u16 head.bits  -- 34: bits a sample
    ++ codes "data"  -- 36: the id of the data chunk
    ++ u32 (data_size head)  -- 40: the size of the chunk
