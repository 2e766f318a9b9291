-- A wave as a stream of bytes, and the samples that its data holds.
use Rattle.std.specs.Prelude.{◌≡◌, ℕ, ◌+◌, ◌*◌, ◌/◌, List, [], ◌++◌, length, map, slice_index_or, ℤ, pos, flat_map, Option}
use Rattle.std.specs.Io.KnownBytes.{Consumes}
use Rattle.wdf_algebra.specs.Pieces.{pieces}
use Rattle.wdf_wav.specs.declared.head.Head.{Head}
use Rattle.wdf_wav.specs.Header.{IsPcmHead, data_size, head_bytes_of}
use Rattle.wdf_wav.specs.SampleCoding.{sample_coding, sample_value}
use Rattle.wdf_wav.specs.WaveHead.{IsHeaded}

-- bytes are a wave: the text of its head, then body, the bytes of all its frames, then rest
pub record IsPcmStream (bytes : List ℕ) (head : Head) (body rest : List ℕ) : Type 0 where
  pub front : List ℕ
  pub headed : IsHeaded front head
  pub parts : bytes ≡ front ++ (body ++ rest)
  pub size : length body ≡ data_size head

-- A wave was read: the input lost its head's text and the bytes of all its frames.
pub record ReadsStream (left left' : Option (List ℕ)) (head : Head) (body : List ℕ) : Type 0 where
  pub bytes : List ℕ
  pub stream : IsPcmStream bytes head body []
  pub input : Consumes left left' bytes

-- a wave in the plain form, which is the one written: the head's text is the 44 bytes of its header
pub record IsPlainStream (bytes : List ℕ) (head : Head) (body rest : List ℕ) : Type 0 where
  pub valid : IsPcmHead head
  pub parts : bytes ≡ head_bytes_of head ++ body ++ rest
  pub size : length body ≡ data_size head

-- the samples of body, one in each bits / 8 bytes:
-- frame after frame, and in each frame channel after channel
abbrev pub samples_of : ℕ → List ℕ → List ℤ
samples_of bits body = map (sample_value bits) (pieces (length body / (bits / 8)) (bits / 8) body)

-- the sample of one channel in one frame of body, both counted from 0
abbrev pub sample_at : Head → List ℕ → ℕ → ℕ → ℤ
sample_at head body frame channel =
    slice_index_or (samples_of head.bits body) (frame * head.channels + channel) (pos 0)

-- the bytes of samples, one after another
abbrev pub data_of : ℕ → List ℤ → List ℕ
data_of bits samples = flat_map (sample_coding bits) samples
