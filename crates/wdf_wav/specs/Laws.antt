-- What the laws of the format say.
use Rattle.std.specs.Prelude.{◌≡◌, ℕ, ◌+◌, ◌*◌, ◌/◌, ◌%◌, ◌<◌, ◌≤◌, List, [], ◌∷◌, ◌++◌, length, take, drop, ℤ}
use Rattle.wdf_wav.specs.declared.head.Head.{Head}
use Rattle.wdf_wav.specs.Header.{block_align}
use Rattle.wdf_wav.specs.PcmStream.{data_of, sample_at, samples_of}
use Rattle.wdf_wav.specs.SampleCoding.{sample_coding, sample_value}

-- the bytes of one sample hold that one
abbrev pub HoldsOneSample : ℕ → Type 0
HoldsOneSample bits = (bytes : List ℕ) → length bytes ≡ bits / 8
    → samples_of bits bytes ≡ sample_value bits bytes ∷ []

-- the data of one sample is its coding
abbrev pub CodesOneSample : ℕ → Type 0
CodesOneSample bits = (value : ℤ) → data_of bits (value ∷ []) ≡ sample_coding bits value

-- bytes after whole samples add their own samples
abbrev pub SamplesAppend : ℕ → Type 0
SamplesAppend bits = (body more : List ℕ) → length body % (bits / 8) ≡ 0
    → samples_of bits (body ++ more) ≡ samples_of bits body ++ samples_of bits more

-- further samples add their own bytes
abbrev pub DataAppends : ℕ → Type 0
DataAppends bits = (samples more : List ℤ)
    → data_of bits (samples ++ more) ≡ data_of bits samples ++ data_of bits more

-- there is a sample for each whole bits / 8 bytes
abbrev pub CountsSamples : ℕ → Type 0
CountsSamples bits = (body : List ℕ) → length (samples_of bits body) ≡ length body / (bits / 8)

-- there are bits / 8 bytes for each sample
abbrev pub CountsBytes : ℕ → Type 0
CountsBytes bits = (samples : List ℤ) → length (data_of bits samples) ≡ length samples * (bits / 8)

-- the place of a sample in body: frame · block align + channel · bits / 8
abbrev pub place_of : Head → ℕ → ℕ → ℕ
place_of head frame channel = frame * block_align head + channel * (head.bits / 8)

-- the sample of a channel in a whole frame of body has its bits / 8 bytes at that place
abbrev pub HoldsSampleAt : Head → Type 0
HoldsSampleAt head = (body : List ℕ) (frame channel : ℕ)
    → (frame + 1) * block_align head ≤ length body
    → channel < head.channels
    → sample_at head body frame channel
    ≡ sample_value head.bits (take (head.bits / 8) (drop (place_of head frame channel) body))
