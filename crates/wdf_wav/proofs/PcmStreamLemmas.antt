-- The samples in the bytes of a wave's data.
use Rattle.std.proofs.Common.{◌≡◌, ℕ, ◌+◌, ◌*◌, ◌/◌, ◌%◌, ◌<◌, ◌≤◌, List, [], ◌∷◌, ◌++◌, length, map, take, drop, ℤ, pos, refl, ap, ◌∙◌, arith}
use Rattle.std.proofs.Math.Nat.{div_self, le-div_iff_mul-le, mul-add-div_right, mul-le-mul_right}
use Rattle.std.proofs.lemmas.List.{map-append, length-map, length-append, take_all, get_or-map}
use Rattle.wdf_algebra.specs.Pieces.{pieces}
use Rattle.wdf_algebra.specs.Samples.{IsSampleWidth}
use Rattle.wdf_algebra.proofs.PieceLemmas.{pieces-append, length-pieces, get_or-pieces}
use Rattle.wdf_wav.specs.declared.head.Head.{Head}
use Rattle.wdf_wav.specs.Header.{IsFrameFormat, block_align}
use Rattle.wdf_wav.specs.PcmStream.{data_of, sample_at, samples_of}
use Rattle.wdf_wav.specs.SampleCoding.{sample_coding, sample_value}
use Rattle.wdf_wav.proofs.SampleLemmas.{length-sample_coding}

-- a sample has at least one byte
sample_size-pos : (bits : ℕ) → IsSampleWidth bits → 0 < bits / 8
sample_size-pos bits w = grind arith

-- how many samples there are
pub length-samples_of : (bits : ℕ) (body : List ℕ) → length (samples_of bits body) ≡ length body / (bits / 8)
length-samples_of bits body =
    length-map (pieces (length body / (bits / 8)) (bits / 8) body) (sample_value bits)
    ∙ length-pieces (length body / (bits / 8)) (bits / 8) body

-- the samples of the bytes of whole samples and of what follows
pub samples_of-append : (bits : ℕ) (body more : List ℕ) → IsSampleWidth bits → length body % (bits / 8) ≡ 0
    → samples_of bits (body ++ more) ≡ samples_of bits body ++ samples_of bits more
samples_of-append bits body more w whole =
    let size = bits / 8 in
    let some : 0 < size = sample_size-pos bits w in
    let count = length body / size in
    let exact : length body ≡ count * size = omega arith in
    let joined : length (body ++ more) ≡ count * size + length more = omega (arith, length-append body more) in
    let split : length (body ++ more) / size ≡ count + length more / size =
    ap (λ (n : ℕ). n / size) joined ∙ mul-add-div_right some count (length more) in
    ap (λ (n : ℕ). map (sample_value bits) (pieces n size (body ++ more))) split
    ∙ ap (map (sample_value bits)) (pieces-append count (length more / size) size body more exact)
    ∙ map-append (sample_value bits) (pieces count size body) (pieces (length more / size) size more)

-- the one sample of its bytes
pub samples_of-sample : (bits : ℕ) (bytes : List ℕ) → IsSampleWidth bits → length bytes ≡ bits / 8 → samples_of bits bytes ≡ sample_value bits bytes ∷ []
samples_of-sample bits bytes w whole =
    let size = bits / 8 in
    let some : 0 < size = sample_size-pos bits w in
    let one : length bytes / size ≡ 1 = ap (λ (n : ℕ). n / size) whole ∙ div_self some in
    let all : take size bytes ≡ bytes = take_all size bytes (omega arith) in
    rw (one, all) refl

-- how many bytes samples have
pub length-data_of : (bits : ℕ) (samples : List ℤ) → length (data_of bits samples) ≡ length samples * (bits / 8)
length-data_of bits [] = omega arith
length-data_of bits (z ∷ zs) =
    let rest = length-data_of bits zs in
    omega (arith, length-append (sample_coding bits z) (data_of bits zs), length-sample_coding bits z)

-- the sample of a channel in a whole frame
pub sample_at_is : (head : Head) (body : List ℕ) (frame channel : ℕ) → IsFrameFormat head.channels head.bits → (frame + 1) * block_align head ≤ length body → channel < head.channels
    → sample_at head body frame channel ≡ sample_value head.bits (take (head.bits / 8) (drop (frame * block_align head + channel * (head.bits / 8)) body))
sample_at_is head body frame channel format whole inside =
    let size = head.bits / 8 in
    let some : 0 < size = sample_size-pos head.bits format.width in
    let count = length body / size in
    let k = frame * head.channels + channel in
    let last : (k + 1) * size ≤ (frame * head.channels + head.channels) * size = mul-le-mul_right size (omega arith) in
    let within : k + 1 ≤ count = (le-div_iff_mul-le some).1 (omega arith) in
    let below : k < count = omega arith in
    let place : k * size ≡ frame * block_align head + channel * size = omega arith in
    get_or-map (sample_value head.bits) (pieces count size body) k [] (pos 0) (rw length-pieces below)
    ∙ ap (sample_value head.bits) (get_or-pieces count size k body [] below ∙ ap (λ (n : ℕ). take size (drop n body)) place)
