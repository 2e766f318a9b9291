-- The input behind a head has one end.
use Rattle.std.proofs.Common.{◌≡◌, ℕ, zero, suc, inl, inr, ◌+◌, ◌*◌, ◌/◌, ◌<◌, ◌≤◌, List, ◌++◌, length, take, Result, Ok, Err, refl, sym, ap, ◌∙◌, subst, arith, length-append}
use Rattle.std.specs.Prelude.{ℤ, pos, unsigned_abs, slice_index_or}
use Rattle.std.proofs.Math.Nat.{mul-le-mul_right, lt_of_mul-lt-mul_right, div-eq_of_lt, mul-add-div_right}
use Rattle.std.proofs.lemmas.List.{take_at, get_or-take, length-take}
use Rattle.wdf_algebra.specs.Samples.{IsSampleWidth}
use Rattle.wdf_wav.specs.Header.{data_size}
use Rattle.wdf_wav.specs.Laws.{SamplesAppend, CountsSamples}
use Rattle.wdf_frames.specs.declared.frame_stop.FrameStop.{FrameStop}
use Rattle.wdf_frames.specs.declared.frame_stop.FrameStop.TheVariants.{Amplitude, Truncated, ReadFault, WriteFault}
use Rattle.wdf_frames.specs.Setting.{Setting, AreSmall, AreWithin, read_size, samples_in}
use Rattle.wdf_frames.specs.Ends.{EndsWhole, EndsOver, EndsShort, IsEndAnswer, HasOneEnd}
use Rattle.wdf_frames.specs.Progress.{HasSampleLaws}
use Rattle.wdf_frames.proofs.FrameLemmas.{length_samples, samples_more, take_front}
use Rattle.wdf_frames.proofs.WidthLemmas.{some_byte}

-- ---- what an end says of the samples of the input as a whole

-- the first sample over amp is the one at this place
record IsOverAt (s : Setting) (samples : List ℤ) (place : ℕ) (sample : ℤ) : Type 0 where
  inside : place < length samples
  value : slice_index_or samples place (pos 0) ≡ sample
  over : s.plan.amp < unsigned_abs sample
  before : AreSmall s (take place samples)

-- those of count whole frames are the first
front_samples : (s : Setting) → HasSampleLaws s → (count : ℕ) (rest body more : List ℕ) → rest ≡ body ++ more → length body ≡ count * read_size s
    → take (count * s.head.channels) (samples_in s rest) ≡ samples_in s body
front_samples s laws count rest body more whole long =
    ap (λ (l : List ℕ). take (count * s.head.channels) (samples_in s l)) whole
    ∙ (ap (take (count * s.head.channels)) (samples_more s laws count body more long) ∙ take_at (samples_in s body) (samples_in s more) (count * s.head.channels) (length_samples s laws count body long))

place_below : (frame channel channels count : ℕ) → channel < channels → frame + 1 ≤ count → frame * channels + channel < count * channels
place_below frame channel channels count inside less = let most : (frame + 1) * channels ≤ count * channels = mul-le-mul_right channels less in omega arith

frames_below : (frame count size : ℕ) → 0 < size → (frame + 1) * size ≤ count * size → frame + 1 ≤ count
frames_below frame count size some most = let less : frame + 1 < count + 1 = lt_of_mul-lt-mul_right size (omega arith) in omega arith

some_size : (s : Setting) → HasSampleLaws s → 0 < read_size s
some_size s laws =
    let byte = some_byte s.head.bits laws.width in
    let most : 1 * (s.head.bits / 8) ≤ s.head.channels * (s.head.bits / 8) = mul-le-mul_right (s.head.bits / 8) laws.some_channel in
    omega arith

-- as many samples as those of count whole frames are there
enough : (s : Setting) → HasSampleLaws s → (count : ℕ) (rest body more : List ℕ) → rest ≡ body ++ more → length body ≡ count * read_size s → count * s.head.channels ≤ length (samples_in s rest)
enough s laws count rest body more whole long =
    let taken : length (take (count * s.head.channels) (samples_in s rest)) ≡ count * s.head.channels
    = ap length (front_samples s laws count rest body more whole long) ∙ length_samples s laws count body long in
    omega (arith, length-take (count * s.head.channels) (samples_in s rest))

over_at : (s : Setting) → HasSampleLaws s → (rest : List ℕ) (frame channel : ℕ) (sample : ℤ) → (end : EndsOver s rest frame channel sample)
    → IsOverAt s (samples_in s rest) (frame * s.head.channels + channel) sample × (frame * s.head.channels + channel < end.count * s.head.channels)
over_at s laws rest frame channel sample end =
    let n = end.count * s.head.channels in
    let place = frame * s.head.channels + channel in
    let front = front_samples s laws end.count rest end.body end.more end.whole end.size in
    let whole : (frame + 1) * read_size s ≤ end.count * read_size s = subst (λ (m : ℕ). (frame + 1) * read_size s ≤ m) end.size end.over.whole_frame in
    let below : frame * s.head.channels + channel < end.count * s.head.channels
    = place_below frame channel s.head.channels end.count end.over.one_channel (frames_below frame end.count (read_size s) (some_size s laws) whole) in
    let room = enough s laws end.count rest end.body end.more end.whole end.size in (
      record {
        inside = omega arith;
        value = sym (get_or-take n (samples_in s rest) place (pos 0) below) ∙ (ap (λ (l : List ℤ). slice_index_or l place (pos 0)) front ∙ end.over.value);
        over = end.over.over;
        before = subst (AreSmall s) (sym (sym (take_front place n (samples_in s rest) (omega arith)) ∙ ap (take place) front)) end.over.before;
      },
      below,
    )

within_at : (s : Setting) → HasSampleLaws s → (count : ℕ) (rest body more : List ℕ) → rest ≡ body ++ more → length body ≡ count * read_size s → AreWithin s body
    → AreSmall s (take (count * s.head.channels) (samples_in s rest))
within_at s laws count rest body more whole long within = subst (AreSmall s) (sym (front_samples s laws count rest body more whole long)) within

-- ---- two ends

not_over : (s : Setting) (samples : List ℤ) (count place : ℕ) (sample : ℤ) → AreSmall s (take count samples) → IsOverAt s samples place sample → place < count → ⊥
not_over s samples count place sample small over below =
    let inside = over.inside in
    let there : place < length (take count samples) = omega (arith, length-take count samples) in
    let least : unsigned_abs (slice_index_or (take count samples) place (pos 0)) ≤ s.plan.amp = small place (pos 0) there in
    let same : slice_index_or (take count samples) place (pos 0) ≡ sample = get_or-take count samples place (pos 0) below ∙ over.value in
    let bound : unsigned_abs sample ≤ s.plan.amp = subst (λ (z : ℤ). unsigned_abs z ≤ s.plan.amp) same least in
    let more = over.over in
    omega arith

one_place : (s : Setting) (samples : List ℤ) (i j : ℕ) (v w : ℤ) → IsOverAt s samples i v → IsOverAt s samples j w → i ≡ j
one_place s samples i j v w first second = apart i j (λ less. not_over s samples j i v second.before first less) (λ less. not_over s samples i j w first.before second less)
  where
    apart : (i j : ℕ) → (i < j → ⊥) → (j < i → ⊥) → i ≡ j
    apart zero zero f g = refl
    apart zero (suc j) f g = absurd (f (omega arith))
    apart (suc i) zero f g = absurd (g (omega arith))
    apart (suc i) (suc j) f g = ap suc (apart i j (λ h. f (omega (arith, h))) (λ h. g (omega (arith, h))))

-- so many whole frames and no more
at_most : (s : Setting) → HasSampleLaws s → (rest : List ℕ) (n count : ℕ) → (end : EndsShort s rest n) → count * read_size s ≤ length rest → count ≤ n
at_most s laws rest n count end room =
    let part = end.part in
    let long : length rest ≡ n * read_size s + length end.tail = ap length end.whole ∙ (length-append end.body end.tail ∙ ap (λ (m : ℕ). m + length end.tail) end.size) in
    let less : count < n + 1 = lt_of_mul-lt-mul_right (read_size s) (omega arith) in
    omega arith

held : (rest body more : List ℕ) (n : ℕ) → rest ≡ body ++ more → length body ≡ n → n ≤ length rest
held rest body more n whole long = let all : length rest ≡ length body + length more = ap length whole ∙ length-append body more in omega arith

-- the sample over amp is not among frames that are within amp
apart_from : (s : Setting) → HasSampleLaws s → (rest body more : List ℕ) (count frame channel : ℕ) (sample : ℤ) → rest ≡ body ++ more → length body ≡ count * read_size s → AreWithin s body
    → (end : EndsOver s rest frame channel sample) → end.count ≤ count → ⊥
apart_from s laws rest body more count frame channel sample whole long within end less =
    let at = over_at s laws rest frame channel sample end in
    let below = at.1 in
    let most : end.count * s.head.channels ≤ count * s.head.channels = mul-le-mul_right s.head.channels less in
    not_over s (samples_in s rest) (count * s.head.channels) (frame * s.head.channels + channel) sample (within_at s laws count rest body more whole long within) at.0 (omega arith)

not_short : (s : Setting) → HasSampleLaws s → (rest : List ℕ) (n : ℕ) → EndsWhole s rest → EndsShort s rest n → ⊥
not_short s laws rest n whole short =
    let few = short.few in
    let less = at_most s laws rest n s.head.frames short (held rest whole.body whole.more (data_size s.head) whole.whole whole.size) in
    omega arith

same_over : (s : Setting) → HasSampleLaws s → (rest : List ℕ) (frame channel frame' channel' : ℕ) (sample sample' : ℤ) → EndsOver s rest frame channel sample
    → EndsOver s rest frame' channel' sample' → (frame ≡ frame') × (channel ≡ channel') × (sample ≡ sample')
same_over s laws rest frame channel frame' channel' sample sample' first second =
    let channels = s.head.channels in
    let a = over_at s laws rest frame channel sample first in
    let b = over_at s laws rest frame' channel' sample' second in
    let place = one_place s (samples_in s rest) (frame * channels + channel) (frame' * channels + channel') sample sample' a.0 b.0 in
    let frames : frame ≡ frame'
    = sym (quotient frame channel channels laws.some_channel first.over.one_channel) ∙ (ap (λ (n : ℕ). n / channels) place ∙ quotient frame' channel' channels laws.some_channel second.over.one_channel) in
    let before : frame * channels ≡ frame' * channels = ap (λ (n : ℕ). n * channels) frames in
    let one : channel ≡ channel' = omega arith in
    (frames, one, sym a.0.value ∙ (ap (λ (n : ℕ). slice_index_or (samples_in s rest) n (pos 0)) place ∙ b.0.value))
  where
    quotient : (frame channel channels : ℕ) → 1 ≤ channels → channel < channels → (frame * channels + channel) / channels ≡ frame
    quotient frame channel channels some inside = mul-add-div_right some frame channel ∙ (ap (λ (n : ℕ). frame + n) (div-eq_of_lt inside) ∙ omega arith)

same_short : (s : Setting) → HasSampleLaws s → (rest : List ℕ) (n m : ℕ) → EndsShort s rest n → EndsShort s rest m → n ≡ m
same_short s laws rest n m first second =
    let less = at_most s laws rest n m first (held rest second.body second.tail (m * read_size s) second.whole second.size) in
    let more = at_most s laws rest m n second (held rest first.body first.tail (n * read_size s) first.whole first.size) in
    omega arith

over_or_short : (s : Setting) → HasSampleLaws s → (rest : List ℕ) (frame channel n : ℕ) (sample : ℤ) → EndsOver s rest frame channel sample → EndsShort s rest n → ⊥
over_or_short s laws rest frame channel n sample over short =
    apart_from s laws rest short.body short.tail n frame channel sample short.whole short.size short.within over
    (at_most s laws rest n over.count short (held rest over.body over.more (over.count * read_size s) over.whole over.size))

over_or_whole : (s : Setting) → HasSampleLaws s → (rest : List ℕ) (frame channel : ℕ) (sample : ℤ) → EndsOver s rest frame channel sample → EndsWhole s rest → ⊥
over_or_whole s laws rest frame channel sample over whole = apart_from s laws rest whole.body whole.more s.head.frames frame channel sample whole.whole whole.size whole.within over over.few

same_end : (s : Setting) → HasSampleLaws s → (rest : List ℕ) (x y : Result (Unit {0}) FrameStop) → IsEndAnswer s rest x → IsEndAnswer s rest y → x ≡ y
same_end s laws rest (Ok a) (Ok b) h k = refl
same_end s laws rest (Ok a) (Err (Amplitude frame channel sample)) h k = absurd (over_or_whole s laws rest frame channel sample k h)
same_end s laws rest (Ok a) (Err (Truncated n)) h k = absurd (not_short s laws rest n h k)
same_end s laws rest (Ok a) (Err ReadFault) h k = absurd k
same_end s laws rest (Ok a) (Err WriteFault) h k = absurd k
same_end s laws rest (Err (Amplitude frame channel sample)) (Ok b) h k = absurd (over_or_whole s laws rest frame channel sample h k)
same_end s laws rest (Err (Amplitude frame channel sample)) (Err (Amplitude frame' channel' sample')) h k =
    let same = same_over s laws rest frame channel frame' channel' sample sample' h k in λ i. Err (Amplitude (same.0 i) (same.1 i) (same.2 i))
same_end s laws rest (Err (Amplitude frame channel sample)) (Err (Truncated n)) h k = absurd (over_or_short s laws rest frame channel n sample h k)
same_end s laws rest (Err (Amplitude frame channel sample)) (Err ReadFault) h k = absurd k
same_end s laws rest (Err (Amplitude frame channel sample)) (Err WriteFault) h k = absurd k
same_end s laws rest (Err (Truncated n)) (Ok b) h k = absurd (not_short s laws rest n k h)
same_end s laws rest (Err (Truncated n)) (Err (Amplitude frame channel sample)) h k = absurd (over_or_short s laws rest frame channel n sample k h)
same_end s laws rest (Err (Truncated n)) (Err (Truncated m)) h k = ap (λ (n : ℕ). Err (Truncated n)) (same_short s laws rest n m h k)
same_end s laws rest (Err (Truncated n)) (Err ReadFault) h k = absurd k
same_end s laws rest (Err (Truncated n)) (Err WriteFault) h k = absurd k
same_end s laws rest (Err ReadFault) y h k = absurd h
same_end s laws rest (Err WriteFault) y h k = absurd h

-- ---- for samples of each width

abbrev ReadsWidth : ℕ → Type 0
ReadsWidth bits = SamplesAppend bits × CountsSamples bits

reads_width : ReadsWidth 8 → ReadsWidth 16 → ReadsWidth 24 → ReadsWidth 32 → (bits : ℕ) → IsSampleWidth bits → ReadsWidth bits
reads_width a b c d bits (inl w) = subst ReadsWidth (sym w) a
reads_width a b c d bits (inr (inl w)) = subst ReadsWidth (sym w) b
reads_width a b c d bits (inr (inr (inl w))) = subst ReadsWidth (sym w) c
reads_width a b c d bits (inr (inr (inr w))) = subst ReadsWidth (sym w) d

pub one_end : SamplesAppend 8 → CountsSamples 8 → SamplesAppend 16 → CountsSamples 16 → SamplesAppend 24 → CountsSamples 24 → SamplesAppend 32 → CountsSamples 32 → HasOneEnd
one_end a a' b b' c c' d d' = λ s rest x y format h k.
    let reads = reads_width (a, a') (b, b') (c, c') (d, d') s.head.bits format.width in
    same_end s (record { width = format.width; some_channel = format.some_channel; read = reads.0; counts = reads.1 }) rest x y h k
