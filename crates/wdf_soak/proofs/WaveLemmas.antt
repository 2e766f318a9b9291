-- The made wave is whole, and no sample of it is over the amplitude of the usual plan.
use Rattle.std.proofs.Common.{◌≡◌, ℕ, ◌+◌, ◌*◌, ◌/◌, ◌%◌, ◌^◌, ◌<◌, ◌≤◌, Bool, true, false, if◌then◌else◌, inl, inr, List, [], ◌∷◌, ◌++◌, length, refl, sym, ap, ◌∙◌, subst, arith}
use Rattle.std.specs.Prelude.{ℤ, pos, ◌-ℤ◌, unsigned_abs, nat_lt, All}
use Rattle.std.proofs.lemmas.Bool.Decides.{nat_tests}
use Rattle.std.proofs.lemmas.List.Elements.{All-nil, All-cons}
use Rattle.std.proofs.lemmas.List.FromFn.{length-map-range_with_len}
use Rattle.wdf_lattice.specs.declared.networks.Networks.{Networks}
use Rattle.wdf_wav.specs.Header.{IsPcmHead}
use Rattle.wdf_wav.specs.Laws.{CodesOneSample, CountsBytes, DataAppends, HoldsOneSample, SamplesAppend}
use Rattle.wdf_wav.specs.PcmStream.{data_of, samples_of}
use Rattle.wdf_wav.specs.SampleCoding.{code_of_value, sample_coding, sample_value}
use Rattle.wdf_frames.specs.Setting.{Setting}
use Rattle.wdf_made.specs.Generator.{word_at}
use Rattle.wdf_made.specs.declared.TheConstants.{MAX_FRAMES}
use Rattle.wdf_made.specs.Wave.{made_data, made_head, made_samples, sample_from}
use Rattle.wdf_soak.specs.Soaks.{made_setting}
use Rattle.wdf_soak.proofs.RunLemmas.{IsWholeWave}

abbrev IsSmall : ℤ → Type 0
IsSmall z = unsigned_abs z ≤ 32768

-- the value of a code of 16 bits
value_small : (code : ℕ) → code < 65536 → (t : Bool) → nat_lt code 32768 ≡ t → IsSmall (if t then pos code else pos code -ℤ pos 65536)
value_small code few true e = grind (arith, nat_tests)
value_small code few false e = grind (arith, nat_tests)

-- two bytes are a code of 16 bits
byte_small : (n : ℕ) → n % 256 < 256
byte_small n = omega arith

two_small : (low high : ℕ) → low < 256 → high < 256 → low + 256 * (high + 256 * 0) < 65536
two_small low high l h = omega arith

coding_small : (z : ℤ) → IsSmall (sample_value 16 (sample_coding 16 z))
unfolding sample_value sample_coding
coding_small z =
    let n = code_of_value 16 z in
    let code = n % 256 + 256 * (n / 256 ^ 1 % 256 + 256 * 0) in
    value_small code (two_small (n % 256) (n / 256 ^ 1 % 256) (byte_small n) (byte_small (n / 256 ^ 1))) (nat_lt code 32768) refl

samples_small : SamplesAppend 16 → HoldsOneSample 16 → DataAppends 16 → CodesOneSample 16 → CountsBytes 16 → (zs : List ℤ) → All IsSmall (samples_of 16 (data_of 16 zs))
samples_small append holds appends codes counts [] = All-nil IsSmall
samples_small append holds appends codes counts (z ∷ zs) =
    let two : length (data_of 16 (z ∷ [])) ≡ 2 = counts (z ∷ []) in
    let first : samples_of 16 (data_of 16 (z ∷ [])) ≡ sample_value 16 (sample_coding 16 z) ∷ [] =
    holds (data_of 16 (z ∷ [])) two ∙ ap (λ (bytes : List ℕ). sample_value 16 bytes ∷ []) (codes z) in
    let read : samples_of 16 (data_of 16 (z ∷ zs)) ≡ sample_value 16 (sample_coding 16 z) ∷ samples_of 16 (data_of 16 zs) =
    ap (samples_of 16) (appends (z ∷ []) zs)
    ∙ append (data_of 16 (z ∷ [])) (data_of 16 zs) (ap (λ (n : ℕ). n % 2) two)
    ∙ ap (λ (ys : List ℤ). ys ++ samples_of 16 (data_of 16 zs)) first in
    subst (All IsSmall) (sym read)
    (All-cons IsSmall (sample_value 16 (sample_coding 16 z)) (samples_of 16 (data_of 16 zs)) (coding_small z) (samples_small append holds appends codes counts zs))

is_whole_wave : SamplesAppend 16 → HoldsOneSample 16 → DataAppends 16 → CodesOneSample 16 → CountsBytes 16 → (ns : Networks) (seed order frames : ℕ)
    → IsWholeWave (made_setting ns frames) (made_data seed order frames)
is_whole_wave append holds appends codes counts ns seed order frames =
    let samples = made_samples seed order frames in
    let bytes : length (made_data seed order frames) ≡ length (made_samples seed order frames) * 2 = counts samples in
    let count : length (made_samples seed order frames) ≡ frames = length-map-range_with_len (λ (frame : ℕ). sample_from (word_at seed (order + frame))) 0 frames in
    record {
      format = record { some_channel = omega arith; few_channels = omega arith; width = inr (inl refl) };
      size = omega (arith, bytes, count);
      within = samples_small append holds appends codes counts samples;
    }

-- so is that of a run on a made wave
pub made_whole : SamplesAppend 16 → HoldsOneSample 16 → DataAppends 16 → CodesOneSample 16 → CountsBytes 16 → (s : Setting) (seed order frames : ℕ)
    → s ≡ made_setting s.networks frames → IsWholeWave s (made_data seed order frames)
made_whole append holds appends codes counts s seed order frames set =
    subst (λ (x : Setting). IsWholeWave x (made_data seed order frames)) (sym set) (is_whole_wave append holds appends codes counts s.networks seed order frames)

pub is_made_head : (frames : ℕ) → frames ≤ MAX_FRAMES → IsPcmHead (made_head frames)
is_made_head frames few =
    record {
      format = record { some_channel = omega arith; few_channels = omega arith; width = inr (inl refl) };
      rate = omega arith;
      size = omega (arith, few);
    }
