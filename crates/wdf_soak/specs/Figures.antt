-- The figures of the output samples of a wave of 16 bits.
use Rattle.std.specs.Prelude.{ℕ, ℤ, pos, negsuc, ◌+ℤ◌, int_lt, if◌then◌else◌, List, drop, fold}
use Rattle.wdf_wav.specs.PcmStream.{samples_of}
use Rattle.wdf_soak.specs.declared.figures.Figures.{Figures}

-- the samples behind the 44 bytes of the header
abbrev pub output_samples : (wave : List ℕ) → List ℤ
output_samples wave = samples_of 16 (drop 44 wave)

abbrev pub lesser : ℤ → ℤ → ℤ
lesser a z = if int_lt z a then z else a

abbrev pub greater : ℤ → ℤ → ℤ
greater a z = if int_lt a z then z else a

abbrev pub sum_of : List ℤ → ℤ
sum_of samples = fold ◌+ℤ◌ (pos 0) samples

-- no sample of 16 bits is above 32767, and none below -32768
abbrev pub least_of : List ℤ → ℤ
least_of samples = fold lesser (pos 32767) samples

abbrev pub greatest_of : List ℤ → ℤ
greatest_of samples = fold greater (negsuc 32767) samples

abbrev pub figures_of : List ℤ → Figures
figures_of samples = record { sum = sum_of samples; least = least_of samples; greatest = greatest_of samples }

-- those with one sample more
abbrev pub figures_with : Figures → ℤ → Figures
figures_with f z = record { sum = f.sum +ℤ z; least = lesser f.least z; greatest = greater f.greatest z }
