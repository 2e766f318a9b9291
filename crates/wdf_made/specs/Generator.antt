-- The words of the generator `Lcg64Xsh32::new(seed, 1)`: `seed` is its state and 1 its stream.
use Rattle.std.specs.Prelude.{ℕ, zero, suc}
use Rattle.rand_pcg.specs.Lcg.{Lcg, started, increment_of}
use Rattle.rand_pcg.specs.Pcg.{multiplier_64, pcg32}

-- the generator of a seed, before its first word
unfoldable pub generator_of : (seed : ℕ) → Lcg
generator_of seed = started 64 multiplier_64 seed (increment_of 64 1)

-- the next word of a generator, and the generator behind it
unfoldable pub next_word : Lcg → ℕ
next_word g = (pcg32 g).0

unfoldable pub behind_word : Lcg → Lcg
behind_word g = (pcg32 g).1

-- the generator of a seed behind so many words
abbrev pub behind_words : (seed : ℕ) → (words : ℕ) → Lcg
behind_words seed zero = generator_of seed
behind_words seed (suc n) = behind_word (behind_words seed n)

-- a word of a seed's generator, counted from 0
abbrev pub word_at : (seed : ℕ) → (n : ℕ) → ℕ
word_at seed n = next_word (behind_words seed n)
