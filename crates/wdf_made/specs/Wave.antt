-- The wave that is made for a seed, an order and a number of frames: mono, of 16 bits and 48,000 frames a second. Its
-- samples come from the words behind those of the ladder's elements.
use Rattle.std.specs.Prelude.{ℕ, ℤ, pos, ◌-ℤ◌, ◌+◌, ◌%◌, List, map}
use Rattle.std.specs.List.{range_with_len}
use Rattle.wdf_wav.specs.declared.head.Head.{Head}
use Rattle.wdf_wav.specs.PcmStream.{data_of}
use Rattle.wdf_made.specs.Generator.{word_at}

abbrev pub sample_from : (word : ℕ) → ℤ
sample_from word = pos (word % 65536) -ℤ pos 32768

abbrev pub made_samples : (seed order frames : ℕ) → List ℤ
made_samples seed order frames = map (λ (frame : ℕ). sample_from (word_at seed (order + frame))) (range_with_len 0 frames)

abbrev pub made_head : (frames : ℕ) → Head
made_head frames = record { channels = 1; rate = 48000; bits = 16; frames = frames }

-- the bytes behind the head
abbrev pub made_data : (seed order frames : ℕ) → List ℕ
made_data seed order frames = data_of 16 (made_samples seed order frames)
