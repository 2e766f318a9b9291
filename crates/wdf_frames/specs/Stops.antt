-- Why a run of a wave stopped, and what the output then holds. `left` is the input behind its head.
use Rattle.std.specs.Prelude.{◌≡◌, ℕ, ◌+◌, ◌*◌, ◌<◌, ◌≤◌, ℤ, List, ◌++◌, length, take, Option}
use Rattle.std.specs.Io.KnownBytes.{Consumes, Appends, IsAtEnd}
use Rattle.wdf_io.specs.Moved.{ConsumesAtMost, IsFront}
use Rattle.wdf_frames.specs.declared.frame_stop.FrameStop.{FrameStop}
use Rattle.wdf_frames.specs.declared.frame_stop.FrameStop.TheVariants.{Amplitude, Truncated, ReadFault, WriteFault}
use Rattle.wdf_frames.specs.Setting.{Setting, read_size, AreWithin, IsFirstOver}
use Rattle.wdf_frames.specs.Written.{IsResult}

-- the most frames that are read at once
abbrev pub block_frames : ℕ
block_frames = 4096

-- Among the frames of body, which are the first of the input's, is the first sample over amp. The output gained the
-- header and just the output samples of the frames before its frame.
pub record StopsOver (s : Setting) (frame channel : ℕ) (sample : ℤ) (left left' written written' : Option (List ℕ)) : Type 0 where
  pub body : List ℕ
  pub count : ℕ
  pub size : length body ≡ count * read_size s
  pub few : count ≤ s.head.frames
  pub near : count ≤ frame + block_frames
  -- a part of one more frame, where the input ended there
  pub tail : List ℕ
  pub part : length tail < read_size s
  pub input : Consumes left left' (body ++ tail)
  pub over : IsFirstOver s body frame channel sample
  pub bytes : List ℕ
  pub result : IsResult s (take (frame * read_size s) body) bytes
  pub output : Appends written written' bytes

-- The input ended after so many whole frames, fewer than its head states, all of them within amp. The output gained
-- the header and just their output samples.
pub record StopsShort (s : Setting) (count : ℕ) (left left' written written' : Option (List ℕ)) : Type 0 where
  pub body : List ℕ
  pub size : length body ≡ count * read_size s
  pub few : count < s.head.frames
  pub tail : List ℕ
  pub part : length tail < read_size s
  pub input : Consumes left left' (body ++ tail)
  pub end : IsAtEnd left'
  pub within : AreWithin s body
  pub bytes : List ℕ
  pub result : IsResult s body bytes
  pub output : Appends written written' bytes

-- A read failed behind whole frames, all of them within amp, and took at most a block more. The output gained the
-- header and just their output samples.
pub record StopsReading (s : Setting) (left left' written written' : Option (List ℕ)) : Type 0 where
  pub body : List ℕ
  pub count : ℕ
  pub size : length body ≡ count * read_size s
  pub few : count < s.head.frames
  pub between : Option (List ℕ)
  pub input : Consumes left between body
  pub taken : ConsumesAtMost between left' (block_frames * read_size s)
  pub within : AreWithin s body
  pub bytes : List ℕ
  pub result : IsResult s body bytes
  pub output : Appends written written' bytes

-- A write failed. The output gained a front of the header and the output samples of whole frames, all of them within
-- amp; at most a block more was taken.
pub record StopsWriting (s : Setting) (left left' written written' : Option (List ℕ)) : Type 0 where
  pub body : List ℕ
  pub count : ℕ
  pub size : length body ≡ count * read_size s
  pub few : count ≤ s.head.frames
  pub tail : List ℕ
  pub taken : length tail ≤ block_frames * read_size s
  pub input : Consumes left left' (body ++ tail)
  pub within : AreWithin s body
  pub whole : List ℕ
  pub result : IsResult s body whole
  pub bytes : List ℕ
  pub front : IsFront bytes whole
  pub output : Appends written written' bytes

-- why a run stopped, by its answer
abbrev pub FrameStops : Setting → (left left' written written' : Option (List ℕ)) → FrameStop → Type 0
FrameStops s left left' written written' (Amplitude frame channel sample) = StopsOver s frame channel sample left left' written written'
FrameStops s left left' written written' (Truncated frames) = StopsShort s frames left left' written written'
FrameStops s left left' written written' ReadFault = StopsReading s left left' written written'
FrameStops s left left' written written' WriteFault = StopsWriting s left left' written written'
