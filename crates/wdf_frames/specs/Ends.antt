-- What the input behind a wave's head says of the end of its run.
use Rattle.std.specs.Prelude.{◌≡◌, ℕ, ◌*◌, ◌<◌, ◌≤◌, ℤ, List, ◌++◌, length, Result, Ok, Err}
use Rattle.wdf_wav.specs.Header.{IsFrameFormat, data_size}
use Rattle.wdf_frames.specs.declared.frame_stop.FrameStop.{FrameStop}
use Rattle.wdf_frames.specs.declared.frame_stop.FrameStop.TheVariants.{Amplitude, Truncated, ReadFault, WriteFault}
use Rattle.wdf_frames.specs.Setting.{Setting, read_size, AreWithin, IsFirstOver}

-- it holds all frames, with no sample over amp
pub record EndsWhole (s : Setting) (rest : List ℕ) : Type 0 where
  pub body : List ℕ
  pub more : List ℕ
  pub whole : rest ≡ body ++ more
  pub size : length body ≡ data_size s.head
  pub within : AreWithin s body

-- among the whole frames that it holds is the first sample over amp
pub record EndsOver (s : Setting) (rest : List ℕ) (frame channel : ℕ) (sample : ℤ) : Type 0 where
  pub body : List ℕ
  pub more : List ℕ
  pub count : ℕ
  pub whole : rest ≡ body ++ more
  pub size : length body ≡ count * read_size s
  pub few : count ≤ s.head.frames
  pub over : IsFirstOver s body frame channel sample

-- it holds fewer whole frames than the head states, with no sample over amp
pub record EndsShort (s : Setting) (rest : List ℕ) (count : ℕ) : Type 0 where
  pub body : List ℕ
  pub tail : List ℕ
  pub whole : rest ≡ body ++ tail
  pub size : length body ≡ count * read_size s
  pub few : count < s.head.frames
  pub part : length tail < read_size s
  pub within : AreWithin s body

abbrev pub IsEndAnswer : Setting → List ℕ → Result (Unit {0}) FrameStop → Type 0
IsEndAnswer s rest (Ok _) = EndsWhole s rest
IsEndAnswer s rest (Err (Amplitude frame channel sample)) = EndsOver s rest frame channel sample
IsEndAnswer s rest (Err (Truncated count)) = EndsShort s rest count
IsEndAnswer s rest (Err ReadFault) = ⊥
IsEndAnswer s rest (Err WriteFault) = ⊥

abbrev pub HasOneEnd : Type 0
HasOneEnd = (s : Setting) (rest : List ℕ) (x y : Result (Unit {0}) FrameStop) → IsFrameFormat s.head.channels s.head.bits → IsEndAnswer s rest x → IsEndAnswer s rest y → x ≡ y
