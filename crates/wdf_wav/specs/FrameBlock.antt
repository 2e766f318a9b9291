-- What a read of whole frames did.
use Rattle.std.specs.Prelude.{ℕ, ◌+◌, ◌*◌, ◌<◌, ◌≤◌, List, length, take, Option}
use Rattle.std.specs.Io.KnownBytes.{Consumes}

-- `count` bytes were read, which are n frames of `align` bytes and a part of one more;
-- they are now the first of the buffer
pub record ReadsFrames (left left' : Option (List ℕ)) (align n : ℕ) (buf' : List ℕ) : Type 0 where
  pub count : ℕ
  pub within : count ≤ length buf'
  pub whole : n * align ≤ count
  pub part : count < (n + 1) * align
  pub bytes : Consumes left left' (take count buf')
