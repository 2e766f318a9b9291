-- What the definitions of `specs/` imply.
use Rattle.std.specs.Prelude.{◌≡◌, ℕ, List}
use Rattle.wdf_frames.specs.Setting.{Setting}
use Rattle.wdf_frames.specs.Written.{IsResult}

-- frames have one result
pub record HasOneResult (s : Setting) : Type 0 where
  pub some : (body : List ℕ) → (bytes : List ℕ) × IsResult s body bytes
  pub only : (body bytes bytes' : List ℕ) → IsResult s body bytes → IsResult s body bytes' → bytes' ≡ bytes
