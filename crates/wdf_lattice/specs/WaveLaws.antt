-- What the definitions of waves imply, for samples of every length.
use Rattle.std.specs.Prelude.{◌≡◌, ℕ, ◌*◌, ◌<◌, ℤ, List, ◌++◌, length}
use Rattle.wdf_law.specs.declared.side.Side.{Side}
use Rattle.wdf_lattice.specs.declared.networks.Networks.{Networks}
use Rattle.wdf_lattice.specs.Sides.{sources_driven}
use Rattle.wdf_lattice.specs.Waves.{GivesWaves, frames_of}
use Rattle.wdf_lattice.specs.SolvedWaves.{States, all_at_rest, states_behind, waves_from, waves_for}

-- samples give the solved load waves, and no others
pub record HasOneWave (ns : Networks) : Type 0 where
  pub some : (guard runs : ℕ) (samples : List ℤ) → GivesWaves ns guard runs samples (waves_for ns guard runs samples)
  pub only : (guard runs : ℕ) (samples waves : List ℤ) → GivesWaves ns guard runs samples waves → waves ≡ waves_for ns guard runs samples

-- frames may be cut anywhere: what follows goes on from the states that the front leaves
pub record GoesOn (ns : Networks) : Type 0 where
  pub waves : (guard runs : ℕ) (zs : States) (xs ys : List (List ℤ))
      → waves_from ns guard runs zs (xs ++ ys) ≡ waves_from ns guard runs zs xs ++ waves_from ns guard runs (states_behind ns guard zs xs) ys
  pub states : (guard : ℕ) (zs : States) (xs ys : List (List ℤ)) (side : Side) (run : ℕ)
      → states_behind ns guard zs (xs ++ ys) side run ≡ states_behind ns guard (states_behind ns guard zs xs) ys side run
  -- whole frames of samples in front are frames of their own
  pub frames : (runs count : ℕ) (xs ys : List ℤ) → 0 < runs * sources_driven ns → length xs ≡ count * (runs * sources_driven ns)
      → frames_of ns runs (xs ++ ys) ≡ frames_of ns runs xs ++ frames_of ns runs ys
  -- so the waves of whole frames of samples are a front of those of more samples
  pub samples : (guard runs count : ℕ) (xs ys : List ℤ) → 0 < runs * sources_driven ns → length xs ≡ count * (runs * sources_driven ns)
      → waves_for ns guard runs (xs ++ ys)
      ≡ waves_for ns guard runs xs ++ waves_from ns guard runs (states_behind ns guard (all_at_rest ns) (frames_of ns runs xs)) (frames_of ns runs ys)
