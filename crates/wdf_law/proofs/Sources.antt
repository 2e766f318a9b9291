-- Whether a network has a source and not too many, by the one with the number 0 and the one with the number MAX_SOURCES.
use Rattle.std.proofs.Common.{◌≡◌, ℕ, zero, suc, ◌≤◌, List, [], ◌∷◌, length, Option, None, Some, refl, ap, arith, true, false}
use Rattle.std.specs.List.{slice_get}
use Rattle.std.specs.Option.{option_map, is_none}
use Rattle.std.proofs.lemmas.Option.{slice_get_past}
use Rattle.wdf_law.specs.declared.TheConstants.{MAX_SOURCES}
use Rattle.wdf_law.specs.declared.net_error.NetError.TheVariants.{NoSource, TooManySources}
use Rattle.wdf_law.specs.RefusalOrder.{source_fault}

pub source_fault-none : (xs : List ℕ) → is_none (slice_get xs 0) ≡ true → source_fault xs ≡ Some NoSource
source_fault-none [] h = refl
source_fault-none (x ∷ xs) h = absurd (cc)

pub source_fault-many : (xs : List ℕ) (y : ℕ) → slice_get xs MAX_SOURCES ≡ Some y → source_fault xs ≡ Some (TooManySources y)
source_fault-many [] y h = absurd (cc)
source_fault-many (x ∷ xs) y h = ap (option_map (λ (e : ℕ). TooManySources e)) h

pub source_fault-few : (xs : List ℕ) → is_none (slice_get xs 0) ≡ false → slice_get xs MAX_SOURCES ≡ None → source_fault xs ≡ None
source_fault-few [] h k = absurd (cc)
source_fault-few (x ∷ xs) h k = ap (option_map (λ (e : ℕ). TooManySources e)) k

pub ruleset source_faults = (source_fault-none, source_fault-many, source_fault-few)

-- the same by the count
pub sources_good : (xs : List ℕ) → 1 ≤ length xs → length xs ≤ MAX_SOURCES → source_fault xs ≡ None
sources_good [] some few = absurd (omega arith)
sources_good (x ∷ xs) some few = ap (option_map (λ (e : ℕ). TooManySources e)) (slice_get_past (x ∷ xs) MAX_SOURCES few)

-- where none stands at a place, none stands behind it
pub ended : (xs : List ℕ) (i : ℕ) → slice_get xs i ≡ None → length xs ≤ i
ended [] i h = omega arith
ended (x ∷ xs) zero h = absurd (cc)
ended (x ∷ xs) (suc i) h = omega (arith, ended xs i h)

pub some_source : (xs : List ℕ) → source_fault xs ≡ None → 1 ≤ length xs
some_source [] h = absurd (cc)
some_source (x ∷ xs) h = omega arith

pub few_sources : (xs : List ℕ) → source_fault xs ≡ None → length xs ≤ MAX_SOURCES
few_sources [] h = absurd (cc)
few_sources (x ∷ xs) h = ended (x ∷ xs) MAX_SOURCES (by (slice_get (x ∷ xs) MAX_SOURCES) h)
  where
    by : (o : Option ℕ) → option_map (λ (e : ℕ). TooManySources e) o ≡ None → o ≡ None
    by None h = refl
    by (Some y) h = absurd (cc)
