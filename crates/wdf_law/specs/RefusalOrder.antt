-- The rules of a network tried one after another: what the body that tries them answers.
use Rattle.std.specs.Prelude.{ℕ, Bool, true, false, List, [], ◌∷◌, length, Option, None, Some}
use Rattle.std.specs.List.{slice_get}
use Rattle.std.specs.Option.{option_or, option_map}
use Rattle.wdf_law.specs.declared.TheConstants.{MAX_SOURCES}
use Rattle.wdf_law.specs.declared.net_error.NetError.{NetError}
use Rattle.wdf_law.specs.declared.net_error.NetError.TheVariants.{BadWidth, TooDeep, BadMultiplier, BadElement, DoubleElement, MissingElement, NoSource, TooManySources, NoOutlet}
use Rattle.wdf_law.specs.Network.{Network, unit_of, elements, numbers, adaptors, source_numbers, has_outlet}
use Rattle.wdf_law.specs.Refusal.{is_width, is_shallow, first_out, first_large, first_repeated, least_missing}

-- the error where the test fails
abbrev pub unless : Bool → NetError → Option NetError
unless true e = None
unless false e = Some e

-- a number of 128 or more, then a number that an earlier leaf has, then one that no leaf has
abbrev pub number_fault : List ℕ → Option NetError
number_fault xs =
    option_or (option_map (λ (e : ℕ). BadElement e) (first_large xs))
    (option_or (option_map (λ (e : ℕ). DoubleElement e) (first_repeated [] xs))
    (option_map (λ (e : ℕ). MissingElement e) (least_missing xs (length xs))))

-- no source, or one too many
abbrev pub source_fault : List ℕ → Option NetError
source_fault [] = Some NoSource
source_fault (i ∷ is) = option_map (λ (e : ℕ). TooManySources e) (slice_get (i ∷ is) MAX_SOURCES)

abbrev pub refusal : Network → Option NetError
refusal n =
    option_or (unless (is_width n) (BadWidth n.k))
    (option_or (unless (is_shallow n) TooDeep)
    (option_or (option_map (λ (e : ℕ). BadMultiplier e) (first_out (unit_of n) (adaptors n)))
    (option_or (number_fault (numbers n))
    (option_or (source_fault (source_numbers n))
    (unless (has_outlet (elements n) n.outlet) NoOutlet)))))
