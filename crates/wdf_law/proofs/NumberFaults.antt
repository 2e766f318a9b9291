-- The fault of a network's numbers, by what the walks with marks find.
use Rattle.std.proofs.Common.{◌≡◌, ℕ, ◌≤◌, false, not, Bool, Option, None, Some, List, [], ◌++◌, length, ap, sym, ◌∙◌, subst, arith, slice_index_or, length-append}
use Rattle.std.specs.Option.{option_or, option_map}
use Rattle.std.specs.List.{find, range_with_len}
use Rattle.std.proofs.lemmas.List.{length-map}
use Rattle.wdf_law.specs.declared.net_error.NetError.{NetError}
use Rattle.wdf_law.specs.declared.net_error.NetError.TheVariants.{BadElement, DoubleElement, MissingElement}
use Rattle.wdf_law.specs.Trees.{AdaptorTree, LeafElement, elements_of}
use Rattle.wdf_law.specs.Network.{numbers_of}
use Rattle.wdf_law.specs.Marks.{first_marked, marked}
use Rattle.wdf_law.specs.Refusal.{first_large, first_repeated, least_missing}
use Rattle.wdf_law.specs.RefusalOrder.{number_fault}
use Rattle.wdf_law.proofs.Allowed.{small, counted}
use Rattle.wdf_law.proofs.Marking.{no_marks, first_marked-repeated, least_unmarked}

-- what follows a number of 128 or more
abbrev behind : List ℕ → Option ℕ → Option NetError
behind xs double = option_or (option_map (λ (e : ℕ). DoubleElement e) double) (option_map (λ (e : ℕ). MissingElement e) (least_missing xs (length xs)))

none_large : (xs : List ℕ) → first_large xs ≡ None → number_fault xs ≡ behind xs (first_repeated [] xs)
none_large xs large = ap (λ (o : Option ℕ). option_or (option_map (λ (e : ℕ). BadElement e) o) (behind xs (first_repeated [] xs))) large

by_marks : (xs : List ℕ) → first_large xs ≡ None → number_fault xs ≡ behind xs (first_marked no_marks xs)
by_marks xs large = none_large xs large ∙ ap (behind xs) (sym (first_marked-repeated xs (small xs large)))

pub number_fault-double : (xs : List ℕ) (e : ℕ) → first_large xs ≡ None → first_marked no_marks xs ≡ Some e → number_fault xs ≡ Some (DoubleElement e)
number_fault-double xs e large double = by_marks xs large ∙ ap (behind xs) double

number_fault-missing : (xs : List ℕ) (c : ℕ) (o : Option ℕ) → c ≡ length xs → first_large xs ≡ None → first_marked no_marks xs ≡ None
    → o ≡ find (λ (i : ℕ). not (slice_index_or (marked no_marks xs) i false)) (range_with_len 0 c) → number_fault xs ≡ option_map (λ (e : ℕ). MissingElement e) o
number_fault-missing xs c o count large double found =
    let few : c ≤ 128 = subst (λ (n : ℕ). n ≤ 128) (sym count) (counted xs large (sym (first_marked-repeated xs (small xs large)) ∙ double)) in
    by_marks xs large ∙ (ap (behind xs) double
    ∙ ap (option_map (λ (e : ℕ). MissingElement e)) (ap (least_missing xs) (sym count) ∙ (sym (least_unmarked xs c few) ∙ sym found)))

-- how many leaves two trees have
pub length_numbers : (l r : AdaptorTree) → length (numbers_of l ++ numbers_of r) ≡ length (elements_of l ++ elements_of r)
length_numbers l r =
    let one = length-map (elements_of l) (λ (x : LeafElement). x.number) in
    let two = length-map (elements_of r) (λ (x : LeafElement). x.number) in
    omega (arith, length-append (numbers_of l) (numbers_of r), length-append (elements_of l) (elements_of r))

pub counted_leaves : (l r : AdaptorTree) → first_large (numbers_of l ++ numbers_of r) ≡ None → first_marked no_marks (numbers_of l ++ numbers_of r) ≡ None
    → length (elements_of l ++ elements_of r) ≤ 128
counted_leaves l r large double =
    subst (λ (n : ℕ). n ≤ 128) (length_numbers l r)
    (counted _ large (sym (first_marked-repeated (numbers_of l ++ numbers_of r) (small _ large)) ∙ double))

-- where no number is too large and none stands twice, the least that is not marked is missing
pub number_fault-unmarked : (l r : AdaptorTree) (c : ℕ) (marks : List Bool) (o : Option ℕ) → c ≡ length (elements_of l ++ elements_of r)
    → first_large (numbers_of l ++ numbers_of r) ≡ None → first_marked no_marks (numbers_of l ++ numbers_of r) ≡ None
    → marks ≡ marked no_marks (numbers_of l ++ numbers_of r) → o ≡ find (λ (i : ℕ). not (slice_index_or marks i false)) (range_with_len 0 c)
    → number_fault (numbers_of l ++ numbers_of r) ≡ option_map (λ (e : ℕ). MissingElement e) o
number_fault-unmarked l r c marks o count large double same found =
    number_fault-missing (numbers_of l ++ numbers_of r) c o (count ∙ sym (length_numbers l r)) large double
    (found ∙ ap (λ (ms : List Bool). find (λ (i : ℕ). not (slice_index_or ms i false)) (range_with_len 0 c)) same)
