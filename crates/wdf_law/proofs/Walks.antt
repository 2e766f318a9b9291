-- What a walk over two lists, one after the other, finds.
use Rattle.std.proofs.Common.{◌≡◌, ℕ, zero, suc, Bool, true, false, if◌then◌else◌, List, [], ◌∷◌, ◌++◌, refl, ap, sym, ◌∙◌, arith, Option, None, Some, Result, Ok, Err}
use Rattle.std.specs.Prelude.{slice_set, slice_index_or, slice_get, ◌≢◌, ◌-◌}
use Rattle.std.specs.Result.{result_ok}
use Rattle.std.specs.Option.{option_or, option_map}
use Rattle.std.specs.List.{find}
use Rattle.std.proofs.lemmas.List.{map-append, append_assoc}
use Rattle.std.proofs.lemmas.List.Folds.{find-append, list_any-append}
use Rattle.std.proofs.lemmas.List.Elements.{filter-append}
use Rattle.wdf_law.specs.Marks.{first_marked, marked, number_behind}
use Rattle.wdf_law.specs.Refusal.{first_out, is_out}
use Rattle.wdf_law.specs.Network.{Adaptor}

pub marked-append : (marks : List Bool) (xs ys : List ℕ) → marked marks (xs ++ ys) ≡ marked (marked marks xs) ys
marked-append marks [] ys = refl
marked-append marks (x ∷ xs) ys = marked-append (slice_set marks x true) xs ys

pub first_marked-append : (marks : List Bool) (xs ys : List ℕ)
    → first_marked marks (xs ++ ys) ≡ option_or (first_marked marks xs) (first_marked (marked marks xs) ys)
first_marked-append marks [] ys = refl
first_marked-append marks (x ∷ xs) ys = by (slice_index_or marks x false) (first_marked-append (slice_set marks x true) xs ys)
  where
    by : (b : Bool)
        → first_marked (slice_set marks x true) (xs ++ ys) ≡ option_or (first_marked (slice_set marks x true) xs) (first_marked (marked (slice_set marks x true) xs) ys)
        → (if b then Some x else first_marked (slice_set marks x true) (xs ++ ys))
        ≡ option_or (if b then Some x else first_marked (slice_set marks x true) xs) (first_marked (marked (slice_set marks x true) xs) ys)
    by true rest = refl
    by false rest = rest

-- goes on in the second list where the first one did not have enough
abbrev pub or_behind : Result ℕ ℕ → List ℕ → Result ℕ ℕ
or_behind (Ok x) ys = Ok x
or_behind (Err skip) ys = number_behind skip ys

pub number_behind-append : (skip : ℕ) (xs ys : List ℕ) → number_behind skip (xs ++ ys) ≡ or_behind (number_behind skip xs) ys
number_behind-append skip [] ys = refl
number_behind-append zero (x ∷ xs) ys = refl
number_behind-append (suc skip) (x ∷ xs) ys = number_behind-append skip xs ys

option_map-option_or : {A B : Type 0} (f : A → B) (p q : Option A) → option_map f (option_or p q) ≡ option_or (option_map f p) (option_map f q)
option_map-option_or f None q = refl
option_map-option_or f (Some x) q = refl

pub first_out-append : (q : ℕ) (xs ys : List Adaptor) → first_out q (xs ++ ys) ≡ option_or (first_out q xs) (first_out q ys)
first_out-append q xs ys =
    ap (option_map (λ (a : Adaptor). a.first)) (find-append (is_out q) xs ys)
    ∙ option_map-option_or (λ (a : Adaptor). a.first) (find (is_out q) xs) (find (is_out q) ys)

-- the number behind others, as an optional value
pub get_behind : (x : ℕ) (xs : List ℕ) (i : ℕ) → i ≢ 0 → slice_get (x ∷ xs) i ≡ result_ok (number_behind (i - 1) xs)
get_behind x xs zero h = absurd (h refl)
get_behind x xs (suc i) h = at xs i (suc i - 1) (omega arith)
  where
    at : (xs : List ℕ) (i j : ℕ) → j ≡ i → slice_get xs i ≡ result_ok (number_behind j xs)
    at [] i j e = refl
    at (x ∷ xs) zero j e = ap (λ (k : ℕ). result_ok (number_behind k (x ∷ xs))) (sym e)
    at (x ∷ xs) (suc i) j e = at xs i i refl ∙ ap (λ (k : ℕ). result_ok (number_behind k (x ∷ xs))) (sym e)

pub ruleset walks = (map-append, filter-append, find-append, list_any-append, marked-append, first_marked-append, number_behind-append, first_out-append)
