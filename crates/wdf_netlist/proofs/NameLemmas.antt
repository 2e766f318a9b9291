-- Two names are the same where their bytes are.
use Rattle.std.proofs.Common.{◌≡◌, ◌≢◌, ◌≤◌, ℕ, suc, ◌-◌, Bool, true, false, ◌&&◌, eqb, ltb, not, Some, None, List, [], ◌∷◌, ◌++◌, length, replicate, refl, sym, ap, ◌∙◌, arith}
use Rattle.wdf_text.specs.Names.{IsName, is_name, is_name_or_at_sign}
use Rattle.std.specs.Prelude.{IsTrue, bytes_eq, if◌then◌else◌, nat_eq, position}
use Rattle.std.specs.List.{list_any, position_or_len}
use Rattle.indexmap.specs.IndexSet.{insert_key}
use Rattle.wdf_netlist.specs.Circuits.{with_new}
use Rattle.std.proofs.lemmas.Bool.{and_from, and_parts, cond-true, eqb-true, eq-eqb, false≢true, le-leb, ltb-false, ne_eqb}
use Rattle.std.proofs.lemmas.List.Sums.{prefix_len-le-length}
use Rattle.wdf_text.specs.Padding.{padded}
use Rattle.wdf_text.specs.contracts.name.NamePartialEq.TheImpl.{eq-value}

pub same_bytes : (xs : List ℕ) → bytes_eq xs xs ≡ true
same_bytes [] = refl
same_bytes (x ∷ xs) = rw (eq-eqb x x refl, same_bytes xs) refl

pub same_name : (xs ys : List ℕ) → bytes_eq xs ys ≡ true → xs ≡ ys
same_name [] [] e = refl
same_name [] (y ∷ ys) e = absurd (false≢true e)
same_name (x ∷ xs) [] e = absurd (false≢true e)
same_name (x ∷ xs) (y ∷ ys) e =
    let parts = and_parts (nat_eq x y) (bytes_eq xs ys) e in
    let head : x ≡ y = eqb-true x y parts.0 in
    let tail = same_name xs ys parts.1 in
    λ i. head i ∷ tail i

-- the same bytes behind lists of one length
same_behind : (xs ys zs : List ℕ) → length xs ≡ length ys → bytes_eq (xs ++ zs) (ys ++ zs) ≡ bytes_eq xs ys
same_behind [] [] zs same = same_bytes zs
same_behind [] (y ∷ ys) zs same = absurd (omega arith)
same_behind (x ∷ xs) [] zs same = absurd (omega arith)
same_behind (x ∷ xs) (y ∷ ys) zs same = ap (λ (b : Bool). nat_eq x y && b) (same_behind xs ys zs (omega arith))

other_length : (xs ys : List ℕ) → eqb (length xs) (length ys) ≡ false → bytes_eq xs ys ≡ false
other_length [] [] other = other
other_length [] (y ∷ ys) other = refl
other_length (x ∷ xs) [] other = refl
other_length (x ∷ xs) (y ∷ ys) other =
    by (nat_eq x y) refl (other_length xs ys (ne_eqb _ _ (λ (e : length xs ≡ length ys).
    false≢true (sym other ∙ eq-eqb (length (x ∷ xs)) (length (y ∷ ys)) (ap (λ (n : ℕ). suc n) e)))))
  where
    by : (t : Bool) → nat_eq x y ≡ t → bytes_eq xs ys ≡ false → bytes_eq (x ∷ xs) (y ∷ ys) ≡ false
    by true e behind = rw (e, behind) refl
    by false e behind = rw e refl

pub and_true : (b : Bool) → (b && true) ≡ b
and_true true = refl
and_true false = refl

pub and_false : (b : Bool) → (b && false) ≡ false
and_false true = refl
and_false false = refl

names_are : (x y : List ℕ) → eq-value.it x y ≡ bytes_eq x y
names_are x y = by (eqb (length x) (length y)) refl
  where
    by : (t : Bool) → eqb (length x) (length y) ≡ t → (bytes_eq (padded x) (padded y) && nat_eq (length x) (length y)) ≡ bytes_eq x y
    by true e =
        let l : length x ≡ length y = eqb-true _ _ e in
        let p : padded x ≡ x ++ replicate (16 - length y) 0 = ap (λ (n : ℕ). x ++ replicate (16 - n) 0) l in
        rw (e, p, same_behind x y (replicate (16 - length y) 0) l) (and_true (bytes_eq x y))
    by false e = rw (e, other_length x y e) (and_false (bytes_eq (padded x) (padded y)))

-- so what a set of names tells, it tells of their bytes
pub any_name : (name : List ℕ) (names : List (List ℕ)) → list_any (eq-value.it name) names ≡ list_any (bytes_eq name) names
any_name name names = λ i. list_any (λ (y : List ℕ). names_are name y i) names

pub position_name : (name : List ℕ) (names : List (List ℕ)) → position (eq-value.it name) names ≡ position (bytes_eq name) names
position_name name names = λ i. position (λ (y : List ℕ). names_are name y i) names

pub inserted_name : (name : List ℕ) (names : List (List ℕ)) → insert_key eq-value.it names name ≡ with_new bytes_eq names name
inserted_name name names = ap (λ (b : Bool). if b then names else (names ++ name ∷ [])) (any_name name names)

-- a name that is not there has the place behind all
pub no_place : (name : List ℕ) (names : List (List ℕ)) → None ≡ position (bytes_eq name) names → length names ≡ position_or_len (bytes_eq name) names
no_place name names none = by (ltb (position_or_len (bytes_eq name) names) (length names)) refl
  where
    by : (t : Bool) → ltb (position_or_len (bytes_eq name) names) (length names) ≡ t → length names ≡ position_or_len (bytes_eq name) names
    by true h = let some : position (bytes_eq name) names ≡ Some (position_or_len (bytes_eq name) names) = cond-true _ _ _ h in absurd (let e : None ≡ Some (position_or_len (bytes_eq name) names) = none ∙ some in cc)
    by false h = omega (arith, ltb-false _ _ h, prefix_len-le-length (λ (y : List ℕ). not (bytes_eq name y)) names)

pub other_name : (x y : List ℕ) → bytes_eq x y ≡ false → y ≢ x
other_name x y other same = false≢true (sym other ∙ rw same (same_bytes x))

-- a name is a name or `@`
pub name_letters : (name : List ℕ) → IsName name → IsTrue (is_name_or_at_sign name)
name_letters name n =
    let a : is_name name ≡ true = and_from _ _ (and_from _ _ (le-leb 1 (length name) n.some) (le-leb (length name) 16 n.few)) n.letters in
    rw a refl

pub differ_bytes : (x y : List ℕ) → x ≢ y → bytes_eq x y ≡ false
differ_bytes x y other = by (bytes_eq x y) refl
  where
    by : (t : Bool) → bytes_eq x y ≡ t → bytes_eq x y ≡ false
    by true e = absurd (other (same_name x y e))
    by false e = e

pub place_within : (name : List ℕ) (names : List (List ℕ)) → position_or_len (bytes_eq name) names ≤ length names
place_within name names = prefix_len-le-length (λ (y : List ℕ). not (bytes_eq name y)) names
