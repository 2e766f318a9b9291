-- What one statement more changes of what lines say together.
use Rattle.std.proofs.Common.{◌≡◌, ℕ, suc, ◌≤◌, Bool, true, false, cond, ◌&&◌, ◌||◌, List, [], ◌∷◌, ◌++◌, Option, Some, None, refl, sym, ap, ◌∙◌, ◌⊎◌, inl, inr, arith}
use Rattle.std.specs.List.{list_all, list_any}
use Rattle.std.specs.Option.{option_or}
use Rattle.std.proofs.lemmas.Bool.{false≢true}
use Rattle.std.proofs.lemmas.List.Folds.{list_all-append}
use Rattle.wdf_netlist.specs.declared.part.Part.{Part}
use Rattle.wdf_netlist.specs.Statements.{Statement, branches, first_branch, first_said, is_branch, is_rate, last_circuit, part_said, parts_of, up_to_branch}

-- ---- the first line that says something

or_none : {A : Type 0} (o : Option A) → option_or o None ≡ o
or_none None = refl
or_none (Some x) = refl

pub said_same : {A : Type 0} (said : Statement → Option A) (before : List Statement) (s : Statement) → said s ≡ None → first_said said (before ++ s ∷ []) ≡ first_said said before
said_same said [] s none = rw none refl
said_same said (x ∷ xs) s none = ap (option_or (said x)) (said_same said xs s none)

pub said_new : {A : Type 0} (said : Statement → Option A) (before : List Statement) (s : Statement) (a : A) → first_said said before ≡ None → said s ≡ Some a
    → first_said said (before ++ s ∷ []) ≡ Some a
said_new said [] s a none is = rw is refl
said_new {A} said (x ∷ xs) s a none is = by (said x) refl (said_new said xs s a)
  where
    by : (o : Option A) → said x ≡ o → (first_said said xs ≡ None → said s ≡ Some a → first_said said (xs ++ s ∷ []) ≡ Some a) → first_said said ((x ∷ xs) ++ s ∷ []) ≡ Some a
    by None e more = rw e (more (sym (let h : first_said said (x ∷ xs) ≡ first_said said xs = rw e refl in h) ∙ none) is)
    by (Some b) e more = let h : first_said said (x ∷ xs) ≡ Some b = rw e refl in absurd (let g : None ≡ Some b = sym none ∙ h in cc)

-- ---- branches

pub branches_same : (before : List Statement) (s : Statement) → is_branch s ≡ false → branches (before ++ s ∷ []) ≡ branches before
branches_same [] s other = rw other refl
branches_same (x ∷ xs) s other = ap (λ (n : ℕ). cond (is_branch x) (suc n) n) (branches_same xs s other)

pub branches_more : (before : List Statement) (s : Statement) → is_branch s ≡ true → branches (before ++ s ∷ []) ≡ suc (branches before)
branches_more [] s is = rw is refl
branches_more (x ∷ xs) s is = by (is_branch x) refl (branches_more xs s is)
  where
    by : (t : Bool) → is_branch x ≡ t → branches (xs ++ s ∷ []) ≡ suc (branches xs) → branches ((x ∷ xs) ++ s ∷ []) ≡ suc (branches (x ∷ xs))
    by true e more = rw (e, more) refl
    by false e more = rw (e, more) refl

-- a branch is begun where one is counted
pub some_branch : (ss : List Statement) → 1 ≤ branches ss → list_any is_branch ss ≡ true
some_branch [] some = absurd (omega arith)
some_branch (x ∷ xs) some = by (is_branch x) refl (some_branch xs)
  where
    by : (t : Bool) → is_branch x ≡ t → (1 ≤ branches xs → list_any is_branch xs ≡ true) → list_any is_branch (x ∷ xs) ≡ true
    by true e more = rw e refl
    by false e more = rw e (more (let h : branches (x ∷ xs) ≡ branches xs = rw e refl in omega arith))

pub no_branch : (ss : List Statement) → branches ss ≡ 0 → list_any is_branch ss ≡ false
no_branch [] none = refl
no_branch (x ∷ xs) none = by (is_branch x) refl (no_branch xs)
  where
    by : (t : Bool) → is_branch x ≡ t → (branches xs ≡ 0 → list_any is_branch xs ≡ false) → list_any is_branch (x ∷ xs) ≡ false
    by true e more = let h : branches (x ∷ xs) ≡ suc (branches xs) = rw e refl in absurd (omega arith)
    by false e more = rw e (more (let h : branches (x ∷ xs) ≡ branches xs = rw e refl in omega arith))

any_same : (before : List Statement) (s : Statement) → is_branch s ≡ false → list_any is_branch (before ++ s ∷ []) ≡ list_any is_branch before
any_same [] s other = rw other refl
any_same (x ∷ xs) s other = ap (λ (b : Bool). is_branch x || b) (any_same xs s other)

any_more : (before : List Statement) (s : Statement) → is_branch s ≡ true → list_any is_branch (before ++ s ∷ []) ≡ true
any_more [] s is = rw is refl
any_more (x ∷ xs) s is = by (is_branch x) refl (any_more xs s is)
  where
    by : (t : Bool) → is_branch x ≡ t → list_any is_branch (xs ++ s ∷ []) ≡ true → list_any is_branch ((x ∷ xs) ++ s ∷ []) ≡ true
    by true e more = rw e refl
    by false e more = rw e more

-- ---- the circuit that is written last

pub last_same : (before : List Statement) (s : Statement) → is_branch s ≡ false → last_circuit (before ++ s ∷ []) ≡ last_circuit before ++ s ∷ []
last_same [] s other = refl
last_same (x ∷ xs) s other = by (list_any is_branch xs) refl (last_same xs s other)
  where
    by : (t : Bool) → list_any is_branch xs ≡ t → last_circuit (xs ++ s ∷ []) ≡ last_circuit xs ++ s ∷ [] → last_circuit ((x ∷ xs) ++ s ∷ []) ≡ last_circuit (x ∷ xs) ++ s ∷ []
    by true e more = rw (any_same xs s other, e) more
    by false e more = rw (any_same xs s other, e) refl

pub last_begun : (before : List Statement) (s : Statement) → is_branch s ≡ true → last_circuit (before ++ s ∷ []) ≡ s ∷ []
last_begun [] s is = refl
last_begun (x ∷ xs) s is = rw (any_more xs s is) (last_begun xs s is)

-- ---- the first branch

all_before : (ss : List Statement) → list_any is_branch ss ≡ false → up_to_branch ss ≡ ss
all_before [] none = refl
all_before (x ∷ xs) none = by (is_branch x) refl (all_before xs)
  where
    by : (t : Bool) → is_branch x ≡ t → (list_any is_branch xs ≡ false → up_to_branch xs ≡ xs)
        → up_to_branch (x ∷ xs) ≡ x ∷ xs
    by true e more = let h : list_any is_branch (x ∷ xs) ≡ true = rw e refl in absurd (false≢true (sym none ∙ h))
    by false e more = rw e (ap (λ (l : List Statement). x ∷ l) (more (sym (let h : list_any is_branch (x ∷ xs) ≡ list_any is_branch xs = rw e refl in h) ∙ none)))

-- while it is the only one it is the circuit that is written last
pub first_is_last : (ss : List Statement) → branches ss ≡ 1 → first_branch ss ≡ last_circuit ss
first_is_last [] one = absurd (omega arith)
first_is_last (x ∷ xs) one = by (is_branch x) refl (first_is_last xs)
  where
    by : (t : Bool) → is_branch x ≡ t → (branches xs ≡ 1 → first_branch xs ≡ last_circuit xs) → first_branch (x ∷ xs) ≡ last_circuit (x ∷ xs)
    by true e more =
        let h : branches (x ∷ xs) ≡ suc (branches xs) = rw e refl in
        let none = no_branch xs (omega arith) in
        rw (e, none) (ap (λ (l : List Statement). x ∷ l) (all_before xs none))
    by false e more =
        let h : branches (x ∷ xs) ≡ branches xs = rw e refl in
        let some = some_branch xs (omega arith) in
        rw (e, some) (more (omega arith))

before_same : (ss : List Statement) (s : Statement) → (list_any is_branch ss ≡ true) ⊎ (is_branch s ≡ true)
    → up_to_branch (ss ++ s ∷ []) ≡ up_to_branch ss
before_same [] s (inl h) = absurd (false≢true h)
before_same [] s (inr h) = rw h refl
before_same (x ∷ xs) s h = by (is_branch x) refl (before_same xs s)
  where
    by : (t : Bool) → is_branch x ≡ t
        → ((list_any is_branch xs ≡ true) ⊎ (is_branch s ≡ true) → up_to_branch (xs ++ s ∷ []) ≡ up_to_branch xs)
        → up_to_branch ((x ∷ xs) ++ s ∷ []) ≡ up_to_branch (x ∷ xs)
    by true e more = rw e refl
    by false e more =
        let less : (list_any is_branch xs ≡ true) ⊎ (is_branch s ≡ true) =
        elim h [ inl a ↦ inl (sym (let g : list_any is_branch (x ∷ xs) ≡ list_any is_branch xs = rw e refl in g) ∙ a) | inr b ↦ inr b ] in
        rw e (ap (λ (l : List Statement). x ∷ l) (more less))

-- a second branch, or a line behind it, leaves the first as it is
pub first_same : (before : List Statement) (s : Statement) → 1 ≤ branches before → (2 ≤ branches before) ⊎ (is_branch s ≡ true) → first_branch (before ++ s ∷ []) ≡ first_branch before
first_same [] s some h = absurd (omega arith)
first_same (x ∷ xs) s some h = by (is_branch x) refl (first_same xs s)
  where
    by : (t : Bool) → is_branch x ≡ t → (1 ≤ branches xs → (2 ≤ branches xs) ⊎ (is_branch s ≡ true) → first_branch (xs ++ s ∷ []) ≡ first_branch xs)
        → first_branch ((x ∷ xs) ++ s ∷ []) ≡ first_branch (x ∷ xs)
    by true e more =
        let count : branches (x ∷ xs) ≡ suc (branches xs) = rw e refl in
        let less : (list_any is_branch xs ≡ true) ⊎ (is_branch s ≡ true) = elim h [ inl a ↦ inl (some_branch xs (omega arith)) | inr b ↦ inr b ] in
        rw e (ap (λ (l : List Statement). x ∷ l) (before_same xs s less))
    by false e more =
        let count : branches (x ∷ xs) ≡ branches xs = rw e refl in
        let less : (2 ≤ branches xs) ⊎ (is_branch s ≡ true) = elim h [ inl a ↦ inl (omega arith) | inr b ↦ inr b ] in
        rw e (more (omega arith) less)

-- ---- parts

pub parts_same : (lines : List Statement) (s : Statement) → part_said s ≡ None → parts_of (lines ++ s ∷ []) ≡ parts_of lines
parts_same [] s none = rw none refl
parts_same (x ∷ xs) s none = by (part_said x) refl (parts_same xs s none)
  where
    by : (o : Option Part) → part_said x ≡ o → parts_of (xs ++ s ∷ []) ≡ parts_of xs → parts_of ((x ∷ xs) ++ s ∷ []) ≡ parts_of (x ∷ xs)
    by None e more = rw e more
    by (Some p) e more = rw e (ap (λ (l : List Part). p ∷ l) more)

pub parts_more : (lines : List Statement) (s : Statement) (p : Part) → part_said s ≡ Some p → parts_of (lines ++ s ∷ []) ≡ parts_of lines ++ p ∷ []
parts_more [] s p is = rw is refl
parts_more (x ∷ xs) s p is = by (part_said x) refl (parts_more xs s p is)
  where
    by : (o : Option Part) → part_said x ≡ o → parts_of (xs ++ s ∷ []) ≡ parts_of xs ++ p ∷ [] → parts_of ((x ∷ xs) ++ s ∷ []) ≡ parts_of (x ∷ xs) ++ p ∷ []
    by None e more = rw e more
    by (Some q) e more = rw e (ap (λ (l : List Part). q ∷ l) more)

-- ---- rates

pub rates_more : (before : List Statement) (s : Statement) → list_all is_rate (before ++ s ∷ []) ≡ (list_all is_rate before && (is_rate s && true))
rates_more before s = list_all-append is_rate before (s ∷ [])
