-- Stages one behind the other: where each has at most one answer, so has the whole.
use Rattle.std.proofs.Common.{◌≡◌, Result, Ok, Err, refl, sym, ◌∙◌, subst}

-- at most one value has the property
abbrev pub HasOne : {X : Type 0} → (X → Type 0) → Type 0
HasOne {X} P = (x y : X) → P x → P y → x ≡ y

-- an answer of the first stage gives the whole by the next stage, or stops it
abbrev pub Behind : {A E X : Type 0} → (A → X → Type 0) → (E → X) → Result A E → X → Type 0
Behind next stop (Ok a) x = next a x
Behind next stop (Err e) x = x ≡ stop e

pub record Chain {A E X : Type 0} (first : Result A E → Type 0) (next : A → X → Type 0) (stop : E → X) (x : X) : Type 0 where
  pub answer : Result A E
  pub allowed : first answer
  pub behind : Behind next stop answer x

one_behind : {A E X : Type 0} (first : Result A E → Type 0) (next : A → X → Type 0) (stop : E → X) → ((a : A) → first (Ok a) → HasOne (next a))
    → (r : Result A E) (x y : X) → first r → Behind next stop r x → Behind next stop r y → x ≡ y
one_behind first next stop one (Ok a) x y allowed p q = one a allowed x y p q
one_behind first next stop one (Err e) x y allowed p q = p ∙ sym q

pub one_chain : {A E X : Type 0} (first : Result A E → Type 0) (next : A → X → Type 0) (stop : E → X) → HasOne first
    → ((a : A) → first (Ok a) → HasOne (next a)) → HasOne (Chain first next stop)
one_chain first next stop one_first one_next x y p q =
    let same = one_first p.answer q.answer p.allowed q.allowed in
    one_behind first next stop one_next q.answer x y q.allowed (subst (λ r. Behind next stop r x) same p.behind) q.behind

-- a chain that is stopped at its first stage, and one that goes on
pub stopped : {A E X : Type 0} (first : Result A E → Type 0) (next : A → X → Type 0) (stop : E → X) (e : E) → first (Err e) → Chain first next stop (stop e)
stopped first next stop e allowed = record { answer = Err e; allowed = allowed; behind = refl }

pub passed : {A E X : Type 0} (first : Result A E → Type 0) (next : A → X → Type 0) (stop : E → X) (a : A) (x : X) → first (Ok a) → next a x
    → Chain first next stop x
passed first next stop a x allowed behind = record { answer = Ok a; allowed = allowed; behind = behind }

-- the end: one value and no other
pub one_value : {X : Type 0} (x : X) → HasOne (λ y. y ≡ x)
one_value x y z p q = p ∙ sym q
