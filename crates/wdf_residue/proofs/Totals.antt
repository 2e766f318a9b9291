-- Sums of whole numbers, from the front, and what they are modulo p.
use Rattle.std.proofs.Common.{◌≡◌, ℕ, zero, suc, ◌<◌, Bool, true, false, ◌==◌, if◌then◌else◌, [], ◌∷◌, refl, sym, ap, ◌∙◌, arith}
use Rattle.std.proofs.lemmas.Bool.{eq-eqb, ne_eqb, eqb-true, eqb-false}
use lib.IntN.{ℤ, pos, ◌+ℤ◌, ◌*ℤ◌, *ℤ_comm}
use Rattle.wdf_algebra.proofs.RingLaws.{linear, one-mul, zero-mul}
use Rattle.wdf_algebra.proofs.Polynomials.{con, var, ◌⊕◌, ◌⊗◌}
use Rattle.wdf_algebra.proofs.LinearCombinations.{linear_combination}
use Rattle.wdf_algebra.specs.Residues.{residue_by}
use Rattle.wdf_algebra.proofs.Congruences.{congruence}

-- f 0 + f 1 + .. + f (n - 1)
abbrev pub total : ℕ → (ℕ → ℤ) → ℤ
total zero f = pos 0
total (suc n) f = f 0 +ℤ total n (λ j. f (suc j))

-- an entry of the identity
abbrev pub unit : ℕ → ℕ → ℤ
unit i j = if i == j then pos 1 else pos 0

pub total-congruent : (p n : ℕ) (f g : ℕ → ℤ) → 0 < p → ((j : ℕ) → j < n → residue_by p (f j) ≡ residue_by p (g j))
    → residue_by p (total n f) ≡ residue_by p (total n g)
total-congruent p zero f g some same = refl
total-congruent p (suc n) f g some same =
    let first = same 0 (omega arith) in
    let rest = total-congruent p n (λ j. f (suc j)) (λ j. g (suc j)) some (λ j h. same (suc j) (omega arith)) in
    let F = var 0 in
    let G = var 1 in
    let FS = var 2 in
    let GS = var 3 in
    congruence p (f 0 ∷ g 0 ∷ total n (λ j. f (suc j)) ∷ total n (λ j. g (suc j)) ∷ []) (F ⊕ FS) (G ⊕ GS)
    (record { by = con (pos 1); left = F; right = G } ∷ record { by = con (pos 1); left = FS; right = GS } ∷ [])
    some (first, (rest, tt)) refl

pub total-equal : (n : ℕ) (f g : ℕ → ℤ) → ((j : ℕ) → j < n → f j ≡ g j) → total n f ≡ total n g
total-equal zero f g same = refl
total-equal (suc n) f g same =
    let first = same 0 (omega arith) in
    let rest = total-equal n (λ j. f (suc j)) (λ j. g (suc j)) (λ j h. same (suc j) (omega arith)) in
    λ i. first i +ℤ rest i

-- the sum of a + c·b
pub total-join : (n : ℕ) (c : ℤ) (a b : ℕ → ℤ) → total n (λ j. a j +ℤ c *ℤ b j) ≡ total n a +ℤ c *ℤ total n b
total-join zero c a b = sym (*ℤ_comm c (pos 0) ∙ zero-mul c) ∙ omega (arith, linear)
total-join (suc n) c a b =
    let rest = total-join n c (λ j. a (suc j)) (λ j. b (suc j)) in
    let C = var 0 in
    let A = var 1 in
    let B = var 2 in
    let S = var 3 in
    let AS = var 4 in
    let BS = var 5 in
    linear_combination
    (c ∷ a 0 ∷ b 0 ∷ total n (λ j. a (suc j) +ℤ c *ℤ b (suc j)) ∷ total n (λ j. a (suc j)) ∷ total n (λ j. b (suc j)) ∷ [])
    (A ⊕ C ⊗ B ⊕ S) (A ⊕ AS ⊕ C ⊗ (B ⊕ BS)) (record { by = con (pos 1); left = S; right = AS ⊕ C ⊗ BS } ∷ []) (rest, tt) refl

pub total-nought : (n : ℕ) (f : ℕ → ℤ) → ((j : ℕ) → j < n → f j ≡ pos 0) → total n f ≡ pos 0
total-nought zero f none = refl
total-nought (suc n) f none =
    let first = none 0 (omega arith) in
    let rest = total-nought n (λ j. f (suc j)) (λ j h. none (suc j) (omega arith)) in
    λ i. first i +ℤ rest i

pub total-plus : (n : ℕ) (a b : ℕ → ℤ) → total n (λ j. a j +ℤ b j) ≡ total n a +ℤ total n b
total-plus n a b =
    total-equal n (λ j. a j +ℤ b j) (λ j. a j +ℤ pos 1 *ℤ b j) (λ j h. ap (λ (x : ℤ). a j +ℤ x) (sym (one-mul (b j))))
    ∙ (total-join n (pos 1) a b ∙ ap (λ (x : ℤ). total n a +ℤ x) (one-mul (total n b)))

pub total-times : (n : ℕ) (c : ℤ) (b : ℕ → ℤ) → total n (λ j. c *ℤ b j) ≡ c *ℤ total n b
total-times n c b =
    let none = total-nought n (λ j. pos 0) (λ j h. refl) in
    let whole = total-join n c (λ j. pos 0) b in
    let parts : total n (λ j. pos 0 +ℤ c *ℤ b j) ≡ total n (λ j. c *ℤ b j) =
    total-equal n (λ j. pos 0 +ℤ c *ℤ b j) (λ j. c *ℤ b j) (λ j h. omega (arith, linear)) in
    omega (arith, linear)

pub total-exchange : (n m : ℕ) (f : ℕ → ℕ → ℤ) → total n (λ i. total m (λ j. f i j)) ≡ total m (λ j. total n (λ i. f i j))
total-exchange zero m f = sym (total-nought m (λ j. pos 0) (λ j h. refl))
total-exchange (suc n) m f =
    ap (λ (x : ℤ). total m (λ j. f 0 j) +ℤ x) (total-exchange n m (λ i j. f (suc i) j))
    ∙ sym (total-plus m (λ j. f 0 j) (λ j. total n (λ i. f (suc i) j)))

-- the last term apart
pub total-more : (n : ℕ) (f : ℕ → ℤ) → total (suc n) f ≡ total n f +ℤ f n
total-more zero f = omega (arith, linear)
total-more (suc n) f =
    let rest = total-more n (λ j. f (suc j)) in
    let whole : total (suc (suc n)) f ≡ f 0 +ℤ total (suc n) (λ j. f (suc j)) = refl in
    let front : total (suc n) f ≡ f 0 +ℤ total n (λ j. f (suc j)) = refl in
    whole ∙ omega (arith, linear)

unit-suc : (i j : ℕ) → unit (suc i) (suc j) ≡ unit i j
unit-suc i j = by (i == j) refl
  where
    by : (b : Bool) → (i == j) ≡ b → unit (suc i) (suc j) ≡ (if b then pos 1 else pos 0)
    by true e = ap (λ (b : Bool). if b then pos 1 else pos 0) (eq-eqb (suc i) (suc j) (ap suc (eqb-true i j e)))
    by false e = ap (λ (b : Bool). if b then pos 1 else pos 0) (ne_eqb (suc i) (suc j) (λ same. eqb-false i j e (omega arith)))

pub unit-same : (i : ℕ) → unit i i ≡ pos 1
unit-same i = ap (λ (b : Bool). if b then pos 1 else pos 0) (eq-eqb i i refl)

pub unit-other : (i j : ℕ) → (i ≡ j → ⊥) → unit i j ≡ pos 0
unit-other i j h = ap (λ (b : Bool). if b then pos 1 else pos 0) (ne_eqb i j h)

-- the sum picks the term at c
pub total-pick : (n c : ℕ) (f : ℕ → ℤ) → c < n → total n (λ i. f i *ℤ unit i c) ≡ f c
total-pick zero c f h = absurd (omega arith)
total-pick (suc n) zero f h =
    let rest = total-nought n (λ i. f (suc i) *ℤ unit (suc i) 0)
    (λ i less. ap (λ (x : ℤ). f (suc i) *ℤ x) (unit-other (suc i) 0 (λ e. absurd (cc))) ∙ (*ℤ_comm (f (suc i)) (pos 0) ∙ zero-mul (f (suc i)))) in
    let first : f 0 *ℤ unit 0 0 ≡ f 0 = *ℤ_comm (f 0) (pos 1) ∙ one-mul (f 0) in
    omega (arith, linear)
total-pick (suc n) (suc c) f h =
    let first : f 0 *ℤ unit 0 (suc c) ≡ pos 0 =
    ap (λ (x : ℤ). f 0 *ℤ x) (unit-other 0 (suc c) (λ e. absurd (cc))) ∙ (*ℤ_comm (f 0) (pos 0) ∙ zero-mul (f 0)) in
    let same = total-equal n (λ i. f (suc i) *ℤ unit (suc i) (suc c)) (λ i. f (suc i) *ℤ unit i c) (λ i less. ap (λ (x : ℤ). f (suc i) *ℤ x) (unit-suc i c)) in
    let rest = total-pick n c (λ i. f (suc i)) (omega arith) in
    let whole = same ∙ rest in
    omega (arith, linear)

-- and in the other order
pub total-pick_left : (n c : ℕ) (f : ℕ → ℤ) → c < n → total n (λ i. unit c i *ℤ f i) ≡ f c
total-pick_left n c f h =
    total-equal n (λ i. unit c i *ℤ f i) (λ i. f i *ℤ unit i c) (λ i less. turned i (c == i) refl) ∙ total-pick n c f h
  where
    turned : (i : ℕ) (b : Bool) → (c == i) ≡ b → (if b then pos 1 else pos 0) *ℤ f i ≡ f i *ℤ unit i c
    turned i true e =
        let at : unit i c ≡ pos 1 = ap (λ (b : Bool). if b then pos 1 else pos 0) (eq-eqb i c (sym (eqb-true c i e))) in
        *ℤ_comm (pos 1) (f i) ∙ ap (λ (x : ℤ). f i *ℤ x) (sym at)
    turned i false e =
        let at : unit i c ≡ pos 0 = unit-other i c (λ same. eqb-false c i e (sym same)) in
        *ℤ_comm (pos 0) (f i) ∙ ap (λ (x : ℤ). f i *ℤ x) (sym at)
