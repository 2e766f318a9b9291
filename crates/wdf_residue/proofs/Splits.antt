-- Elimination over functions. Q are the columns that no row sees, M the solved columns and T the taken rows, so that
-- the identity is Q + M·T. `along` is the product of a row and a column.
use Rattle.std.proofs.Common.{◌≡◌, ℕ, suc, ◌<◌, [], ◌∷◌, refl, sym, ap, ◌∙◌}
use lib.IntN.{ℤ, pos, ◌+ℤ◌, ◌-ℤ◌, ◌*ℤ◌, *ℤ_comm}
use Rattle.wdf_algebra.proofs.RingLaws.{mul-assoc}
use Rattle.wdf_algebra.proofs.Polynomials.{con, var, ◌⊕◌, ◌⊖◌, ◌⊗◌, ring}
use Rattle.wdf_algebra.specs.Residues.{residue_by}
use Rattle.wdf_algebra.proofs.Congruences.{congruence}
use Rattle.wdf_residue.proofs.Totals.{total, unit, total-congruent, total-equal, total-join, total-nought, total-plus, total-times, total-exchange, total-more, total-pick, total-pick_left}

abbrev pub along : ℕ → (ℕ → ℤ) → (ℕ → ℤ) → ℤ
along n o w = total n (λ j. o j *ℤ w j)

-- the identity is Q + M·T
abbrev pub IsSplit : ℕ → ℕ → ℕ → (ℕ → ℕ → ℤ) → (ℕ → ℕ → ℤ) → (ℕ → ℕ → ℤ) → Type 0
IsSplit p n k Q M T = (i c : ℕ) → i < n → c < n → residue_by p (Q c i +ℤ total k (λ t. M t i *ℤ T t c)) ≡ residue_by p (unit i c)

-- a row is its product with Q, and its product with M times T
pub row_split : (p n k : ℕ) (Q M T : ℕ → ℕ → ℤ) → 0 < p → IsSplit p n k Q M T → (o : ℕ → ℤ) (c : ℕ) → c < n
    → residue_by p (o c) ≡ residue_by p (along n o (Q c) +ℤ total k (λ t. along n o (M t) *ℤ T t c))
row_split p n k Q M T some split o c h =
    let whole : total n (λ i. o i *ℤ unit i c) ≡ o c = total-pick n c o h in
    let parts = total-congruent p n (λ i. o i *ℤ unit i c) (λ i. o i *ℤ (Q c i +ℤ total k (λ t. M t i *ℤ T t c))) some
    (λ i less.
    let O = var 0 in
    let U = var 1 in
    let S = var 2 in
    congruence p (o i ∷ unit i c ∷ (Q c i +ℤ total k (λ t. M t i *ℤ T t c)) ∷ []) (O ⊗ U) (O ⊗ S)
    (record { by = con (pos 0) ⊖ O; left = S; right = U } ∷ []) some (split i c less h, tt) refl) in
    let spread : total n (λ i. o i *ℤ (Q c i +ℤ total k (λ t. M t i *ℤ T t c))) ≡ total n (λ i. o i *ℤ Q c i +ℤ total k (λ t. o i *ℤ M t i *ℤ T t c)) =
    total-equal n (λ i. o i *ℤ (Q c i +ℤ total k (λ t. M t i *ℤ T t c))) (λ i. o i *ℤ Q c i +ℤ total k (λ t. o i *ℤ M t i *ℤ T t c))
    (λ i less.
    let O = var 0 in
    let QC = var 1 in
    let S = var 2 in
    ring (o i ∷ Q c i ∷ total k (λ t. M t i *ℤ T t c) ∷ []) (O ⊗ (QC ⊕ S)) (O ⊗ QC ⊕ O ⊗ S) refl
    ∙ ap (λ (x : ℤ). o i *ℤ Q c i +ℤ x)
    (sym (total-times k (o i) (λ t. M t i *ℤ T t c)) ∙ total-equal k (λ t. o i *ℤ (M t i *ℤ T t c)) (λ t. o i *ℤ M t i *ℤ T t c) (λ t l. sym (mul-assoc (o i) (M t i) (T t c))))) in
    let apart : total n (λ i. o i *ℤ Q c i +ℤ total k (λ t. o i *ℤ M t i *ℤ T t c)) ≡ along n o (Q c) +ℤ total n (λ i. total k (λ t. o i *ℤ M t i *ℤ T t c)) =
    total-plus n (λ i. o i *ℤ Q c i) (λ i. total k (λ t. o i *ℤ M t i *ℤ T t c)) in
    let turned : total n (λ i. total k (λ t. o i *ℤ M t i *ℤ T t c)) ≡ total k (λ t. along n o (M t) *ℤ T t c) =
    total-exchange n k (λ i t. o i *ℤ M t i *ℤ T t c)
    ∙ total-equal k (λ t. total n (λ i. o i *ℤ M t i *ℤ T t c)) (λ t. along n o (M t) *ℤ T t c)
    (λ t l. total-equal n (λ i. o i *ℤ M t i *ℤ T t c) (λ i. T t c *ℤ (o i *ℤ M t i)) (λ i less. *ℤ_comm (o i *ℤ M t i) (T t c))
    ∙ (total-times n (T t c) (λ i. o i *ℤ M t i) ∙ *ℤ_comm (T t c) (along n o (M t)))) in
    ap (residue_by p) (sym whole) ∙ (parts ∙ ap (residue_by p) (spread ∙ (apart ∙ ap (λ (x : ℤ). along n o (Q c) +ℤ x) turned)))

-- a column that the taken rows do not see is Q times itself
pub column_split : (p n k : ℕ) (Q M T : ℕ → ℕ → ℤ) → 0 < p → IsSplit p n k Q M T → (w : ℕ → ℤ)
    → ((t : ℕ) → t < k → residue_by p (along n (T t) w) ≡ residue_by p (pos 0))
    → (i : ℕ) → i < n → residue_by p (w i) ≡ residue_by p (total n (λ c. Q c i *ℤ w c))
column_split p n k Q M T some split w unseen i h =
    let whole : total n (λ c. unit i c *ℤ w c) ≡ w i = total-pick_left n i w h in
    let parts = total-congruent p n (λ c. unit i c *ℤ w c) (λ c. (Q c i +ℤ total k (λ t. M t i *ℤ T t c)) *ℤ w c) some
    (λ c less.
    let W = var 0 in
    let U = var 1 in
    let S = var 2 in
    congruence p (w c ∷ unit i c ∷ (Q c i +ℤ total k (λ t. M t i *ℤ T t c)) ∷ []) (U ⊗ W) (S ⊗ W)
    (record { by = con (pos 0) ⊖ W; left = S; right = U } ∷ []) some (split i c h less, tt) refl) in
    let spread : total n (λ c. (Q c i +ℤ total k (λ t. M t i *ℤ T t c)) *ℤ w c) ≡ total n (λ c. Q c i *ℤ w c +ℤ total k (λ t. M t i *ℤ (T t c *ℤ w c))) =
    total-equal n (λ c. (Q c i +ℤ total k (λ t. M t i *ℤ T t c)) *ℤ w c) (λ c. Q c i *ℤ w c +ℤ total k (λ t. M t i *ℤ (T t c *ℤ w c)))
    (λ c less.
    let W = var 0 in
    let QC = var 1 in
    let S = var 2 in
    ring (w c ∷ Q c i ∷ total k (λ t. M t i *ℤ T t c) ∷ []) ((QC ⊕ S) ⊗ W) (QC ⊗ W ⊕ W ⊗ S) refl
    ∙ ap (λ (x : ℤ). Q c i *ℤ w c +ℤ x)
    (sym (total-times k (w c) (λ t. M t i *ℤ T t c))
    ∙ total-equal k (λ t. w c *ℤ (M t i *ℤ T t c)) (λ t. M t i *ℤ (T t c *ℤ w c)) (λ t l. *ℤ_comm (w c) (M t i *ℤ T t c) ∙ mul-assoc (M t i) (T t c) (w c)))) in
    let apart : total n (λ c. Q c i *ℤ w c +ℤ total k (λ t. M t i *ℤ (T t c *ℤ w c))) ≡ total n (λ c. Q c i *ℤ w c) +ℤ total n (λ c. total k (λ t. M t i *ℤ (T t c *ℤ w c))) =
    total-plus n (λ c. Q c i *ℤ w c) (λ c. total k (λ t. M t i *ℤ (T t c *ℤ w c))) in
    let turned : total n (λ c. total k (λ t. M t i *ℤ (T t c *ℤ w c))) ≡ total k (λ t. M t i *ℤ along n (T t) w) =
    total-exchange n k (λ c t. M t i *ℤ (T t c *ℤ w c))
    ∙ total-equal k (λ t. total n (λ c. M t i *ℤ (T t c *ℤ w c))) (λ t. M t i *ℤ along n (T t) w) (λ t l. total-times n (M t i) (λ c. T t c *ℤ w c)) in
    let none : residue_by p (total k (λ t. M t i *ℤ along n (T t) w)) ≡ residue_by p (total k (λ t. pos 0)) =
    total-congruent p k (λ t. M t i *ℤ along n (T t) w) (λ t. pos 0) some
    (λ t l.
    let X = var 0 in
    let Y = var 1 in
    congruence p (M t i ∷ along n (T t) w ∷ []) (X ⊗ Y) (con (pos 0)) (record { by = X; left = Y; right = con (pos 0) } ∷ []) some (unseen t l, tt) refl) in
    let nought : total k (λ t. pos 0) ≡ pos 0 = total-nought k (λ t. pos 0) (λ t l. refl) in
    let A = var 0 in
    let B = var 1 in
    ap (residue_by p) (sym whole)
    ∙ (parts ∙ (ap (residue_by p) (spread ∙ (apart ∙ ap (λ (x : ℤ). total n (λ c. Q c i *ℤ w c) +ℤ x) turned))
    ∙ congruence p (total n (λ c. Q c i *ℤ w c) ∷ total k (λ t. M t i *ℤ along n (T t) w) ∷ []) (A ⊕ B) A
    (record { by = con (pos 1); left = B; right = con (pos 0) } ∷ []) some (none ∙ ap (residue_by p) nought, tt) refl))

-- one row more: each column loses its product with the row times g, and g is solved for the row
pub record IsCleared (p n k : ℕ) (Q M T : ℕ → ℕ → ℤ) (o g : ℕ → ℤ) (Q' M' T' : ℕ → ℕ → ℤ) : Type 0 where
  pub unseen : (c i : ℕ) → c < n → i < n → residue_by p (Q' c i) ≡ residue_by p (Q c i -ℤ along n o (Q c) *ℤ g i)
  pub solved : (t i : ℕ) → t < k → i < n → residue_by p (M' t i) ≡ residue_by p (M t i -ℤ along n o (M t) *ℤ g i)
  pub last : (i : ℕ) → i < n → residue_by p (M' k i) ≡ residue_by p (g i)
  pub taken : (t c : ℕ) → t < k → c < n → T' t c ≡ T t c
  pub row : (c : ℕ) → c < n → T' k c ≡ o c

pub split_cleared : (p n k : ℕ) (Q M T : ℕ → ℕ → ℤ) (o g : ℕ → ℤ) (Q' M' T' : ℕ → ℕ → ℤ) → 0 < p → IsSplit p n k Q M T
    → IsCleared p n k Q M T o g Q' M' T' → IsSplit p n (suc k) Q' M' T'
split_cleared p n k Q M T o g Q' M' T' some split is i c hi hc =
    let more : total (suc k) (λ t. M' t i *ℤ T' t c) ≡ total k (λ t. M' t i *ℤ T' t c) +ℤ M' k i *ℤ T' k c = total-more k (λ t. M' t i *ℤ T' t c) in
    let each = total-congruent p k (λ t. M' t i *ℤ T' t c) (λ t. (M t i -ℤ along n o (M t) *ℤ g i) *ℤ T t c) some
    (λ t l.
    let A = var 0 in
    let B = var 1 in
    let X = var 2 in
    let Y = var 3 in
    congruence p (M' t i ∷ (M t i -ℤ along n o (M t) *ℤ g i) ∷ T' t c ∷ T t c ∷ []) (A ⊗ X) (B ⊗ Y)
    (record { by = X; left = A; right = B } ∷ record { by = B; left = X; right = Y } ∷ []) some
    (is.solved t i l hi, (ap (residue_by p) (is.taken t c l hc), tt)) refl) in
    let parts : total k (λ t. (M t i -ℤ along n o (M t) *ℤ g i) *ℤ T t c)
    ≡ total k (λ t. M t i *ℤ T t c) +ℤ (pos 0 -ℤ g i) *ℤ total k (λ t. along n o (M t) *ℤ T t c) =
    total-equal k (λ t. (M t i -ℤ along n o (M t) *ℤ g i) *ℤ T t c) (λ t. M t i *ℤ T t c +ℤ (pos 0 -ℤ g i) *ℤ (along n o (M t) *ℤ T t c))
    (λ t l.
    let A = var 0 in
    let B = var 1 in
    let G = var 2 in
    let Y = var 3 in
    ring (M t i ∷ along n o (M t) ∷ g i ∷ T t c ∷ []) ((A ⊖ B ⊗ G) ⊗ Y) (A ⊗ Y ⊕ (con (pos 0) ⊖ G) ⊗ (B ⊗ Y)) refl)
    ∙ total-join k (pos 0 -ℤ g i) (λ t. M t i *ℤ T t c) (λ t. along n o (M t) *ℤ T t c) in
    let row = row_split p n k Q M T some split o c hc in
    let Q2 = var 0 in
    let S2 = var 1 in
    let M2 = var 2 in
    let T2 = var 3 in
    let O = var 4 in
    let G = var 5 in
    let QC = var 6 in
    let OQ = var 7 in
    let S = var 8 in
    let OS = var 9 in
    let U = var 10 in
    ap (λ (x : ℤ). residue_by p (Q' c i +ℤ x)) more
    ∙ congruence p
    (Q' c i ∷ total k (λ t. M' t i *ℤ T' t c) ∷ M' k i ∷ T' k c ∷ o c ∷ g i ∷ Q c i ∷ along n o (Q c) ∷ total k (λ t. M t i *ℤ T t c)
    ∷ total k (λ t. along n o (M t) *ℤ T t c) ∷ unit i c ∷ [])
    (Q2 ⊕ (S2 ⊕ M2 ⊗ T2)) U
    (record { by = con (pos 1); left = Q2; right = QC ⊖ OQ ⊗ G }
    ∷ record { by = con (pos 1); left = S2; right = S ⊕ (con (pos 0) ⊖ G) ⊗ OS }
    ∷ record { by = T2; left = M2; right = G }
    ∷ record { by = G; left = T2; right = O }
    ∷ record { by = con (pos 1); left = QC ⊕ S; right = U }
    ∷ record { by = G; left = O; right = OQ ⊕ OS }
    ∷ [])
    some
    (is.unseen c i hc hi, (each ∙ ap (residue_by p) parts, (is.last i hi, (ap (residue_by p) (is.row c hc), (split i c hi hc, (row, tt))))))
    refl
