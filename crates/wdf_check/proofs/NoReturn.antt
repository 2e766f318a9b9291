-- A state of words that returns is rest, where a certificate exists.
use Rattle.std.proofs.Common.{◌≡◌, ℕ, zero, suc, ◌+◌, ◌-◌, ◌^◌, ◌<◌, ◌≤◌, Bool, true, false, ◌||◌, ◌==◌, if◌then◌else◌, cond, List, [], ◌∷◌, length, map, get_or, refl, sym, ap, ◌∙◌, subst, arith}
use Rattle.std.specs.Prelude.{All, filter, unsigned_abs}
use Rattle.std.specs.List.{range_with_len, flat_map, list_any}
use Rattle.std.proofs.Math.Nat.{pow-le-pow_right}
use Rattle.std.proofs.lemmas.Bool.{eqb-true, ne_eqb}
use Rattle.std.proofs.lemmas.List.{length-map, get_or-map, ext_get_or}
use Rattle.std.proofs.lemmas.List.Elements.{All-nil, All-append, All-map}
use lib.IntN.{ℤ, pos, ◌+ℤ◌, ◌*ℤ◌, *ℤ_comm}
use Rattle.wdf_algebra.proofs.RingLaws.{linear, one-mul, zero-mul}
use Rattle.wdf_algebra.proofs.Polynomials.{con, var, ◌⊕◌, ◌⊗◌}
use Rattle.wdf_algebra.proofs.Congruences.{congruence, residue-residue, small-zero}
use Rattle.wdf_law.specs.Network.{Network, IsNetwork, elements, reactances, absorbing_numbers, has_reactance}
use Rattle.wdf_law.specs.Step.{Frame, sent_in, after}
use Rattle.wdf_law.specs.Run.{entry, states, at_rest}
use Rattle.wdf_law.specs.Solved.{solved}
use Rattle.wdf_law.specs.PortLaws.{HasPorts}
use Rattle.wdf_law.specs.Laws.{KeepsEnergy, HasOneStep, IsLossless}
use Rattle.wdf_residue.specs.Residue.{prime, residue}
use Rattle.wdf_residue.specs.Laws.{weighed, SeesEach}
use Rattle.wdf_check.specs.ResidueStep.{next, steps}
use Rattle.wdf_check.specs.Observability.{unit_state, observed_row, observed_rows, observability}
use Rattle.wdf_check.specs.Certificate.{Certificate, Certifies}
use Rattle.wdf_check.specs.Returning.{silent, Returns, NeverReturns}
use Rattle.wdf_check.proofs.LinearSteps.{join, joined, steps-join, steps-rest, steps-next}
use Rattle.wdf_check.proofs.ExactSteps.{prime-pos, next-exact}
use Rattle.wdf_check.proofs.Silence.{IsSilent, first-silent, returns-length, unseen}

-- what is known of the network
pub record IsKnown (n : Network) : Type 0 where
  pub rules : IsNetwork n
  pub ports : HasPorts n
  pub one_step : HasOneStep n
  pub energy : KeepsEnergy n

-- ---- no element ever sees a state that returns

-- the residues at the reactances are those of a state
abbrev HasResidues : Network → List ℤ → (ℕ → ℤ) → Type 0
HasResidues n zs y = (i : ℕ) → has_reactance (elements n) i ≡ true → residue (states n zs i) ≡ residue (y i)

-- after a silent step the residue step has the waves that were sent
sent-next : (n : Network) → IsKnown n → (zs : List ℤ) (s : Frame) → IsSilent n zs s → (y : ℕ → ℤ) → HasResidues n zs y → (i : ℕ) → residue (sent_in n s i) ≡ residue (next n y i)
sent-next n known zs s h y same i =
    let few : n.k ≤ 61 = let w = known.rules.width in omega arith in
    let at : s ≡ solved n (states n zs) silent = known.one_step.only zs silent s (solved n (states n zs) silent) h.step (known.one_step.values zs silent) in
    ap (λ (f : Frame). residue (sent_in n f i)) at
    ∙ next-exact n (states n zs) y i few same (subst (IsLossless n) at h.exact)

residues-next : (n : Network) → IsKnown n → (zs : List ℤ) (s : Frame) → IsSilent n zs s → (y : ℕ → ℤ) → HasResidues n zs y → HasResidues n (after n s) (next n y)
residues-next n known zs s h y same i reacts = ap residue (known.one_step.left_behind s i reacts) ∙ sent-next n known zs s h y same i

stays_unseen : (n : Network) → IsKnown n → (t : ℕ) (zs : List ℤ) (j : ℕ) → Returns n zs j → (y : ℕ → ℤ) → HasResidues n zs y
    → All (λ (i : ℕ). residue (steps n (suc t) y i) ≡ 0) (absorbing_numbers n)
stays_unseen n known zero zs j r y same = λ k d less.
    let first = first-silent n known.ports known.energy zs j r in
    let none = unseen n known.ports (states n zs) first.0 first.1.step first.1.none k d less in
    sym (sent-next n known zs first.0 first.1 y same (get_or (absorbing_numbers n) k d)) ∙ ap residue none
stays_unseen n known (suc t) zs j r y same =
    let first = first-silent n known.ports known.energy zs j r in
    let rest = stays_unseen n known t (after n first.0) first.1.back.0 first.1.back.1 (next n y) (residues-next n known zs first.0 first.1 y same) in
    subst (λ (x : ℕ → ℤ). All (λ (i : ℕ). residue (x i) ≡ 0) (absorbing_numbers n)) (steps-next n (suc t) y) rest

-- ---- a state is the sum of its entries times the unit states

-- no number stands twice
abbrev AreDistinct : List ℕ → Type 0
AreDistinct [] = Unit {0}
AreDistinct (k ∷ ks) = (list_any (λ (x : ℕ). x == k) ks ≡ false) × AreDistinct ks

entry-none : (ks : List ℕ) (zs : List ℤ) (i : ℕ) → list_any (λ (x : ℕ). x == i) ks ≡ false → entry ks zs i ≡ pos 0
entry-none [] zs i h = refl
entry-none (k ∷ ks) [] i h = refl
entry-none (k ∷ ks) (z ∷ zs) i h = by (k == i) (entry-none ks zs i) h
  where
    by : (b : Bool) → (list_any (λ (x : ℕ). x == i) ks ≡ false → entry ks zs i ≡ pos 0) → (b || list_any (λ (x : ℕ). x == i) ks) ≡ false → cond {A = ℤ} b z (entry ks zs i) ≡ pos 0
    by true rest e = absurd (cc)
    by false rest e = rest e

-- one entry and the others
entry-join : (k : ℕ) (ks : List ℕ) (z : ℤ) (zs : List ℤ) → list_any (λ (x : ℕ). x == k) ks ≡ false → (i : ℕ)
    → entry (k ∷ ks) (z ∷ zs) i ≡ joined z (unit_state k) (entry ks zs) i
entry-join k ks z zs fresh i = by (k == i) refl
  where
    by : (b : Bool) → (k == i) ≡ b → cond {A = ℤ} b z (entry ks zs i) ≡ z *ℤ (if b then pos 1 else pos 0) +ℤ entry ks zs i
    by true e =
        let at : k ≡ i = eqb-true k i e in
        let none : entry ks zs i ≡ pos 0 = ap (entry ks zs) (sym at) ∙ entry-none ks zs k fresh in
        let one : z *ℤ pos 1 ≡ z = *ℤ_comm z (pos 1) ∙ one-mul z in
        omega (arith, linear)
    by false e =
        let none : z *ℤ pos 0 ≡ pos 0 = *ℤ_comm z (pos 0) ∙ zero-mul z in
        omega (arith, linear)

-- a row of the matrix weighs a state as the element sees it
row-weighs : (n : Network) (t element : ℕ) (ks : List ℕ) (zs : List ℤ) → AreDistinct ks
    → residue (weighed (map (λ (k : ℕ). residue (steps n t (unit_state k) element)) ks) zs) ≡ residue (steps n t (entry ks zs) element)
row-weighs n t element [] zs h = sym (ap residue (steps-rest n t element))
row-weighs n t element (k ∷ ks) [] h = sym (ap residue (steps-rest n t element))
row-weighs n t element (k ∷ ks) (z ∷ zs) h =
    let rest = row-weighs n t element ks zs h.1 in
    let state : entry (k ∷ ks) (z ∷ zs) ≡ joined z (unit_state k) (entry ks zs) = λ j i. entry-join k ks z zs h.0 i j in
    let parts : steps n t (entry (k ∷ ks) (z ∷ zs)) element ≡ join z (steps n t (unit_state k) element) (steps n t (entry ks zs) element) =
    ap (λ (x : ℕ → ℤ). steps n t x element) state ∙ steps-join n t z (unit_state k) (entry ks zs) element in
    let R = var 0 in
    let Z = var 1 in
    let W = var 2 in
    let S = var 3 in
    let E = var 4 in
    congruence prime
    (pos (residue (steps n t (unit_state k) element)) ∷ z ∷ weighed (map (λ (k : ℕ). residue (steps n t (unit_state k) element)) ks) zs
    ∷ steps n t (unit_state k) element ∷ steps n t (entry ks zs) element ∷ [])
    (R ⊗ Z ⊕ W) (Z ⊗ S ⊕ E)
    (record { by = Z; left = R; right = S } ∷ record { by = con (pos 1); left = W; right = E } ∷ [])
    prime-pos (residue-residue prime (steps n t (unit_state k) element) prime-pos, (rest, tt)) refl
    ∙ sym (ap residue parts)

-- the numbers of the reactances are distinct
fresh-below : (p : ℕ → Bool) (c a i : ℕ) → i < a → list_any (λ (x : ℕ). x == i) (filter p (range_with_len a c)) ≡ false
fresh-below p zero a i h = refl
fresh-below p (suc c) a i h = by (p a) (fresh-below p c (a + 1) i (omega arith))
  where
    by : (b : Bool) → list_any (λ (x : ℕ). x == i) (filter p (range_with_len (a + 1) c)) ≡ false
        → list_any (λ (x : ℕ). x == i) (cond b (a ∷ filter p (range_with_len (a + 1) c)) (filter p (range_with_len (a + 1) c))) ≡ false
    by true rest = ap (λ (b : Bool). b || list_any (λ (x : ℕ). x == i) (filter p (range_with_len (a + 1) c))) (ne_eqb a i (λ e. absurd (omega arith))) ∙ rest
    by false rest = rest

distinct : (p : ℕ → Bool) (c a : ℕ) → AreDistinct (filter p (range_with_len a c))
distinct p zero a = tt
distinct p (suc c) a = by (p a) (distinct p c (a + 1))
  where
    by : (b : Bool) → AreDistinct (filter p (range_with_len (a + 1) c)) → AreDistinct (cond b (a ∷ filter p (range_with_len (a + 1) c)) (filter p (range_with_len (a + 1) c)))
    by true rest = (fresh-below p c (a + 1) a (omega arith), rest)
    by false rest = rest

-- ---- every row

All-flat_map : (P : List ℕ → Type 0) (f : ℕ → List (List ℕ)) (xs : List ℕ) → ((x : ℕ) → All P (f x)) → All P (flat_map f xs)
All-flat_map P f [] each = All-nil P
All-flat_map P f (x ∷ xs) each = All-append P (f x) (flat_map f xs) (each x) (All-flat_map P f xs each)

pub rows_unseen : (n : Network) → IsKnown n → (zs : List ℤ) (j : ℕ) → Returns n zs j → All (λ (row : List ℕ). residue (weighed row zs) ≡ 0) (observability n).rows
rows_unseen n known zs j r =
    All-flat_map (λ (row : List ℕ). residue (weighed row zs) ≡ 0) (observed_rows n) (range_with_len 0 (length (reactances n)))
    (λ t. All-map (λ (row : List ℕ). residue (weighed row zs) ≡ 0) (observed_row n t) (absorbing_numbers n)
    (λ k d less.
    row-weighs n (suc t) (get_or (absorbing_numbers n) k d) (reactances n) zs (distinct (has_reactance (elements n)) (length (elements n)) 0)
    ∙ stays_unseen n known t zs j r (states n zs) (λ i reacts. refl) k d less))

-- ---- the law

pub no_return : (n : Network) (c : Certificate) → IsKnown n → SeesEach → Certifies n c → NeverReturns n
no_return n c known sees certifies zs j words r =
    ext_get_or (pos 0) zs (at_rest n) (long ∙ sym (length-map (reactances n) (λ (i : ℕ). pos 0)))
    (λ i h.
    small-zero prime (get_or zs i (pos 0)) prime-pos (small i h) (none i (pos 0) h)
    ∙ sym (get_or-map (λ (i : ℕ). pos 0) (reactances n) i 0 (pos 0) (let e = long in omega arith)))
  where
    long : length zs ≡ length (reactances n)
    long = returns-length n zs j r

    none : All (λ (z : ℤ). residue z ≡ 0) zs
    none = sees (observability n) c.rows c.inverse zs certifies.rows certifies.product long (rows_unseen n known zs j r)

    small : (i : ℕ) → i < length zs → unsigned_abs (get_or zs i (pos 0)) < prime
    small i h =
        let word : unsigned_abs (get_or zs i (pos 0)) ≤ 2 ^ (60 - n.k) = words i (pos 0) h in
        let two : 0 < 2 = omega arith in
        let less : 60 - n.k ≤ 60 = omega arith in
        let wide : 2 ^ (60 - n.k) ≤ 2 ^ 60 = pow-le-pow_right two less in
        omega arith
