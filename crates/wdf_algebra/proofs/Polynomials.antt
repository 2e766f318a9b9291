-- Polynomials with whole coefficients as data, and a normal form that computes: two expressions
-- whose difference has a vanishing normal form are equal for all values of their variables.
use Rattle.std.proofs.Common.{◌≡◌, ℕ, ◌+◌, zero, suc, Bool, true, false, ◌&&◌, ◌==◌, if◌then◌else◌, List, [], ◌∷◌, refl, sym, ap, ◌∙◌, arith}
use lib.IntN.{ℤ, pos, negsuc, ◌+ℤ◌, ◌-ℤ◌, ◌*ℤ◌, neg_ℤ, *ℤ_comm, +ℤ_assoc}
use Rattle.wdf_algebra.proofs.RingLaws.{linear, mul-assoc, mul-add, add-mul, neg-mul, one-mul, zero-mul, mul-swap}

-- an expression: a number, a variable by its place, and -a, a + b, a - b, a · b
pub data Ex : Type 0 where
  con : ℤ → Ex
  var : ℕ → Ex
  neg : Ex → Ex
  ◌⊕◌ : Ex → Ex → Ex
  ◌⊖◌ : Ex → Ex → Ex
  ◌⊗◌ : Ex → Ex → Ex

infixl 6 ◌⊕◌
infixl 6 ◌⊖◌
infixl 7 ◌⊗◌
-- the value at a place of the environment, 0 behind its end
abbrev pub nth : List ℤ → ℕ → ℤ
nth [] i = pos 0
nth (x ∷ xs) zero = x
nth (x ∷ xs) (suc i) = nth xs i

-- the value of an expression
abbrev pub eval : List ℤ → Ex → ℤ
eval env (con c) = c
eval env (var i) = nth env i
eval env (neg a) = neg_ℤ (eval env a)
eval env (a ⊕ b) = eval env a +ℤ eval env b
eval env (a ⊖ b) = eval env a -ℤ eval env b
eval env (a ⊗ b) = eval env a *ℤ eval env b

-- A monomial is a coefficient and the exponents of the variables in order; a polynomial is a list of them.
abbrev pub Poly : Type 0
Poly = List (ℤ × List ℕ)

-- the exponents of one variable
abbrev pub exponents : ℕ → List ℕ
exponents zero = 1 ∷ []
exponents (suc i) = 0 ∷ exponents i

abbrev pub same : List ℕ → List ℕ → Bool
same [] [] = true
same [] (n ∷ ns) = false
same (m ∷ ms) [] = false
same (m ∷ ms) (n ∷ ns) = (m == n) && same ms ns

abbrev pub sums : List ℕ → List ℕ → List ℕ
sums [] ns = ns
sums (m ∷ ms) [] = m ∷ ms
sums (m ∷ ms) (n ∷ ns) = (m + n) ∷ sums ms ns

-- one monomial more, joined with the one of the same exponents where there is one
abbrev pub put : ℤ → List ℕ → Poly → Poly
put c m [] = (c, m) ∷ []
put c m (t ∷ p) = if same m t.1 then (c +ℤ t.0, t.1) ∷ p else t ∷ put c m p

abbrev pub plus : Poly → Poly → Poly
plus [] q = q
plus (t ∷ p) q = put t.0 t.1 (plus p q)

-- r with c·m times a polynomial added
abbrev pub scaled_onto : ℤ → List ℕ → Poly → Poly → Poly
scaled_onto c m [] r = r
scaled_onto c m (t ∷ p) r = put (c *ℤ t.0) (sums m t.1) (scaled_onto c m p r)

abbrev pub times : Poly → Poly → Poly
times [] q = []
times (t ∷ p) q = scaled_onto t.0 t.1 q (times p q)

abbrev pub negated : Poly → Poly
negated [] = []
negated (t ∷ p) = (neg_ℤ t.0, t.1) ∷ negated p

-- the normal form
abbrev pub norm : Ex → Poly
norm (con c) = (c, []) ∷ []
norm (var i) = (pos 1, exponents i) ∷ []
norm (neg a) = negated (norm a)
norm (a ⊕ b) = plus (norm a) (norm b)
norm (a ⊖ b) = plus (norm a) (negated (norm b))
norm (a ⊗ b) = times (norm a) (norm b)

abbrev pub is_nought : ℤ → Bool
is_nought (pos zero) = true
is_nought (pos (suc n)) = false
is_nought (negsuc n) = false

-- every coefficient is 0
abbrev pub vanishes : Poly → Bool
vanishes [] = true
vanishes (t ∷ p) = is_nought t.0 && vanishes p

-- ---- values

abbrev power : ℤ → ℕ → ℤ
power x zero = pos 1
power x (suc n) = x *ℤ power x n

abbrev mono : List ℤ → List ℕ → ℤ
mono env [] = pos 1
mono [] (n ∷ ns) = power (pos 0) n *ℤ mono [] ns
mono (x ∷ xs) (n ∷ ns) = power x n *ℤ mono xs ns

abbrev value : List ℤ → Poly → ℤ
value env [] = pos 0
value env (t ∷ p) = t.0 *ℤ mono env t.1 +ℤ value env p

power-add : (x : ℤ) (m n : ℕ) → power x (m + n) ≡ power x m *ℤ power x n
power-add x zero n = ap (power x) (omega arith) ∙ sym (one-mul (power x n))
power-add x (suc m) n =
    let e : suc m + n ≡ suc (m + n) = omega arith in
    ap (power x) e ∙ (ap (λ (y : ℤ). x *ℤ y) (power-add x m n) ∙ sym (mul-assoc x (power x m) (power x n)))

mono-sums : (env : List ℤ) (m n : List ℕ) → mono env (sums m n) ≡ mono env m *ℤ mono env n
mono-sums [] [] n = sym (one-mul (mono [] n))
mono-sums (x ∷ xs) [] n = sym (one-mul (mono (x ∷ xs) n))
mono-sums [] (m ∷ ms) [] = sym (*ℤ_comm (mono [] (m ∷ ms)) (pos 1) ∙ one-mul (mono [] (m ∷ ms)))
mono-sums (x ∷ xs) (m ∷ ms) [] = sym (*ℤ_comm (mono (x ∷ xs) (m ∷ ms)) (pos 1) ∙ one-mul (mono (x ∷ xs) (m ∷ ms)))
mono-sums [] (m ∷ ms) (n ∷ ns) =
    ap (λ (y : ℤ). y *ℤ mono [] (sums ms ns)) (power-add (pos 0) m n)
    ∙ (ap (λ (y : ℤ). (power (pos 0) m *ℤ power (pos 0) n) *ℤ y) (mono-sums [] ms ns)
    ∙ mul-swap (power (pos 0) m) (power (pos 0) n) (mono [] ms) (mono [] ns))
mono-sums (x ∷ xs) (m ∷ ms) (n ∷ ns) =
    ap (λ (y : ℤ). y *ℤ mono xs (sums ms ns)) (power-add x m n)
    ∙ (ap (λ (y : ℤ). (power x m *ℤ power x n) *ℤ y) (mono-sums xs ms ns)
    ∙ mul-swap (power x m) (power x n) (mono xs ms) (mono xs ns))

and-parts : (a b : Bool) → a && b ≡ true → (a ≡ true) × (b ≡ true)
and-parts true b e = (refl, e)
and-parts false b e = absurd (cc)

same-true : (m n : List ℕ) → same m n ≡ true → m ≡ n
same-true [] [] e = refl
same-true [] (n ∷ ns) e = absurd (cc)
same-true (m ∷ ms) [] e = absurd (cc)
same-true (m ∷ ms) (n ∷ ns) e =
    let parts = and-parts (m == n) (same ms ns) e in
    let first : m ≡ n = grind (arith, parts.0) in
    let rest = same-true ms ns parts.1 in
    cc

value-put : (env : List ℤ) (c : ℤ) (m : List ℕ) (p : Poly) → value env (put c m p) ≡ c *ℤ mono env m +ℤ value env p
value-put env c m [] = refl
value-put env c m (t ∷ p) = by (same m t.1) (value-put env c m p) refl
  where
    by : (b : Bool) → value env (put c m p) ≡ c *ℤ mono env m +ℤ value env p → same m t.1 ≡ b
        → value env (if b then (c +ℤ t.0, t.1) ∷ p else t ∷ put c m p) ≡ c *ℤ mono env m +ℤ (t.0 *ℤ mono env t.1 +ℤ value env p)
    by true rest e =
        ap (λ (y : ℤ). y +ℤ value env p) (add-mul c t.0 (mono env t.1))
        ∙ (+ℤ_assoc (c *ℤ mono env t.1) (t.0 *ℤ mono env t.1) (value env p)
        ∙ ap (λ (n : List ℕ). c *ℤ mono env n +ℤ (t.0 *ℤ mono env t.1 +ℤ value env p)) (sym (same-true m t.1 e)))
    by false rest e = ap (λ (y : ℤ). t.0 *ℤ mono env t.1 +ℤ y) rest ∙ omega (arith, linear)

value-plus : (env : List ℤ) (p q : Poly) → value env (plus p q) ≡ value env p +ℤ value env q
value-plus env [] q = omega (arith, linear)
value-plus env (t ∷ p) q =
    value-put env t.0 t.1 (plus p q)
    ∙ (ap (λ (y : ℤ). t.0 *ℤ mono env t.1 +ℤ y) (value-plus env p q)
    ∙ sym (+ℤ_assoc (t.0 *ℤ mono env t.1) (value env p) (value env q)))

value-scaled_onto : (env : List ℤ) (c : ℤ) (m : List ℕ) (p r : Poly)
    → value env (scaled_onto c m p r) ≡ (c *ℤ mono env m) *ℤ value env p +ℤ value env r
value-scaled_onto env c m [] r =
    let e = *ℤ_comm (c *ℤ mono env m) (pos 0) ∙ zero-mul (c *ℤ mono env m) in
    omega (arith, linear)
value-scaled_onto env c m (t ∷ p) r =
    let rest = value-scaled_onto env c m p r in
    let split = mul-add (c *ℤ mono env m) (t.0 *ℤ mono env t.1) (value env p) in
    let head = ap (λ (y : ℤ). (c *ℤ t.0) *ℤ y) (mono-sums env m t.1) ∙ mul-swap c t.0 (mono env m) (mono env t.1) in
    value-put env (c *ℤ t.0) (sums m t.1) (scaled_onto c m p r) ∙ omega (arith, linear)

value-times : (env : List ℤ) (p q : Poly) → value env (times p q) ≡ value env p *ℤ value env q
value-times env [] q = sym (zero-mul (value env q))
value-times env (t ∷ p) q =
    let rest = value-times env p q in
    let split = add-mul (t.0 *ℤ mono env t.1) (value env p) (value env q) in
    value-scaled_onto env t.0 t.1 q (times p q) ∙ omega (arith, linear)

value-negated : (env : List ℤ) (p : Poly) → value env (negated p) ≡ neg_ℤ (value env p)
value-negated env [] = refl
value-negated env (t ∷ p) =
    let rest = value-negated env p in
    let head = neg-mul t.0 (mono env t.1) in
    omega (arith, linear)

mono-exponents : (env : List ℤ) (i : ℕ) → mono env (exponents i) ≡ nth env i
mono-exponents [] zero = refl
mono-exponents [] (suc i) = one-mul (mono [] (exponents i)) ∙ mono-exponents [] i
mono-exponents (x ∷ xs) zero =
    *ℤ_comm (x *ℤ pos 1) (pos 1) ∙ (one-mul (x *ℤ pos 1) ∙ (*ℤ_comm x (pos 1) ∙ one-mul x))
mono-exponents (x ∷ xs) (suc i) = one-mul (mono xs (exponents i)) ∙ mono-exponents xs i

value-norm : (env : List ℤ) (a : Ex) → value env (norm a) ≡ eval env a
value-norm env (con c) =
    let e = *ℤ_comm c (pos 1) ∙ one-mul c in omega (arith, linear)
value-norm env (var i) =
    let e = one-mul (mono env (exponents i)) ∙ mono-exponents env i in omega (arith, linear)
value-norm env (neg a) = value-negated env (norm a) ∙ ap neg_ℤ (value-norm env a)
value-norm env (a ⊕ b) =
    let l = value-norm env a in
    let r = value-norm env b in
    value-plus env (norm a) (norm b) ∙ omega (arith, linear)
value-norm env (a ⊖ b) =
    let l = value-norm env a in
    let r = value-negated env (norm b) ∙ ap neg_ℤ (value-norm env b) in
    value-plus env (norm a) (negated (norm b)) ∙ omega (arith, linear)
value-norm env (a ⊗ b) =
    value-times env (norm a) (norm b)
    ∙ (ap (λ (x : ℤ). x *ℤ value env (norm b)) (value-norm env a) ∙ ap (λ (x : ℤ). eval env a *ℤ x) (value-norm env b))

nought : (c : ℤ) → is_nought c ≡ true → c ≡ pos 0
nought (pos zero) e = refl
nought (pos (suc n)) e = absurd (cc)
nought (negsuc n) e = absurd (cc)

value-vanishes : (env : List ℤ) (p : Poly) → vanishes p ≡ true → value env p ≡ pos 0
value-vanishes env [] e = refl
value-vanishes env (t ∷ p) e =
    let parts = and-parts (is_nought t.0) (vanishes p) e in
    let head = ap (λ (c : ℤ). c *ℤ mono env t.1) (nought t.0 parts.0) ∙ zero-mul (mono env t.1) in
    let rest = value-vanishes env p parts.1 in
    omega (arith, linear)

-- l and r are one polynomial
pub ring : (env : List ℤ) (l r : Ex) → vanishes (norm (l ⊖ r)) ≡ true → eval env l ≡ eval env r
ring env l r e =
    let z = sym (value-norm env (l ⊖ r)) ∙ value-vanishes env (norm (l ⊖ r)) e in
    omega (arith, linear)
