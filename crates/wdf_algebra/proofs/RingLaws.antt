-- The laws of whole numbers as a commutative ring, which the library has only in part.
use Rattle.std.proofs.Common.{◌≡◌, ℕ, ◌*◌, sym, ap, ◌∙◌, arith}
use lib.IntN.{ℤ, pos, ◌+ℤ◌, ◌*ℤ◌, neg_ℤ, *ℤ_comm}
use borrow.Author.Differences.{up, down, same_in, same_out, sum_is_lem, neg_is, product_is}

-- sums of whole numbers with products as atoms, for `omega`
pub ruleset linear = (same_in, same_out, sum_is_lem, neg_is)

pub mul-assoc : (a b c : ℤ) → (a *ℤ b) *ℤ c ≡ a *ℤ (b *ℤ c)
mul-assoc a b c =
    let l0 = ap (λ (n : ℕ). n * up c) (product_is a b).0 in
    let l1 = ap (λ (n : ℕ). n * down c) (product_is a b).1 in
    let l2 = ap (λ (n : ℕ). n * down c) (product_is a b).0 in
    let l3 = ap (λ (n : ℕ). n * up c) (product_is a b).1 in
    let r0 = ap (λ (n : ℕ). up a * n) (product_is b c).0 in
    let r1 = ap (λ (n : ℕ). down a * n) (product_is b c).1 in
    let r2 = ap (λ (n : ℕ). up a * n) (product_is b c).1 in
    let r3 = ap (λ (n : ℕ). down a * n) (product_is b c).0 in
    same_in _ _ (omega (arith, product_is (a *ℤ b) c, product_is a (b *ℤ c)))

pub mul-add : (a b c : ℤ) → a *ℤ (b +ℤ c) ≡ a *ℤ b +ℤ a *ℤ c
mul-add a b c =
    let s0 = ap (λ (n : ℕ). up a * n) (sum_is_lem b c) in
    let s1 = ap (λ (n : ℕ). down a * n) (sum_is_lem b c) in
    same_in _ _ (omega (arith, product_is a (b +ℤ c), product_is a b, product_is a c, sum_is_lem (a *ℤ b) (a *ℤ c)))

pub add-mul : (a b c : ℤ) → (a +ℤ b) *ℤ c ≡ a *ℤ c +ℤ b *ℤ c
add-mul a b c =
    let s0 = ap (λ (n : ℕ). n * up c) (sum_is_lem a b) in
    let s1 = ap (λ (n : ℕ). n * down c) (sum_is_lem a b) in
    same_in _ _ (omega (arith, product_is (a +ℤ b) c, product_is a c, product_is b c, sum_is_lem (a *ℤ c) (b *ℤ c)))

pub neg-mul : (a b : ℤ) → neg_ℤ a *ℤ b ≡ neg_ℤ (a *ℤ b)
neg-mul a b =
    let s0 = ap (λ (n : ℕ). n * up b) (neg_is a).0 in
    let s1 = ap (λ (n : ℕ). n * down b) (neg_is a).1 in
    let s2 = ap (λ (n : ℕ). n * down b) (neg_is a).0 in
    let s3 = ap (λ (n : ℕ). n * up b) (neg_is a).1 in
    same_in _ _ (omega (arith, product_is (neg_ℤ a) b, product_is a b, neg_is (a *ℤ b)))

pub mul-neg : (a b : ℤ) → a *ℤ neg_ℤ b ≡ neg_ℤ (a *ℤ b)
mul-neg a b = *ℤ_comm a (neg_ℤ b) ∙ (neg-mul b a ∙ ap neg_ℤ (*ℤ_comm b a))

pub one-mul : (a : ℤ) → pos 1 *ℤ a ≡ a
one-mul a = same_in _ _ (omega (arith, product_is (pos 1) a))

pub zero-mul : (a : ℤ) → pos 0 *ℤ a ≡ pos 0
zero-mul a = same_in _ _ (omega (arith, product_is (pos 0) a))

-- a product of four, its middle two in the other order
pub mul-swap : (a b c d : ℤ) → (a *ℤ b) *ℤ (c *ℤ d) ≡ (a *ℤ c) *ℤ (b *ℤ d)
mul-swap a b c d =
    mul-assoc a b (c *ℤ d)
    ∙ (ap (λ (x : ℤ). a *ℤ x) (sym (mul-assoc b c d) ∙ (ap (λ (x : ℤ). x *ℤ d) (*ℤ_comm b c) ∙ mul-assoc c b d))
    ∙ sym (mul-assoc a c (b *ℤ d)))
