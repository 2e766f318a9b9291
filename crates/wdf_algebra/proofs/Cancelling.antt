-- A positive natural factor is taken off both sides of an equation.
use Rattle.std.proofs.Common.{◌≡◌, ℕ, ◌*◌, ◌<◌, ◌≤◌, ap, arith}
use Rattle.std.proofs.Math.Nat.{le_of_mul-le-mul_left}
use lib.IntN.{ℤ, pos, ◌*ℤ◌}
use borrow.Author.Differences.{up, down, same_in, product_is}

pub cancel_nat : (g m n : ℕ) → 0 < g → g * m ≡ g * n → m ≡ n
cancel_nat g m n h e =
    let one : m ≤ n = le_of_mul-le-mul_left {k = g} (omega arith) h in
    let two : n ≤ m = le_of_mul-le-mul_left {k = g} (omega arith) h in
    omega arith

pub cancel : (g : ℕ) (a b : ℤ) → 0 < g → pos g *ℤ a ≡ pos g *ℤ b → a ≡ b
cancel g a b h e =
    let ups : g * up a ≡ g * up b = omega (arith, product_is (pos g) a, product_is (pos g) b, ap up e) in
    let downs : g * down a ≡ g * down b = omega (arith, product_is (pos g) a, product_is (pos g) b, ap down e) in
    let above = cancel_nat g (up a) (up b) h ups in
    let below = cancel_nat g (down a) (down b) h downs in
    same_in a b (omega arith)
