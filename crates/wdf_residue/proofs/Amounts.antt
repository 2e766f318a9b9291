-- Sums of natural numbers, from the front.
use Rattle.std.proofs.Common.{◌≡◌, ℕ, zero, suc, ◌+◌, ◌<◌, refl, arith}

-- z 0 + z 1 + .. + z (n - 1)
abbrev pub amount : ℕ → (ℕ → ℕ) → ℕ
amount zero z = 0
amount (suc n) z = z 0 + amount n (λ j. z (suc j))

pub amount-same : (n : ℕ) (y z : ℕ → ℕ) → ((c : ℕ) → c < n → y c ≡ z c) → amount n y ≡ amount n z
amount-same zero y z same = refl
amount-same (suc n) y z same =
    let first = same 0 (omega arith) in
    let rest = amount-same n (λ j. y (suc j)) (λ j. z (suc j)) (λ j h. same (suc j) (omega arith)) in
    omega arith

-- one term falls from 1 to 0
pub amount-less : (n p : ℕ) (y z : ℕ → ℕ) → p < n → ((c : ℕ) → c < n → (c ≡ p → ⊥) → z c ≡ y c) → y p ≡ 1 → z p ≡ 0 → amount n z + 1 ≡ amount n y
amount-less zero p y z h same one none = absurd (omega arith)
amount-less (suc n) zero y z h same one none =
    let rest = amount-same n (λ j. z (suc j)) (λ j. y (suc j)) (λ j k. same (suc j) (omega arith) (λ e. absurd (omega arith))) in
    omega arith
amount-less (suc n) (suc p) y z h same one none =
    let first = same 0 (omega arith) (λ e. absurd (omega arith)) in
    let rest = amount-less n p (λ j. y (suc j)) (λ j. z (suc j)) (omega arith) (λ c k ne. same (suc c) (omega arith) (λ e. ne (omega arith))) one none in
    omega arith

pub amount-ones : (n : ℕ) (z : ℕ → ℕ) → ((c : ℕ) → c < n → z c ≡ 1) → amount n z ≡ n
amount-ones zero z one = refl
amount-ones (suc n) z one =
    let first = one 0 (omega arith) in
    let rest = amount-ones n (λ j. z (suc j)) (λ j h. one (suc j) (omega arith)) in
    omega arith

pub amount-none : (n : ℕ) (z : ℕ → ℕ) → ((c : ℕ) → c < n → z c ≡ 0) → amount n z ≡ 0
amount-none zero z none = refl
amount-none (suc n) z none =
    let first = none 0 (omega arith) in
    let rest = amount-none n (λ j. z (suc j)) (λ j h. none (suc j) (omega arith)) in
    omega arith

-- where the sum is 0 each term is
pub none-amount : (n : ℕ) (z : ℕ → ℕ) → amount n z ≡ 0 → (c : ℕ) → c < n → z c ≡ 0
none-amount zero z e c h = absurd (omega arith)
none-amount (suc n) z e zero h = omega arith
none-amount (suc n) z e (suc c) h = none-amount n (λ j. z (suc j)) (omega arith) c (omega arith)
