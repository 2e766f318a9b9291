-- The plan of a run: the width k of the multipliers, how samples enter and leave (guard, shift, bits), and the most that
-- they may be: at most frames frames, with samples of at most amp.
use Rattle.std.specs.Prelude.{ℕ, ◌-◌, ◌*◌, ◌^◌, ◌≤◌, ◌==◌, ◌||◌, Bool, IsTrue}

pub record PlanOf : Type 0 where
  pub k : ℕ
  pub guard : ℕ
  pub shift : ℕ
  pub frames : ℕ
  pub amp : ℕ
  pub bits : ℕ

-- a plan by the fields of its type
abbrev pub plan_of : ℕ → ℕ → ℕ → ℕ → ℕ → ℕ → PlanOf
plan_of k guard shift frames amp bits = record { k = k; guard = guard; shift = shift; frames = frames; amp = amp; bits = bits }

-- the widths that a sample may have, in bits
abbrev pub is_sample_width : ℕ → Bool
is_sample_width bits = bits == 8 || bits == 16 || bits == 24 || bits == 32

-- what a plan keeps
pub record IsPlan (p : PlanOf) : Type 0 where
  pub width : (1 ≤ p.k) × (p.k ≤ 20)
  pub guard : p.guard ≤ 16
  pub shift : p.shift ≤ 16
  pub frames : (1 ≤ p.frames) × (p.frames ≤ 4294967295)
  pub bits : IsTrue (is_sample_width p.bits)
  pub amp : (1 ≤ p.amp) × (p.amp ≤ 2 ^ (p.bits - 1))

-- the most that a source may be driven by: a sample of amp with its guard bits
abbrev pub greatest_input : PlanOf → ℕ
greatest_input p = p.amp * 2 ^ p.guard
