-- Where the chains of a row lie.
use Rattle.std.proofs.Common.{◌≡◌, ℕ, zero, suc, ◌+◌, ◌-◌, ◌<◌, ◌≤◌, List, length, subst, arith}
use Rattle.std.proofs.lemmas.Bool.{cases_lt}
use mathlib.Core.Logic.{◌⊎◌, inl, inr}
use Rattle.wdf_loop.specs.declared.chain.Chain.{Chain}
use Rattle.wdf_loop.specs.Layouts.{IsRowOfChains}
use Rattle.wdf_loop.specs.Frames.{IsFed, end_of, first_of}

-- either the chain is the last, or there is a next
pub last_or_next : (t count : ℕ) → t < count → (t + 1 < count) ⊎ (t + 1 ≡ count)
last_or_next t count h = by (cases_lt (t + 1) count)
  where
    by : (t + 1 < count) ⊎ (count ≤ t + 1) → (t + 1 < count) ⊎ (t + 1 ≡ count)
    by (inl less) = inl less
    by (inr more) = inr (omega arith)

pub first-end : (root : ℕ) (chains : List Chain) → IsRowOfChains root chains → (t : ℕ) → t < length chains → first_of chains t ≤ end_of chains t
first-end root chains row t h = by (last_or_next t (length chains) h)
  where
    by : (t + 1 < length chains) ⊎ (t + 1 ≡ length chains) → first_of chains t ≤ end_of chains t
    by (inl more) = let filled = row.filled t more in omega arith
    by (inr last) = (row.last t last).0

pub end-root : (root : ℕ) (chains : List Chain) → IsRowOfChains root chains → (t : ℕ) → t < length chains → end_of chains t ≤ root
end-root root chains row t h = by (last_or_next t (length chains) h)
  where
    by : (t + 1 < length chains) ⊎ (t + 1 ≡ length chains) → end_of chains t ≤ root
    by (inl more) = let hung = row.to t more in omega (arith, hung.0, hung.1)
    by (inr last) = let at = (row.last t last).1 in omega arith

-- the ends grow
pub ends_grow : (root : ℕ) (chains : List Chain) → IsRowOfChains root chains → (t more : ℕ) → t + more < length chains → end_of chains t ≤ end_of chains (t + more)
ends_grow root chains row t zero h = let at : t + 0 ≡ t = omega arith in rw at (omega arith)
ends_grow root chains row t (suc more) h =
    let before = ends_grow root chains row t more (omega arith) in
    let at : t + suc more ≡ t + more + 1 = omega arith in
    let next = row.next (t + more) (omega arith) in
    let rises = first-end root chains row (t + more + 1) (omega arith) in
    rw at (omega arith)

-- so no chain from t on hangs beside a stage of the chain t
pub chain-fed : (root : ℕ) (chains : List Chain) → IsRowOfChains root chains → (t j : ℕ) → j < end_of chains t → IsFed chains t j
chain-fed root chains row t j h i low more e =
    let at : t + (i - t) ≡ i = omega arith in
    let grows : end_of chains t ≤ end_of chains i = subst (λ (k : ℕ). end_of chains t ≤ end_of chains k) at (ends_grow root chains row t (i - t) (omega arith)) in
    let hung = (row.to i more).0 in
    omega arith

-- and at the last none is left to hang anywhere
pub all-fed : (chains : List Chain) (t j : ℕ) → t + 1 ≡ length chains → IsFed chains t j
all-fed chains t j last i low more e = omega arith
