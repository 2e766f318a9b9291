-- What holds of each operation of a list, and the order of its writes, by the parts of the list.
use Rattle.std.proofs.Common.{ℕ, ◌+◌, List, [], ◌∷◌, ◌++◌, subst, sym, ◌≤◌, arith}
use Rattle.wdf_sched.specs.declared.op.Op.{Op}
use Rattle.wdf_sched.specs.Operations.{Each, InOrder, written_by}

pub front : (P : Op → Type 0) (xs ys : List Op) → Each P (xs ++ ys) → Each P xs
front P [] ys h = tt
front P (x ∷ xs) ys h = (h.0, front P xs ys h.1)

pub back : (P : Op → Type 0) (xs ys : List Op) → Each P (xs ++ ys) → Each P ys
back P [] ys h = h
back P (x ∷ xs) ys h = back P xs ys h.1

pub both : (P : Op → Type 0) (xs ys : List Op) → Each P xs → Each P ys → Each P (xs ++ ys)
both P [] ys h k = k
both P (x ∷ xs) ys h k = (h.0, both P xs ys h.1 k)

-- a junction behind its parts
pub behind : (P : Op → Type 0) (xs ys : List Op) (op : Op) → Each P xs → Each P ys → P op → Each P (xs ++ ys ++ op ∷ [])
behind P xs ys op h k own = both P (xs ++ ys) (op ∷ []) (both P xs ys h k) (own, tt)

-- one list in order after another
pub in_order : (xs ys : List Op) (a b c : ℕ) → InOrder a xs b → InOrder b ys c → InOrder a (xs ++ ys) c
in_order [] ys a b c h k = subst (λ (n : ℕ). InOrder n ys c) (sym h) k
in_order (x ∷ xs) ys a b c h k = (h.0, h.1, in_order xs ys (a + written_by x) b c h.2 k)

-- the numbers go up
pub grows : (ops : List Op) (next end : ℕ) → InOrder next ops end → next ≤ end
grows [] next end h = omega (arith, h)
grows (op ∷ ops) next end h = omega (arith, grows ops (next + written_by op) end h.2)
