-- A network and a certificate have one answer of the check: the first rule that is broken, or none. Rules of many places are
-- broken at the first place that is wrong.
use Rattle.std.proofs.Common.{◌≡◌, ℕ, zero, suc, ◌<◌, ◌≤◌, ◌⊎◌, List, length, Result, Ok, Err, refl, sym, ap, ◌∙◌, arith}
use Rattle.std.specs.Prelude.{All}
use Rattle.std.proofs.lemmas.Bool.{cases_order}
use Rattle.std.proofs.lemmas.List.Elements.{All-get_or}
use mathlib.Core.Logic.{inl, inr}
use Rattle.wdf_law.specs.Network.{Network, multipliers, reactances}
use Rattle.wdf_residue.specs.Matrix.{entry, identity_entry, product_entry, IsLeftInverse}
use Rattle.wdf_residue.specs.Products.{IsBefore}
use Rattle.wdf_check.specs.declared.cert_fault.CertFault.{CertFault}
use Rattle.wdf_check.specs.declared.cert_fault.CertFault.TheVariants.{OtherNet, WrongSize, BadRow, WrongProduct, WrongCount, NoMemory}
use Rattle.wdf_check.specs.Observability.{observability}
use Rattle.wdf_check.specs.Certificate.{Certificate}
use Rattle.wdf_check.specs.Checking.{IsOfNetwork}
use Rattle.wdf_check.specs.Laws.{IsCheckAnswer, HasOneCheck}

abbrev Answer : Type 0
Answer = Result (Unit {0}) CertFault

-- ---- one answer

-- an answer at most is so
abbrev IsOne : (Answer → Type 0) → Type 0
IsOne P = (x y : Answer) → P x → P y → x ≡ y

-- a rule is broken, or it is kept and the rules behind it tell the answer
ruled : (kept : Type 0) (broken rest : Answer → Type 0) → ((x : Answer) → broken x → kept → ⊥) → IsOne broken → IsOne rest
    → IsOne (λ x. broken x ⊎ (kept × rest x))
ruled kept broken rest apart one others x y (inl b) (inl c) = one x y b c
ruled kept broken rest apart one others x y (inl b) (inr k) = absurd (apart x b k.0)
ruled kept broken rest apart one others x y (inr k) (inl b) = absurd (apart y b k.0)
ruled kept broken rest apart one others x y (inr k) (inr l) = others x y k.1 l.1

-- a rule of one place is broken
abbrev Breaks : Type 0 → Answer → Answer → Type 0
Breaks kept told x = (kept → ⊥) × (x ≡ told)

one_break : (kept : Type 0) (told : Answer) → IsOne (Breaks kept told)
one_break kept told x y a b = a.1 ∙ sym b.1

-- ---- the first place that is wrong

record IsFirst {P : Type 0} (precedes : P → P → Type 0) (wrong : P → Type 0) (place : P) : Type 0 where
  is : wrong place
  before : (p : P) → precedes p place → wrong p → ⊥

abbrev HasOrder : {P : Type 0} → (P → P → Type 0) → Type 0
HasOrder {P} precedes = (p q : P) → (p ≡ q) ⊎ (precedes p q ⊎ precedes q p)

record BreaksAt {P : Type 0} (precedes : P → P → Type 0) (wrong : P → Type 0) (told : P → Answer) (x : Answer) : Type 0 where
  place : P
  first : IsFirst precedes wrong place
  same : x ≡ told place

one_first : {P : Type 0} (precedes : P → P → Type 0) (wrong : P → Type 0) (told : P → Answer) → HasOrder precedes → IsOne (BreaksAt precedes wrong told)
one_first precedes wrong told order x y a b = by (order a.place b.place)
  where
    by : (a.place ≡ b.place) ⊎ (precedes a.place b.place ⊎ precedes b.place a.place) → x ≡ y
    by (inl same) = a.same ∙ (ap told same ∙ sym b.same)
    by (inr (inl before)) = absurd (b.first.before a.place before a.first.is)
    by (inr (inr behind)) = absurd (a.first.before b.place behind b.first.is)

number_order : HasOrder (λ (i j : ℕ). i < j)
number_order i j = cases_order i j

-- the rows of a product, and the columns of each
abbrev Place : Type 0
Place = ℕ × ℕ

abbrev Precedes : Place → Place → Type 0
Precedes (i, j) (row, col) = IsBefore i j row col

place_order : HasOrder Precedes
place_order (i, j) (row, col) = by (cases_order i row) (cases_order j col)
  where
    by : (i ≡ row) ⊎ ((i < row) ⊎ (row < i)) → (j ≡ col) ⊎ ((j < col) ⊎ (col < j))
        → Path Place (i, j) (row, col) ⊎ (IsBefore i j row col ⊎ IsBefore row col i j)
    by (inl same) (inl same') = inl (λ k. (same k, same' k))
    by (inl same) (inr (inl before)) = inr (inl (inr (same, before)))
    by (inl same) (inr (inr behind)) = inr (inr (inr (sym same, behind)))
    by (inr (inl above)) other = inr (inl (inl above))
    by (inr (inr below)) other = inr (inr (inl below))

-- ---- the rules of the check, and then the acceptance

abbrev OtherWidth : Network → Certificate → Answer → Type 0
OtherWidth n c = Breaks (c.k ≡ n.k) (Err (OtherNet 0 n.k c.k))

abbrev OtherLength : Network → Certificate → Answer → Type 0
OtherLength n c = Breaks (length c.multipliers ≡ length (multipliers n)) (Err (WrongSize (length c.multipliers) (length (multipliers n))))

abbrev OtherMultiplier : Network → Certificate → Answer → Type 0
OtherMultiplier n c = BreaksAt (λ (i j : ℕ). i < j) (λ i. entry (multipliers n) i ≡ entry c.multipliers i → ⊥)
    (λ i. Err (OtherNet (suc i) (entry (multipliers n) i) (entry c.multipliers i)))

abbrev OtherCount : Network → Certificate → Answer → Type 0
OtherCount n c = Breaks (length c.rows ≡ length (reactances n)) (Err (WrongSize (length c.rows) (length (reactances n))))

abbrev Inside : Network → Certificate → Type 0
Inside n c = All (λ (r : ℕ). r < length (observability n).rows) c.rows

abbrev OutsideRow : Network → Certificate → Answer → Type 0
OutsideRow n c = BreaksAt (λ (i j : ℕ). i < j) (λ i. (i < length c.rows) × (length (observability n).rows ≤ entry c.rows i)) (λ i. Err (BadRow i))

abbrev entry_of : Network → Certificate → ℕ → ℕ → ℕ
entry_of n c i j = product_entry (observability n).rows c.rows c.inverse i j

abbrev Product : Network → Certificate → Type 0
Product n c = IsLeftInverse (observability n).rows (length (reactances n)) c.rows c.inverse

abbrev WrongEntry : Network → Certificate → Answer → Type 0
WrongEntry n c = BreaksAt Precedes
    (λ p. (p.0 < length (reactances n)) × (p.1 < length (reactances n)) × (entry_of n c p.0 p.1 ≡ identity_entry p.0 p.1 → ⊥))
    (λ p. Err (WrongProduct p.0 p.1 (entry_of n c p.0 p.1)))

abbrev Accepted : Answer → Type 0
Accepted x = x ≡ Ok tt

abbrev FromRows : Network → Certificate → Answer → Type 0
FromRows n c x = OtherCount n c x ⊎ ((length c.rows ≡ length (reactances n)) × (OutsideRow n c x ⊎ (Inside n c × (WrongEntry n c x ⊎ (Product n c × Accepted x)))))

abbrev FromMultipliers : Network → Certificate → Answer → Type 0
FromMultipliers n c x = OtherLength n c x ⊎ ((length c.multipliers ≡ length (multipliers n)) × (OtherMultiplier n c x ⊎ ((c.multipliers ≡ multipliers n) × FromRows n c x)))

abbrev FromWidth : Network → Certificate → Answer → Type 0
FromWidth n c x = OtherWidth n c x ⊎ ((c.k ≡ n.k) × FromMultipliers n c x)

one_from_rows : (n : Network) (c : Certificate) → IsOne (FromRows n c)
one_from_rows n c =
    ruled _ (OtherCount n c) _ (λ x b. b.0) (one_break _ _)
    (ruled (Inside n c) (OutsideRow n c) _ (λ x b h. outside b h) (one_first _ _ _ number_order)
    (ruled (Product n c) (WrongEntry n c) Accepted (λ x b h. b.first.is.2 (h b.place.0 b.place.1 b.first.is.0 b.first.is.1)) (one_first _ _ _ place_order)
    (λ x y a b. a ∙ sym b)))
  where
    outside : {x : Answer} → OutsideRow n c x → Inside n c → ⊥
    outside b h =
        let below = All-get_or (λ (r : ℕ). r < length (observability n).rows) c.rows b.place 0 b.first.is.0 h in
        let above = b.first.is.1 in
        absurd (omega arith)

one_from_width : (n : Network) (c : Certificate) → IsOne (FromWidth n c)
one_from_width n c =
    ruled _ (OtherWidth n c) _ (λ x b. b.0) (one_break _ _)
    (ruled _ (OtherLength n c) _ (λ x b. b.0) (one_break _ _)
    (ruled _ (OtherMultiplier n c) _ (λ x b h. b.first.is (ap (λ (l : List ℕ). entry l b.place) (sym h))) (one_first _ _ _ number_order)
    (one_from_rows n c)))

-- ---- the answers of the check

told : (n : Network) (c : Certificate) (x : Answer) → IsCheckAnswer n c x → FromWidth n c x
told n c (Ok u) h = inr (h.0.width, inr (ap length h.0.multipliers, inr (h.0.multipliers, inr (h.0.count, inr (h.0.rows, inr (h.0.product, refl))))))
told n c (Err (OtherNet zero ours theirs)) h =
    inl ((λ e. h.0.2 (h.0.0 ∙ (sym e ∙ sym h.0.1))), λ i. Err (OtherNet 0 (h.0.0 i) (h.0.1 i)))
told n c (Err (OtherNet (suc place) ours theirs)) h =
    let first = h.0.2 in
    inr (
      h.0.0,
      inr (
        h.0.1,
        inl (record {
          place = place;
          first = record {
            is = λ e. first.other (sym first.at_ours ∙ (e ∙ first.at_theirs));
            before = λ i less other. other (first.before i less);
          };
          same = λ i. Err (OtherNet (suc place) (sym first.at_ours i) (sym first.at_theirs i));
        }),
      ),
    )
told n c (Err (WrongSize have want)) h = by h.0.1
  where
    by : ((c.k ≡ n.k) × (have ≡ length c.multipliers) × (want ≡ length (multipliers n)))
        ⊎ (IsOfNetwork n c × (have ≡ length c.rows) × (want ≡ length (reactances n)))
        → FromWidth n c (Err (WrongSize have want))
    by (inl a) = inr (a.0, inl ((λ e. h.0.0 (a.1 ∙ (e ∙ sym a.2))), λ i. Err (WrongSize (a.1 i) (a.2 i))))
    by (inr a) = inr (
      a.0.width,
      inr (
        ap length a.0.multipliers,
        inr (
          a.0.multipliers,
          inl ((λ e. h.0.0 (a.1 ∙ (e ∙ sym a.2))), λ i. Err (WrongSize (a.1 i) (a.2 i))),
        ),
      ),
    )
told n c (Err (BadRow row)) h =
    let of = h.0.0.network in
    let first = h.0.1 in
    inr (
      of.width,
      inr (
        ap length of.multipliers,
        inr (
          of.multipliers,
          inr (
            h.0.0.count,
            inl (record {
              place = row;
              first = record {
                is = (first.within, first.outside);
                before = λ i less out. let a = first.before i less in let b = out.1 in absurd (omega arith);
              };
              same = refl;
            }),
          ),
        ),
      ),
    )
told n c (Err (WrongProduct row col got)) h =
    let of = h.0.0.rows.network in
    let first = h.0.1 in
    inr (
      of.width,
      inr (
        ap length of.multipliers,
        inr (
          of.multipliers,
          inr (
            h.0.0.rows.count,
            inr (
              h.0.0.inside,
              inl (record {
                place = (row, col);
                first = record {
                  is = (first.row_within, first.col_within, λ e. first.wrong (sym first.is ∙ e));
                  before = λ p less wrong. wrong.2 (first.before p.0 p.1 wrong.0 wrong.1 less);
                };
                same = λ i. Err (WrongProduct row col (sym first.is i));
              }),
            ),
          ),
        ),
      ),
    )
told n c (Err (WrongCount have want)) h = absurd h.0
told n c (Err NoMemory) h = absurd (h.1 refl)

pub one_check : HasOneCheck
one_check n c x y h k = one_from_width n c x y (told n c x h) (told n c y k)
