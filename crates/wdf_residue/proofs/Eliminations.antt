-- Every matrix of residues has an elimination, row after row.
use Rattle.std.proofs.Common.{◌≡◌, ℕ, zero, suc, ◌+◌, ◌%◌, ◌<◌, ◌≤◌, ◌⊎◌, List, [], ◌∷◌, ◌++◌, length, map, get_or, refl, sym, ap, ◌∙◌, subst, arith}
use Rattle.std.proofs.lemmas.Bool.{cases_eq}
use Rattle.std.proofs.lemmas.List.{length-map, length_push}
use Rattle.std.specs.List.{range_with_len}
use Rattle.std.proofs.lemmas.List.Elements.{All-get_or, All-map, All-nil, All-push}
use Rattle.std.proofs.lemmas.List.FromFn.{length-map-range_with_len}
use Rattle.std.proofs.Math.Nat.{mod-lt}
use mathlib.Core.Logic.{inl, inr}
use Rattle.wdf_residue.specs.Residue.{prime, dot}
use Rattle.wdf_residue.specs.Matrix.{Entries, IsRow, AreRows}
use Rattle.wdf_residue.specs.Vectors.{scaled_by}
use Rattle.wdf_residue.specs.Solving.{Reduction, IsReduction, column, cleared, SeesNone, own_entry, AreSolved, IsFirstOpen, written, identity_column, identity_columns}
use Rattle.wdf_residue.specs.Laws.{HasElimination}
use Rattle.wdf_residue.proofs.Powers.{prime-pos}
use Rattle.wdf_residue.proofs.Inverses.{has_inverse}
use Rattle.wdf_residue.proofs.VectorLemmas.{cleared-row, scaled-row}
use Rattle.wdf_residue.proofs.Reduced.{IsReduced, column-is}
use Rattle.wdf_residue.proofs.Taking.{advances}
use Rattle.wdf_residue.proofs.Ends.{begins, identity-row, ends_whole, ends_dependent}

-- the first number below n of which f is not 0
record IsFirstSome (n : ℕ) (f : ℕ → ℕ) (c : ℕ) : Type 0 where
  within : c < n
  some : 0 < f c
  before : (b : ℕ) → b < c → f b ≡ 0

first_some : (n : ℕ) (f : ℕ → ℕ) → ((c : ℕ) × IsFirstSome n f c) ⊎ ((c : ℕ) → c < n → f c ≡ 0)
first_some zero f = inr (λ c less. absurd (omega arith))
first_some (suc n) f = by (first_some n f) (cases_eq (f n) 0)
  where
    by : ((c : ℕ) × IsFirstSome n f c) ⊎ ((c : ℕ) → c < n → f c ≡ 0) → (f n ≡ 0) ⊎ (f n ≡ 0 → ⊥)
        → ((c : ℕ) × IsFirstSome (suc n) f c) ⊎ ((c : ℕ) → c < suc n → f c ≡ 0)
    by (inl found) last = inl (found.0, record { within = let a = found.1.within in omega arith; some = found.1.some; before = found.1.before })
    by (inr none) (inl nought) = inr (λ c less. elim (cases_eq c n) [
      | inl at ↦ ap f at ∙ nought
      | inr apart ↦ none c (omega arith)
    ])
    by (inr none) (inr some) = inl (n, record { within = omega arith; some = elim (cases_eq (f n) 0) [ inl nought ↦ absurd (some nought) | inr other ↦ omega arith ]; before = none })

-- where elimination stands behind r rows
record Stands (m : Entries) (r : ℕ) : Type 0 where
  reduction : Reduction
  reduced : IsReduced m r reduction
  is : IsReduction reduction

-- before the first row
start : (m : Entries) → Stands m 0
start m = record {
  reduction = record { columns = m.columns; unseen = identity_columns m.columns; solved = []; taken = [] };
  reduced = begins m (record { columns = m.columns; unseen = identity_columns m.columns; solved = []; taken = [] }) refl refl refl refl;
  is = record {
    unseen = All-map (IsRow m.columns) (identity_column m.columns) (range_with_len 0 m.columns) (λ i d less. identity-row m.columns (get_or (range_with_len 0 m.columns) i d));
    solved = All-nil (IsRow m.columns);
    count = length-map-range_with_len (identity_column m.columns) 0 m.columns;
    sizes = refl;
  };
}

-- a row that sees a column is taken
abbrev pivoted : List ℕ → ℕ → List ℕ → Reduction → Reduction
pivoted row r g e = record {
  columns = e.columns;
  unseen = map (cleared row g) e.unseen;
  solved = map (cleared row g) e.solved ++ g ∷ [];
  taken = e.taken ++ r ∷ [];
}

pivoted-is : (row : List ℕ) (r : ℕ) (g : List ℕ) (e : Reduction) → IsRow e.columns g → IsReduction e → IsReduction (pivoted row r g e)
pivoted-is row r g e pivot is = record {
  unseen = all e.unseen is.unseen;
  solved = All-push (IsRow e.columns) (map (cleared row g) e.solved) g (all e.solved is.solved) pivot;
  count = length-map e.unseen (cleared row g) ∙ is.count;
  sizes = length_push (map (cleared row g) e.solved) g
      ∙ (ap (λ (n : ℕ). n + 1) (length-map e.solved (cleared row g) ∙ is.sizes) ∙ sym (length_push e.taken r));
}
  where
    all : (columns : List (List ℕ)) → AreRows e.columns columns → AreRows e.columns (map (cleared row g) columns)
    all columns rows =
        All-map (IsRow e.columns) (cleared row g) columns
        (λ i d less. cleared-row e.columns row g (get_or columns i d) pivot (All-get_or (IsRow e.columns) columns i d less rows))

taking : (m : Entries) (r : ℕ) → AreRows m.columns m.rows → r < length m.rows → (s : Stands m r)
    → (c : ℕ) → IsFirstSome (length s.reduction.unseen) (λ c. dot (column m.rows r) (column s.reduction.unseen c) % prime) c → Stands m (r + 1)
taking m r rows within s c first =
    let e = s.reduction in
    let row = column m.rows r in
    let seen = column e.unseen c in
    let inverse = has_inverse (dot row seen % prime) first.some (mod-lt (dot row seen) prime-pos) in
    let g = scaled_by inverse.0 seen in
    let is = pivoted-is row r g e (scaled-row e.columns inverse.0 seen (column-is e.columns e.unseen c s.is.unseen first.within)) s.is in
    record {
      reduction = pivoted row r g e;
      reduced = advances m r e (pivoted row r g e) s.reduced s.is is rows within (record {
        columns = refl;
        taken = inr (record {
          pivot = c;
          first = record { within = first.within; some = first.some; before = first.before };
          factor = inverse.0;
          below = inverse.1.below;
          product = inverse.1.product;
          unseen = refl;
          solved = refl;
          taken = refl;
        });
      });
      is = is;
    }

-- a row that sees none is passed over
passing : (m : Entries) (r : ℕ) → AreRows m.columns m.rows → r < length m.rows → (s : Stands m r)
    → SeesNone (column m.rows r) s.reduction.unseen → Stands m (r + 1)
passing m r rows within s none = record {
  reduction = s.reduction;
  reduced = advances m r s.reduction s.reduction s.reduced s.is s.is rows within (record { columns = refl; taken = inl (record { none = inr none; same = refl }) });
  is = s.is;
}

further : (m : Entries) (r : ℕ) → AreRows m.columns m.rows → r < length m.rows → Stands m r → Stands m (r + 1)
further m r rows within s = elim (first_some (length s.reduction.unseen) (λ c. dot (column m.rows r) (column s.reduction.unseen c) % prime)) [
  | inl found ↦ taking m r rows within s found.0 found.1
  | inr none ↦ passing m r rows within s none
]

behind : (m : Entries) → AreRows m.columns m.rows → (r : ℕ) → r ≤ length m.rows → Stands m r
behind m rows zero few = start m
behind m rows (suc r) few = subst (Stands m) (omega arith) (further m r rows (omega arith) (behind m rows r (omega arith)))

pub has_elimination : (m : Entries) → AreRows m.columns m.rows → HasElimination m
has_elimination m rows = ends (behind m rows (length m.rows) (omega arith))
  where
    ends : Stands m (length m.rows) → HasElimination m
    ends s = by (first_some (length s.reduction.unseen) (own_entry s.reduction.unseen))
      where
        columns : List (List ℕ)
        columns = s.reduction.unseen

        entries : List ℕ
        entries = written s.reduction.solved s.reduction.columns

        by : ((c : ℕ) × IsFirstSome (length columns) (own_entry columns) c) ⊎ AreSolved columns → HasElimination m
        by (inl (c, first)) =
            let open_column : IsFirstOpen columns c = record { within = first.within; some = first.some; before = first.before } in
            inr (c, column columns c, ends_dependent m s.reduction s.reduced s.is rows c open_column (column columns c) refl)
        by (inr none) = inl (s.reduction.taken, entries, ends_whole m s.reduction s.reduced s.is rows none entries refl)
