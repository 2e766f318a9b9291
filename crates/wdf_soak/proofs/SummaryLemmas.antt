-- A text in its pieces, each behind those before it.
use Rattle.std.proofs.Common.{◌≡◌, List, ℕ, [], ◌∷◌, ◌++◌, append_assoc}
use Rattle.std.specs.Prelude.{ℤ, codes}
use Rattle.std.specs.Fmt.{signed_decimal}
use Rattle.wdf_soak.specs.declared.figures.Figures.{Figures}
use Rattle.wdf_soak.specs.Summary.{figures_line}

pub figures_told : (f : Figures) (sum least greatest : ℤ) (o0 o1 o2 o3 o4 : List ℕ) → sum ≡ f.sum → least ≡ f.least → greatest ≡ f.greatest
    → o1 ≡ o0 ++ codes "sum " ++ signed_decimal sum → o2 ≡ o1 ++ codes " least " ++ signed_decimal least
    → o3 ≡ o2 ++ codes " greatest " ++ signed_decimal greatest → o4 ≡ o3 ++ 10 ∷ [] → o4 ≡ o0 ++ figures_line f ++ 10 ∷ []
figures_told f sum least greatest o0 o1 o2 o3 o4 s l g h1 h2 h3 h4 = simp (h4, h3, h2, h1, s, l, g, append_assoc)

pub summary_told : (soak seed label order states counts figures ledger o0 o1 o2 o3 o4 o5 : List ℕ) → o0 ≡ [] → o1 ≡ o0 ++ soak ++ seed ++ label ++ order ++ 10 ∷ []
    → o2 ≡ o1 ++ states ++ 10 ∷ [] → o3 ≡ o2 ++ counts → o4 ≡ o3 ++ figures ++ 10 ∷ [] → o5 ≡ o4 ++ ledger
    → o5 ≡ (soak ++ seed ++ label ++ order ++ 10 ∷ []) ++ (states ++ 10 ∷ []) ++ counts ++ (figures ++ 10 ∷ []) ++ ledger
summary_told soak seed label order states counts figures ledger o0 o1 o2 o3 o4 o5 h0 h1 h2 h3 h4 h5 = simp (h5, h4, h3, h2, h1, h0, append_assoc)
