-- Where a certificate exists, every state but 0 is seen.
use Rattle.std.proofs.Common.{◌≡◌, ℕ, ◌*◌, ◌%◌, ◌<◌, ◌≤◌, List, [], ◌∷◌, length, map, get_or, refl, sym, ap, ◌∙◌, arith}
use Rattle.std.specs.Prelude.{All}
use Rattle.std.proofs.lemmas.Bool.{cases_lt}
use Rattle.std.proofs.lemmas.List.{length-map, get_or-map, get_or_past}
use mathlib.Core.Logic.{◌⊎◌, inl, inr}
use lib.IntN.{ℤ, pos, ◌+ℤ◌}
use Rattle.wdf_law.specs.Network.{Network}
use Rattle.wdf_residue.specs.Residue.{prime, residue, dot}
use Rattle.wdf_residue.specs.Laws.{weighed, SeesEach}
use Rattle.wdf_check.specs.Observability.{observability}
use Rattle.wdf_check.specs.Certificate.{Certificate, Certifies, Obstructs}

weighed-pos : (row v : List ℕ) → weighed row (map pos v) ≡ pos (dot row v)
weighed-pos [] v = refl
weighed-pos (x ∷ xs) [] = refl
weighed-pos (x ∷ xs) (y ∷ ys) = ap (λ (z : ℤ). pos (x * y) +ℤ z) (weighed-pos xs ys)

pub no_obstruction : (n : Network) (c : Certificate) → SeesEach → Certifies n c → (v : List ℕ) → Obstructs n v → ⊥
no_obstruction n c sees certifies v o = o.some (by (cases_lt o.place (length v)))
  where
    none : All (λ (z : ℤ). residue z ≡ 0) (map pos v)
    none =
        sees (observability n) c.rows c.inverse (map pos v) certifies.rows certifies.product (length-map v pos ∙ o.count)
        (λ k d less. ap residue (weighed-pos (get_or (observability n).rows k d) v) ∙ o.unseen k d less)

    by : (o.place < length v) ⊎ (length v ≤ o.place) → get_or v o.place 0 % prime ≡ 0
    by (inl within) =
        ap residue (sym (get_or-map pos v o.place 0 (pos 0) within)) ∙ none o.place (pos 0) (let e = length-map v pos in omega arith)
    by (inr past) = ap (λ (x : ℕ). x % prime) (get_or_past v o.place 0 past)
