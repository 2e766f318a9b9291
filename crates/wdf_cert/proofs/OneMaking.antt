-- A network has one certificate of its first independent rows, since its observability matrix has one elimination.
use Rattle.std.proofs.Common.{◌≡◌, ℕ, List, refl, ◌∙◌, sym, subst}
use mathlib.Core.Logic.{inl, inr}
use Rattle.wdf_law.specs.Network.{Network, multipliers}
use Rattle.wdf_residue.specs.Matrix.{IsSquare}
use Rattle.wdf_residue.specs.Elimination.{IsInverse}
use Rattle.wdf_residue.specs.Laws.{HasElimination, HasOneElimination, IsOneElimination}
use Rattle.wdf_check.specs.Certificate.{Certificate, HasSquareInverse}
use Rattle.wdf_check.specs.Observability.{observability}
use Rattle.wdf_check.specs.Laws.{HasResidues}
use Rattle.wdf_cert.specs.Making.{IsMade}
use Rattle.wdf_cert.specs.Laws.{HasMaking, IsOneMaking}

-- a certificate has an elimination's inverse
inverse_of : (n : Network) (c : Certificate) → IsMade n c → HasSquareInverse c → IsInverse (observability n) c.rows c.inverse
inverse_of n c made square = record {
  independent = made.first;
  count = made.certifies.count;
  square = subst (λ k. IsSquare k c.inverse) made.certifies.count square;
  product = made.certifies.product;
}

one_certificate : (n : Network) → HasOneElimination (observability n) → (c d : Certificate) → IsMade n c → IsMade n d → HasSquareInverse c → HasSquareInverse d → c ≡ d
one_certificate n one c d made made' square square' =
    let rows = one.rows c.rows d.rows made.first made'.first in
    let inverse = one.inverse c.rows c.inverse d.inverse (inverse_of n c made square)
    (subst (λ l. IsInverse (observability n) l d.inverse) (sym rows) (inverse_of n d made' square')) in
    λ i. record {
      k = (made.certifies.width ∙ sym made'.certifies.width) i;
      multipliers = (made.certifies.multipliers ∙ sym made'.certifies.multipliers) i;
      rows = rows i;
      inverse = inverse i;
    }

-- and an elimination's inverse is a certificate
certificate_of : (n : Network) (numbers inverse : List ℕ) → IsInverse (observability n) numbers inverse → HasMaking n
certificate_of n numbers inverse h = inl (
  record { k = n.k; multipliers = multipliers n; rows = numbers; inverse = inverse },
  record {
    certifies = record { width = refl; multipliers = refl; count = h.count; rows = h.independent.within; product = h.product };
    first = h.independent;
  },
  subst (λ k. IsSquare k inverse) (sym h.count) h.square,
)

answer_of : (n : Network) → HasElimination (observability n) → HasMaking n
answer_of n (inl (numbers, inverse, h)) = certificate_of n numbers inverse h
answer_of n (inr h) = inr h

pub one_making : HasResidues → IsOneElimination → IsOneMaking
one_making residues elimination n =
    let one = elimination (observability n) (residues n) in
    record {
      answered = answer_of n one.answered;
      certificate = one_certificate n one;
      dependence = one.dependence;
      either = λ c state v made square. one.either c.rows c.inverse state v (inverse_of n c made square);
    }
