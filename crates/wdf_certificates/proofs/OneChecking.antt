-- Networks and certificates leave one answer to the check, since each network and its certificate leave one.
use Rattle.std.proofs.Common.{◌≡◌, None, Some, Result, Ok, Err, refl, sym, ap, ◌∙◌}
use Rattle.std.proofs.lemmas.Bool.{false≢true}
use mathlib.Core.Logic.{inl, inr}
use Rattle.wdf_law.specs.declared.side.Side.{Side}
use Rattle.wdf_law.specs.declared.side.Side.TheVariants.{Whole, A, B}
use Rattle.wdf_law.specs.Network.{Network}
use Rattle.wdf_lattice.specs.declared.networks.Networks.TheVariants.{Ladder, Lattice}
use Rattle.wdf_check.specs.Certificate.{Certificate, Certifies}
use Rattle.wdf_check.specs.declared.cert_fault.CertFault.{CertFault}
use Rattle.wdf_check.specs.declared.cert_fault.CertFault.TheVariants.{WrongCount}
use Rattle.wdf_check.specs.declared.cert_fault.CertFault.TheVariants as faults
use Rattle.wdf_check.specs.Laws.{HasOneCheck}
use Rattle.wdf_certificates.specs.declared.check_stop.CheckStop.{CheckStop}
use Rattle.wdf_certificates.specs.declared.check_stop.CheckStop.TheVariants.{CertWrong, NoMemory}
use Rattle.wdf_certificates.specs.CertChecking.{IsWrong}
use Rattle.wdf_certificates.specs.CertLaws.{IsCheckAnswer, HasOneChecking}

abbrev Answer : Type 0
Answer = Result (Unit {0}) CheckStop

-- ---- of one network

abbrev Checked : Type 0
Checked = Result (Unit {0}) CertFault

same_fault : (f g : CertFault) → Path Checked (Err f) (Err g) → f ≡ g
same_fault f g e = cc

apart : (f : CertFault) → Path Checked (Err f) (Ok tt) → ⊥
apart f e = absurd (cc)

one_fault : HasOneCheck → (n : Network) (c : Certificate) (f g : CertFault) → IsWrong n c f → IsWrong n c g → f ≡ g
one_fault one n c f g h k =
    same_fault f g
    (one n c (Err f) (Err g) (h.checked, λ e. h.memory (same_fault f faults.NoMemory e)) (k.checked, λ e. k.memory (same_fault g faults.NoMemory e)))

not_both : HasOneCheck → (n : Network) (c : Certificate) (f : CertFault) → IsWrong n c f → Certifies n c → ⊥
not_both one n c f h certifies =
    apart f (one n c (Err f) (Ok tt) (h.checked, λ e. h.memory (same_fault f faults.NoMemory e)) (certifies, λ e. apart faults.NoMemory (sym e)))

abbrev IsSideAnswer : Side → Network → Certificate → Answer → Type 0
IsSideAnswer side n c (Ok u) = Certifies n c
IsSideAnswer side n c (Err (CertWrong at fault)) = (at ≡ side) × IsWrong n c fault
IsSideAnswer side n c (Err NoMemory) = ⊥

one_side : HasOneCheck → (side : Side) (n : Network) (c : Certificate) (x y : Answer) → IsSideAnswer side n c x → IsSideAnswer side n c y → x ≡ y
one_side one side n c (Ok u) (Ok v) h k = refl
one_side one side n c (Ok u) (Err (CertWrong at fault)) h k = absurd (not_both one n c fault k.1 h)
one_side one side n c (Ok u) (Err NoMemory) h k = absurd k
one_side one side n c (Err (CertWrong at fault)) (Ok u) h k = absurd (not_both one n c fault h.1 k)
one_side one side n c (Err (CertWrong at fault)) (Err (CertWrong at' fault')) h k =
    λ i. Err (CertWrong ((h.0 ∙ sym k.0) i) (one_fault one n c fault fault' h.1 k.1 i))
one_side one side n c (Err (CertWrong at fault)) (Err NoMemory) h k = absurd k
one_side one side n c (Err NoMemory) y h k = absurd h

-- ---- of all networks

of_ladder : (n : Network) (c : Certificate) (x : Answer) → IsCheckAnswer (Ladder n) c None x → IsSideAnswer Whole n c x
of_ladder n c (Ok u) h = h
of_ladder n c (Err (CertWrong at fault)) h = h.1
of_ladder n c (Err NoMemory) h = absurd (false≢true h.0)

more : (n : Network) (c d : Certificate) (x : Answer) → IsCheckAnswer (Ladder n) c (Some d) x → x ≡ Err (CertWrong Whole (WrongCount 2 1))
more n c d (Ok u) h = absurd h
more n c d (Err (CertWrong at fault)) h = λ i. Err (CertWrong (h.1.0 i) (h.1.1 i))
more n c d (Err NoMemory) h = absurd (false≢true h.0)

fewer : (m n : Network) (c : Certificate) (x : Answer) → IsCheckAnswer (Lattice m n) c None x → x ≡ Err (CertWrong Whole (WrongCount 1 2))
fewer m n c (Ok u) h = absurd h
fewer m n c (Err (CertWrong at fault)) h = λ i. Err (CertWrong (h.1.0 i) (h.1.1 i))
fewer m n c (Err NoMemory) h = absurd (false≢true h.0)

data OfLattice (m n : Network) (c d : Certificate) (x : Answer) : Type 0 where
  in_first : (fault : CertFault) → IsWrong m c fault → x ≡ Err (CertWrong A fault) → OfLattice m n c d x
  in_second : Certifies m c → IsSideAnswer B n d x → OfLattice m n c d x

of_lattice : (m n : Network) (c d : Certificate) (x : Answer) → IsCheckAnswer (Lattice m n) c (Some d) x → OfLattice m n c d x
of_lattice m n c d (Ok u) h = in_second h.0 h.1
of_lattice m n c d (Err (CertWrong at fault)) (rests, inl h) = in_first fault h.1 (ap (λ s. Err (CertWrong s fault)) h.0)
of_lattice m n c d (Err (CertWrong at fault)) (rests, inr h) = in_second h.1 (h.0, h.2)
of_lattice m n c d (Err NoMemory) h = absurd (false≢true h.0)

one_of_lattice : HasOneCheck → (m n : Network) (c d : Certificate) (x y : Answer) → OfLattice m n c d x → OfLattice m n c d y → x ≡ y
one_of_lattice one m n c d x y (in_first f h p) (in_first g k q) = p ∙ (ap (λ e. Err (CertWrong A e)) (one_fault one m c f g h k) ∙ sym q)
one_of_lattice one m n c d x y (in_first f h p) (in_second k l) = absurd (not_both one m c f h k)
one_of_lattice one m n c d x y (in_second h l) (in_first g k q) = absurd (not_both one m c g k h)
one_of_lattice one m n c d x y (in_second h l) (in_second k l') = one_side one B n d x y l l'

pub one_checking : HasOneCheck → HasOneChecking
one_checking one (Ladder n) first None x y h k = one_side one Whole n first x y (of_ladder n first x h) (of_ladder n first y k)
one_checking one (Ladder n) first (Some second) x y h k = more n first second x h ∙ sym (more n first second y k)
one_checking one (Lattice m n) first None x y h k = fewer m n first x h ∙ sym (fewer m n first y k)
one_checking one (Lattice m n) first (Some second) x y h k =
    one_of_lattice one m n first second x y (of_lattice m n first second x h) (of_lattice m n first second y k)
