-- A netlist's networks leave one answer to the making of their certificates, since each network has one certificate or one first
-- obstruction.
use Rattle.std.proofs.Common.{◌≡◌, ℕ, List, None, Some, Result, Ok, Err, refl, sym, ap, ◌∙◌}
use Rattle.std.specs.Prelude.{slice_get}
use Rattle.std.proofs.lemmas.Bool.{false≢true}
use Rattle.std.proofs.lemmas.Option.{same_Some}
use mathlib.Core.Logic.{inl, inr}
use Rattle.wdf_law.specs.declared.side.Side.{Side}
use Rattle.wdf_law.specs.declared.side.Side.TheVariants.{Whole, A, B}
use Rattle.wdf_law.specs.Network.{Network, reactances}
use Rattle.wdf_netlist.specs.declared.form.Form.{Form}
use Rattle.wdf_lattice.specs.declared.networks.Networks.TheVariants.{Ladder, Lattice}
use Rattle.wdf_check.specs.Certificate.{Certificate}
use Rattle.wdf_cert.specs.CertText.{file_text}
use Rattle.wdf_cert.specs.Laws.{HasOneMaking, IsOneMaking}
use Rattle.wdf_stages.specs.ElementNames.{name_at}
use Rattle.wdf_certificates.specs.declared.certify_stop.CertifyStop.{CertifyStop}
use Rattle.wdf_certificates.specs.declared.certify_stop.CertifyStop.TheVariants.{Unobservable, NoMemory}
use Rattle.wdf_certificates.specs.Certifying.{IsCertificate, IsObstructed}
use Rattle.wdf_certificates.specs.CertLaws.{IsCertifyAnswer, HasOneCertifying}

-- ---- of one network

abbrev IsMakeAnswer : Form → Side → Network → Result Certificate CertifyStop → Type 0
IsMakeAnswer form side n (Ok c) = IsCertificate n c
IsMakeAnswer form side n (Err (Unobservable at name kernel)) = (at ≡ side) × IsObstructed form side n name kernel
IsMakeAnswer form side n (Err NoMemory) = ⊥

one_obstruction : (form : Form) (side : Side) (n : Network) (name other kernel kernel' : List ℕ) → HasOneMaking n
    → IsObstructed form side n name kernel → IsObstructed form side n other kernel' → (name ≡ other) × (kernel ≡ kernel')
one_obstruction form side n name other kernel kernel' one a b =
    let same = one.dependence a.state b.state kernel kernel' a.dependence b.dependence in
    let element = same_Some a.element b.element (sym a.reactance ∙ (ap (slice_get (reactances n)) same.0 ∙ b.reactance)) in
    (same_Some name other (sym a.named ∙ (ap (name_at form side) element ∙ b.named)), same.1)

one_make : (form : Form) (side : Side) (n : Network) → HasOneMaking n → (x y : Result Certificate CertifyStop)
    → IsMakeAnswer form side n x → IsMakeAnswer form side n y → x ≡ y
one_make form side n one (Ok c) (Ok d) h k = ap (λ e. Ok e) (one.certificate c d h.made k.made h.square k.square)
one_make form side n one (Ok c) (Err (Unobservable at name kernel)) h k = absurd (one.either c k.1.state kernel h.made h.square k.1.dependence)
one_make form side n one (Ok c) (Err NoMemory) h k = absurd k
one_make form side n one (Err (Unobservable at name kernel)) (Ok c) h k = absurd (one.either c h.1.state kernel k.made k.square h.1.dependence)
one_make form side n one (Err (Unobservable at name kernel)) (Err (Unobservable at' name' kernel')) h k =
    let same = one_obstruction form side n name name' kernel kernel' one h.1 k.1 in
    λ i. Err (Unobservable ((h.0 ∙ sym k.0) i) (same.0 i) (same.1 i))
one_make form side n one (Err (Unobservable at name kernel)) (Err NoMemory) h k = absurd k
one_make form side n one (Err NoMemory) y h k = absurd h

-- ---- of all networks

abbrev written : Result Certificate CertifyStop → Result (List ℕ) CertifyStop
written (Ok c) = Ok (file_text c None)
written (Err stop) = Err stop

abbrev written_behind : Certificate → Result Certificate CertifyStop → Result (List ℕ) CertifyStop
written_behind c (Ok d) = Ok (file_text c (Some d))
written_behind c (Err stop) = Err stop

record OfLadder (form : Form) (n : Network) (x : Result (List ℕ) CertifyStop) : Type 0 where
  answer : Result Certificate CertifyStop
  makes : IsMakeAnswer form Whole n answer
  same : x ≡ written answer

data OfLattice (form : Form) (m n : Network) (x : Result (List ℕ) CertifyStop) : Type 0 where
  in_first : (stop : CertifyStop) → IsMakeAnswer form A m (Err stop) → x ≡ Err stop → OfLattice form m n x
  in_second : (c : Certificate) (answer : Result Certificate CertifyStop) → IsMakeAnswer form A m (Ok c) → IsMakeAnswer form B n answer
      → x ≡ written_behind c answer → OfLattice form m n x

of_ladder : (form : Form) (n : Network) (x : Result (List ℕ) CertifyStop) → IsCertifyAnswer form (Ladder n) x → OfLadder form n x
of_ladder form n (Ok text) h = record { answer = Ok h.0; makes = h.1; same = ap (λ t. Ok t) h.2 }
of_ladder form n (Err (Unobservable side name kernel)) h = record { answer = Err (Unobservable side name kernel); makes = h.1; same = refl }
of_ladder form n (Err NoMemory) h = absurd (false≢true h.0)

of_lattice : (form : Form) (m n : Network) (x : Result (List ℕ) CertifyStop) → IsCertifyAnswer form (Lattice m n) x → OfLattice form m n x
of_lattice form m n (Ok text) h = in_second h.0 (Ok h.1) h.2 h.3 (ap (λ t. Ok t) h.4)
of_lattice form m n (Err (Unobservable side name kernel)) (rests, inl h) = in_first (Unobservable side name kernel) h refl
of_lattice form m n (Err (Unobservable side name kernel)) (rests, inr h) = in_second h.1.0 (Err (Unobservable side name kernel)) h.1.1 (h.0, h.2) refl
of_lattice form m n (Err NoMemory) h = absurd (false≢true h.0)

one_of_lattice : (form : Form) (m n : Network) → HasOneMaking m → HasOneMaking n → (x y : Result (List ℕ) CertifyStop)
    → OfLattice form m n x → OfLattice form m n y → x ≡ y
one_of_lattice form m n one one' x y (in_first s h p) (in_first t k q) =
    p ∙ (ap written (one_make form A m one (Err s) (Err t) h k) ∙ sym q)
one_of_lattice form m n one one' x y (in_first s h p) (in_second d b k l q) = apart (one_make form A m one (Err s) (Ok d) h k)
  where
    apart : Err s ≡ Ok d → x ≡ y
    apart e = absurd (cc)
one_of_lattice form m n one one' x y (in_second c a h l p) (in_first t k q) = apart (one_make form A m one (Ok c) (Err t) h k)
  where
    apart : Ok c ≡ Err t → x ≡ y
    apart e = absurd (cc)
one_of_lattice form m n one one' x y (in_second c a h h' p) (in_second d b k k' q) =
    let front = one.certificate c d h.made k.made h.square k.square in
    let back = one_make form B n one' a b h' k' in
    p ∙ ((λ i. written_behind (front i) (back i)) ∙ sym q)

pub one_certifying : IsOneMaking → HasOneCertifying
one_certifying one form (Ladder n) x y h k =
    let a = of_ladder form n x h in
    let b = of_ladder form n y k in
    a.same ∙ (ap written (one_make form Whole n (one n) a.answer b.answer a.makes b.makes) ∙ sym b.same)
one_certifying one form (Lattice m n) x y h k = one_of_lattice form m n (one m) (one n) x y (of_lattice form m n x h) (of_lattice form m n y k)
