-- Each part of a circuit may follow those before it.
use Rattle.std.proofs.Common.{◌≡◌, ◌≢◌, ℕ, zero, suc, ◌<◌, ◌≤◌, Bool, true, false, cond, ◌&&◌, leb, List, [], ◌∷◌, ◌++◌, length, Some, None, refl, sym, subst, arith, append_assoc, length-append}
use Rattle.std.specs.Prelude.{All, IsTrue, slice_get}
use Rattle.std.proofs.lemmas.Bool.{cond-true, lt-leb}
use Rattle.std.proofs.lemmas.List.{map-append}
use Rattle.std.proofs.lemmas.List.Elements.{All-tail}
use Rattle.std.proofs.lemmas.List.Sums.{sum_by-append, sum_by-cons}
use Rattle.std.proofs.lemmas.Option.{slice_get_within}
use Rattle.wdf_text.specs.Names.{IsName, is_name, is_name_or_at_sign}
use Rattle.wdf_law.specs.Network.{is_source, is_reactance}
use Rattle.wdf_law.specs.declared.kind.Kind.{Kind}
use Rattle.wdf_law.specs.declared.TheConstants.{MAX_SOURCES}
use Rattle.wdf_netlist.specs.declared.TheConstants.{MAX_ELEMENTS, MAX_REACTANCES}
use Rattle.wdf_netlist.specs.declared.part.Part.{Part}
use Rattle.wdf_netlist.specs.Circuits.{AreDistinct, IsElementValue}
use Rattle.wdf_netlist.specs.Kept.{IsNextPart, KeepsParts}
use Rattle.wdf_netlist.specs.LineRules.{count_fault, count_parts, is_taken}
use Rattle.wdf_netlist.specs.Statements.{names_of}
use Rattle.wdf_netlist.specs.TextRules.{place_of}
use Rattle.wdf_netlist.proofs.NodeLemmas.{place_back}
use Rattle.wdf_netlist.proofs.StatementBackLemmas.{MayFollowEach}

-- an element among others
middle : {A : Type 0} (P : A → Type 0) (xs : List A) (y : A) (ys : List A) → All P (xs ++ (y ∷ ys)) → P y
middle P [] y ys all = all 0 y (omega arith)
middle P (x ∷ xs) y ys all = middle P xs y ys (All-tail P x (xs ++ (y ∷ ys)) all)

get_front : {A : Type 0} (xs ys : List A) (i : ℕ) (x : A) → slice_get xs i ≡ Some x → slice_get (xs ++ ys) i ≡ Some x
get_front [] ys i x e = absurd (cc)
get_front (y ∷ xs) ys zero x e = e
get_front (y ∷ xs) ys (suc i) x e = get_front xs ys i x e

get_middle : {A : Type 0} (xs : List A) (y : A) (ys : List A) → slice_get (xs ++ (y ∷ ys)) (length xs) ≡ Some y
get_middle [] y ys = refl
get_middle (x ∷ xs) y ys = get_middle xs y ys

-- ---- room

no_room_for : (test : Bool) (most count : ℕ) → (test ≡ true → count < most) → (test && leb most count) ≡ false
no_room_for true most count few = lt-leb most count (few refl)
no_room_for false most count few = refl

counted : (test : Kind → Bool) (before : List Part) (p : Part) (ps : List Part) (most : ℕ) → count_parts test (before ++ (p ∷ ps)) ≤ most → test p.kind ≡ true → count_parts test before < most
counted test before p ps most few is =
    omega (arith, sum_by-append (λ (q : Part). cond (test q.kind) 1 0) before (p ∷ ps), sum_by-cons (λ (q : Part). cond (test q.kind) 1 0) p ps, cond-true {A = ℕ} (test p.kind) 1 0 is)

room_for : (before : List Part) (p : Part) (ps : List Part) → KeepsParts (before ++ (p ∷ ps)) → count_fault before p.kind ≡ None
room_for before p ps k =
    let elements : leb MAX_ELEMENTS (length before) ≡ false = lt-leb MAX_ELEMENTS (length before) (omega (arith, length-append before (p ∷ ps), k.most)) in
    let reactances : (is_reactance p.kind && leb MAX_REACTANCES (count_parts is_reactance before)) ≡ false =
    no_room_for (is_reactance p.kind) MAX_REACTANCES (count_parts is_reactance before) (counted is_reactance before p ps MAX_REACTANCES k.most_reactances) in
    let sources : (is_source p.kind && leb MAX_SOURCES (count_parts is_source before)) ≡ false =
    no_room_for (is_source p.kind) MAX_SOURCES (count_parts is_source before) (counted is_source before p ps MAX_SOURCES k.most_sources) in
    rw (elements, reactances, sources) refl

-- ---- a new name

new_for : (before : List Part) (p : Part) (ps : List Part) → AreDistinct (names_of (before ++ (p ∷ ps))) → is_taken (names_of before) p.name ≡ false
new_for before p ps distinct = by (is_taken (names_of before) p.name) refl
  where
    names : names_of (before ++ (p ∷ ps)) ≡ names_of before ++ (p.name ∷ names_of ps)
    names = map-append (λ (q : Part). q.name) before (p ∷ ps)

    by : (t : Bool) → is_taken (names_of before) p.name ≡ t → is_taken (names_of before) p.name ≡ false
    by true e =
        let i = place_of (names_of before) p.name in
        let there : slice_get (names_of before) i ≡ Some p.name = place_back (names_of before) p.name e in
        let front = get_front (names_of before) (p.name ∷ names_of ps) i p.name there in
        let own = get_middle (names_of before) p.name (names_of ps) in
        let apart : AreDistinct (names_of before ++ (p.name ∷ names_of ps)) = subst AreDistinct names distinct in
        let same : i ≡ length (names_of before) = apart i (length (names_of before)) p.name front own in
        let within = slice_get_within (names_of before) i p.name there in
        absurd (omega arith)
    by false e = e

-- ---- each part

next_of : (before : List Part) (p : Part) (ps : List Part) → KeepsParts (before ++ (p ∷ ps)) → IsNextPart before p
next_of before p ps k =
    record {
      room = room_for before p ps k;
      named = middle (λ (q : Part). IsTrue (is_name_or_at_sign q.name)) before p ps k.named;
      new = new_for before p ps k.distinct;
      ends_differ = middle (λ (q : Part). q.from ≢ q.to) before p ps k.ends_differ;
      from_named = middle (λ (q : Part). IsName q.from) before p ps k.from_named;
      to_named = middle (λ (q : Part). IsName q.to) before p ps k.to_named;
      value = middle (λ (q : Part). IsElementValue q.value) before p ps k.values;
    }

-- what is said of a part by its line
pub record IsSaid (inside : Bool) (p : Part) : Type 0 where
  pub named : is_name p.name ≡ true
  pub source : (is_source p.kind && inside) ≡ false

pub follow_each : (before ps : List Part) (inside : Bool) → KeepsParts (before ++ ps) → All (IsSaid inside) ps → MayFollowEach before inside ps
follow_each before [] inside k all = tt
follow_each before (p ∷ ps) inside k all =
    let here = all 0 p (omega arith) in
    let later : KeepsParts ((before ++ p ∷ []) ++ ps) = subst KeepsParts (sym (append_assoc before (p ∷ []) ps)) k in
    (record { next = next_of before p ps k; named = here.named; source = here.source }, follow_each (before ++ p ∷ []) ps inside later (All-tail (IsSaid inside) p ps all))
