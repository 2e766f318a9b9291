-- The first rule that is broken is the only refusal, and a refusal says which rule it is.
use Rattle.std.proofs.Common.{◌≡◌, ℕ, ◌≤◌, Bool, true, false, Option, None, Some, List, [], ◌∷◌, length, Result, Err, refl, ap, sym, ◌∙◌, subst, arith}
use Rattle.std.specs.Prelude.{◌↔◌}
use Rattle.std.specs.List.{slice_get}
use Rattle.std.specs.Option.{option_or, option_map}
use Rattle.wdf_law.specs.declared.TheConstants.{MAX_SOURCES}
use Rattle.wdf_law.specs.declared.net_error.NetError.{NetError}
use Rattle.wdf_law.specs.declared.net_error.NetError.TheVariants.{BadWidth, TooDeep, BadMultiplier, BadElement, DoubleElement, MissingElement, NoSource, TooManySources, NoOutlet}
use Rattle.wdf_law.specs.Network.{Network, unit_of, elements, numbers, adaptors, source_numbers, has_outlet}
use Rattle.wdf_law.specs.Refusal.{is_width, is_shallow, first_out, first_large, first_repeated, least_missing, HasGoodNumbers, HasBadWidth, IsTooDeep, HasBadMultiplier, HasBadElement, HasDoubleElement, HasMissingElement, HasNoSource, HasTooManySources, HasNoOutlet}
use Rattle.wdf_law.specs.RefusalOrder.{unless, source_fault, refusal}
use Rattle.wdf_law.proofs.Sources.{source_fault-many, sources_good, ended}

-- the refusals as one table
abbrev pub Refuses : Network → NetError → Type 0
Refuses n (BadWidth k) = HasBadWidth n k
Refuses n TooDeep = IsTooDeep n
Refuses n (BadMultiplier e) = HasBadMultiplier n e
Refuses n (BadElement e) = HasBadElement n e
Refuses n (DoubleElement e) = HasDoubleElement n e
Refuses n (MissingElement e) = HasMissingElement n e
Refuses n NoSource = HasNoSource n
Refuses n (TooManySources e) = HasTooManySources n e
Refuses n NoOutlet = HasNoOutlet n

-- the chain of the rules over their outcomes
abbrev chain : ℕ → Bool → Bool → Option ℕ → Option ℕ → Option ℕ → Option ℕ → Option NetError → Bool → Option NetError
chain k w d m l r x s o =
    option_or (unless w (BadWidth k))
    (option_or (unless d TooDeep)
    (option_or (option_map (λ (e : ℕ). BadMultiplier e) m)
    (option_or (option_or (option_map (λ (e : ℕ). BadElement e) l)
    (option_or (option_map (λ (e : ℕ). DoubleElement e) r) (option_map (λ (e : ℕ). MissingElement e) x)))
    (option_or s (unless o NoOutlet)))))

-- where the numbers are good, what is said of the sources and the outlet is the refusal
behind_numbers : (n : Network) → HasGoodNumbers n → (s : Option NetError) (o : Bool) → source_fault (source_numbers n) ≡ s → has_outlet (elements n) n.outlet ≡ o
    → refusal n ≡ option_or s (unless o NoOutlet)
behind_numbers n h s o es eo = λ i. chain n.k (h.shape.width i) (h.shape.depth i) (h.shape.multipliers i) (h.small i) (h.apart i) (h.complete i) (es i) (eo i)

-- where a rule is broken and none before it, that is the refusal
pub refused_by : (n : Network) (e : NetError) → Refuses n e → refusal n ≡ Some e
refused_by n (BadWidth k) h = λ i. chain (h.same i) (h.width i) (is_shallow n) (first_out (unit_of n) (adaptors n)) (first_large (numbers n)) (first_repeated [] (numbers n)) (least_missing (numbers n) (length (numbers n))) (source_fault (source_numbers n)) (has_outlet (elements n) n.outlet)
refused_by n TooDeep h = λ i. chain n.k (h.width i) (h.deep i) (first_out (unit_of n) (adaptors n)) (first_large (numbers n)) (first_repeated [] (numbers n)) (least_missing (numbers n) (length (numbers n))) (source_fault (source_numbers n)) (has_outlet (elements n) n.outlet)
refused_by n (BadMultiplier e) h = λ i. chain n.k (h.width i) (h.depth i) (h.first i) (first_large (numbers n)) (first_repeated [] (numbers n)) (least_missing (numbers n) (length (numbers n))) (source_fault (source_numbers n)) (has_outlet (elements n) n.outlet)
refused_by n (BadElement e) h = λ i. chain n.k (h.shape.width i) (h.shape.depth i) (h.shape.multipliers i) (h.first i) (first_repeated [] (numbers n)) (least_missing (numbers n) (length (numbers n))) (source_fault (source_numbers n)) (has_outlet (elements n) n.outlet)
refused_by n (DoubleElement e) h = λ i. chain n.k (h.shape.width i) (h.shape.depth i) (h.shape.multipliers i) (h.small i) (h.first i) (least_missing (numbers n) (length (numbers n))) (source_fault (source_numbers n)) (has_outlet (elements n) n.outlet)
refused_by n (MissingElement e) h = λ i. chain n.k (h.shape.width i) (h.shape.depth i) (h.shape.multipliers i) (h.small i) (h.apart i) (h.least i) (source_fault (source_numbers n)) (has_outlet (elements n) n.outlet)
refused_by n NoSource h = behind_numbers n h.numbers (Some NoSource) (has_outlet (elements n) n.outlet) (ap source_fault h.none) refl
refused_by n (TooManySources e) h = behind_numbers n h.numbers (Some (TooManySources e)) (has_outlet (elements n) n.outlet) (source_fault-many (source_numbers n) e h.source) refl
refused_by n NoOutlet h = behind_numbers n h.numbers None false (sources_good (source_numbers n) h.some h.few) h.outlet

some_same : (a b : NetError) → Some a ≡ Some b → a ≡ b
some_same a b e = cc

-- what the refusal says of the sources and the outlet, where the numbers are good
says_behind : (n : Network) (xs : List ℕ) (o : Bool) → HasGoodNumbers n → source_numbers n ≡ xs → has_outlet (elements n) n.outlet ≡ o
    → (e : NetError) → option_or (source_fault xs) (unless o NoOutlet) ≡ Some e → Refuses n e
says_behind n [] o good es eo e h = subst (Refuses n) (some_same NoSource e h) (record { numbers = good; none = es })
says_behind n (x ∷ xs) o good es eo e h = by (slice_get (x ∷ xs) MAX_SOURCES) o refl eo
  where
    by : (g : Option ℕ) (o' : Bool) → slice_get (x ∷ xs) MAX_SOURCES ≡ g → has_outlet (elements n) n.outlet ≡ o' → Refuses n e
    by (Some a) o' g eo' =
        let says : option_or (option_map (λ (e : ℕ). TooManySources e) (Some a)) (unless o NoOutlet) ≡ Some e =
        ap (λ (p : Option ℕ). option_or (option_map (λ (e : ℕ). TooManySources e) p) (unless o NoOutlet)) (sym g) ∙ h in
        subst (Refuses n) (some_same (TooManySources a) e says) (record { numbers = good; source = ap (λ (l : List ℕ). slice_get l MAX_SOURCES) es ∙ g })
    by None false g eo' =
        let says : option_or (option_map (λ (e : ℕ). TooManySources e) None) (unless false NoOutlet) ≡ Some e =
        (λ i. option_or (option_map (λ (e : ℕ). TooManySources e) (sym g i)) (unless ((sym eo' ∙ eo) i) NoOutlet)) ∙ h in
        subst (Refuses n) (some_same NoOutlet e says)
        (record {
          numbers = good;
          some = subst (λ (l : List ℕ). 1 ≤ length l) (sym es) (omega arith);
          few = subst (λ (l : List ℕ). length l ≤ MAX_SOURCES) (sym es) (ended (x ∷ xs) MAX_SOURCES g);
          outlet = eo';
        })
    by None true g eo' =
        let says : option_or (option_map (λ (e : ℕ). TooManySources e) None) (unless true NoOutlet) ≡ Some e =
        (λ i. option_or (option_map (λ (e : ℕ). TooManySources e) (sym g i)) (unless ((sym eo' ∙ eo) i) NoOutlet)) ∙ h in
        absurd (cc)

-- what the refusal says, by the outcomes of the rules
says : (n : Network) (w d : Bool) (m l r x : Option ℕ) → is_width n ≡ w → is_shallow n ≡ d
    → first_out (unit_of n) (adaptors n) ≡ m → first_large (numbers n) ≡ l → first_repeated [] (numbers n) ≡ r
    → least_missing (numbers n) (length (numbers n)) ≡ x
    → (e : NetError) → chain n.k w d m l r x (source_fault (source_numbers n)) (has_outlet (elements n) n.outlet) ≡ Some e → Refuses n e
says n false d m l r x ew ed em el er ex e h = subst (Refuses n) (some_same (BadWidth n.k) e h) (record { width = ew; same = refl })
says n true false m l r x ew ed em el er ex e h = subst (Refuses n) (some_same TooDeep e h) (record { width = ew; deep = ed })
says n true true (Some a) l r x ew ed em el er ex e h = subst (Refuses n) (some_same (BadMultiplier a) e h) (record { width = ew; depth = ed; first = em })
says n true true None (Some a) r x ew ed em el er ex e h =
    subst (Refuses n) (some_same (BadElement a) e h) (record { shape = record { width = ew; depth = ed; multipliers = em }; first = el })
says n true true None None (Some a) x ew ed em el er ex e h =
    subst (Refuses n) (some_same (DoubleElement a) e h) (record { shape = record { width = ew; depth = ed; multipliers = em }; small = el; first = er })
says n true true None None None (Some a) ew ed em el er ex e h =
    subst (Refuses n) (some_same (MissingElement a) e h) (record { shape = record { width = ew; depth = ed; multipliers = em }; small = el; apart = er; least = ex })
says n true true None None None None ew ed em el er ex e h =
    says_behind n (source_numbers n) (has_outlet (elements n) n.outlet)
    (record { shape = record { width = ew; depth = ed; multipliers = em }; small = el; apart = er; complete = ex }) refl refl e h

pub refusal_says : (n : Network) (e : NetError) → refusal n ≡ Some e → Refuses n e
refusal_says n e h =
    says n (is_width n) (is_shallow n) (first_out (unit_of n) (adaptors n)) (first_large (numbers n)) (first_repeated [] (numbers n))
    (least_missing (numbers n) (length (numbers n))) refl refl refl refl refl refl e h

-- so a result that is refused by the first rule that is broken is refused exactly where that rule says
pub exactly : {T : Type 0} (n : Network) (r : Result T NetError) → ((e : NetError) → r ≡ Err e → refusal n ≡ Some e) → ((e : NetError) → refusal n ≡ Some e → r ≡ Err e)
    → (e : NetError) → (r ≡ Err e) ↔ Refuses n e
exactly n r there back e = ((λ h. refusal_says n e (there e h)), (λ h. back e (refused_by n e h)))
