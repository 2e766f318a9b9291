-- What a list of words means is what `order_of` finds.
use Rattle.std.proofs.Common.{◌≡◌, ◌<◌, ◌≤◌, ◌+◌, ◌-◌, ℕ, zero, suc, Bool, true, false, List, [], ◌∷◌, Option, Some, None, Ok, Err, inl, inr, ⊎_elim, length, refl, sym, ap, ◌∙◌, subst, arith}
use Rattle.std.specs.Prelude.{Result}
use Rattle.std.specs.List.{list_any}
use Rattle.std.proofs.lemmas.Bool.{cases_lt}
use Rattle.wdf_report.specs.declared.usage_kind.UsageKind.{UsageKind}
use Rattle.wdf_report.specs.declared.usage_kind.UsageKind.TheVariants as kinds
use Rattle.wdf_words.specs.declared.command.Command.{Command}
use Rattle.wdf_words.specs.declared.order.Order.{Order}
use Rattle.wdf_words.specs.declared.usage_fault.UsageFault.{UsageFault}
use Rattle.wdf_words.specs.Operands.{command_named, operands_of}
use Rattle.wdf_words.specs.Orders.{fault_at, first_from, is_missing, order_by, order_given, order_of, usage}
use Rattle.wdf_words.specs.Meanings.{HasOneMeaning, IsFirstFault, IsLack, IsMeaning, IsNoCommand, IsOrder, IsUnknownCommand}
use Rattle.wdf_words.proofs.PlaceLemmas.{none_at}

-- ---- the first of some places

record IsFirstAt {A : Type 0} (f : ℕ → Option A) (a n : ℕ) (p : ℕ × A) : Type 0 where
  from : a ≤ p.0
  within : p.0 < a + n
  here : f p.0 ≡ Some p.1
  before : (i : ℕ) → a ≤ i → i < p.0 → f i ≡ None

first_at : {A : Type 0} (f : ℕ → Option A) (a n : ℕ) (p : ℕ × A) → first_from f a n ≡ Some p → IsFirstAt f a n p
first_at f a zero p e = absurd (cc)
first_at {A} f a (suc n) p e = by (f a) refl (first_at f (a + 1) n p)
  where
    by : (o : Option A) → f a ≡ o → (first_from f (a + 1) n ≡ Some p → IsFirstAt f (a + 1) n p) → IsFirstAt f a (suc n) p
    by None here rest =
        let g : first_from f a (suc n) ≡ first_from f (a + 1) n = rw here refl in
        let r = rest (sym g ∙ e) in
        record {
          from = omega (arith, r.from);
          within = omega (arith, r.within);
          here = r.here;
          before = λ i l h. ⊎_elim (λ more. r.before i (omega arith) h) (λ less. let same : a ≡ i = omega arith in subst (λ (j : ℕ). f j ≡ None) same here) (cases_lt a i);
        }
    by (Some x) here rest =
        let g : first_from f a (suc n) ≡ Some (a, x) = rw here refl in
        let z : Some (a, x) ≡ Some p = sym g ∙ e in
        let same : (a, x) ≡ p = cc in
        subst (IsFirstAt f a (suc n)) same (record { from = omega arith; within = omega arith; here = here; before = λ i l h. absurd (omega arith) })

-- the first place where something is, is found
found_at : {A : Type 0} (f : ℕ → Option A) (a n j : ℕ) (x : A) → a ≤ j → j < a + n → f j ≡ Some x → ((i : ℕ) → a ≤ i → i < j → f i ≡ None) → first_from f a n ≡ Some (j, x)
found_at f a zero j x l h here before = absurd (omega arith)
found_at {A} f a (suc n) j x l h here before = ⊎_elim (later (λ less. found_at f (a + 1) n j x (omega arith) (omega arith) here (λ i k m. before i (omega arith) m))) now (cases_lt a j)
  where
    later : (a < j → first_from f (a + 1) n ≡ Some (j, x)) → a < j → first_from f a (suc n) ≡ Some (j, x)
    later rest less = let g : first_from f a (suc n) ≡ first_from f (a + 1) n = rw (before a (omega arith) less) refl in g ∙ rest less

    now : j ≤ a → first_from f a (suc n) ≡ Some (j, x)
    now same =
        let e : j ≡ a = omega arith in
        let there : f a ≡ Some x = subst (λ (i : ℕ). f i ≡ Some x) e here in
        let g : first_from f a (suc n) ≡ Some (a, x) = rw there refl in
        subst (λ (i : ℕ). first_from f a (suc n) ≡ Some (i, x)) (sym e) g

-- where nothing is, nothing is found
none_found : {A : Type 0} (f : ℕ → Option A) (a n : ℕ) → ((i : ℕ) → a ≤ i → i < a + n → f i ≡ None) → first_from f a n ≡ None
none_found f a zero none = refl
none_found f a (suc n) none =
    let g : first_from f a (suc n) ≡ first_from f (a + 1) n = rw (none a (omega arith) (omega arith)) refl in
    g ∙ none_found f (a + 1) n (λ i l h. none i (omega arith) (omega arith))

-- ---- what is found is meant

by_words : (c : Command) (first : List ℕ) (rest : List (List ℕ)) → command_named first ≡ Some c → IsMeaning (first ∷ rest) (order_by (Some c) (first ∷ rest))
by_words c first rest command = by (first_from (fault_at c (first ∷ rest)) 1 (length (first ∷ rest) - 1)) (list_any (is_missing (first ∷ rest)) (operands_of c)) refl refl
  where
    by : (o : Option (ℕ × UsageKind)) (t : Bool) → first_from (fault_at c (first ∷ rest)) 1 (length (first ∷ rest) - 1) ≡ o → list_any (is_missing (first ∷ rest)) (operands_of c) ≡ t
        → IsMeaning (first ∷ rest) (order_by (Some c) (first ∷ rest))
    by (Some p) t a b =
        let f = first_at (fault_at c (first ∷ rest)) 1 (length (first ∷ rest) - 1) p a in
        rw a (inr (inr (inl (record { of = c; command = command; later = f.from; within = omega (arith, f.within); here = f.here; before = f.before }))))
    by None true a b =
        rw (a, b) (inr (inr (inr (record {
          some = omega arith;
          of = c;
          command = command;
          good = λ i l h. none_at (fault_at c (first ∷ rest)) 1 (length (first ∷ rest) - 1) a i l (omega (arith, h));
          lacks = b;
          is = refl;
        }))))
    by None false a b =
        rw (a, b) (record {
          some = omega arith;
          command = command;
          good = λ i l h. none_at (fault_at c (first ∷ rest)) 1 (length (first ∷ rest) - 1) a i l (omega (arith, h));
          whole = b;
          given = refl;
        })

means : (words : List (List ℕ)) → IsMeaning words (order_of words)
means [] = inl (record { none = refl; is = refl })
means (first ∷ rest) = by (command_named first) refl
  where
    by : (o : Option Command) → command_named first ≡ o → IsMeaning (first ∷ rest) (order_of (first ∷ rest))
    by None e = rw e (inr (inl (record { some = omega arith; unknown = e; is = refl })))
    by (Some c) e = let g : order_of (first ∷ rest) ≡ order_by (Some c) (first ∷ rest) = rw e refl in subst (IsMeaning (first ∷ rest)) (sym g) (by_words c first rest e)

-- ---- what is meant is found

only_order : (words : List (List ℕ)) (o : Order) → IsOrder words o → Ok o ≡ order_of words
only_order [] o m = absurd (omega (arith, m.some))
only_order (first ∷ rest) o m =
    let none : first_from (fault_at o.command (first ∷ rest)) 1 (length (first ∷ rest) - 1) ≡ None = none_found _ 1 (length (first ∷ rest) - 1) (λ i l h. m.good i l (omega (arith, h))) in
    let g : order_of (first ∷ rest) ≡ Ok (order_given o.command (first ∷ rest)) = rw (m.command, none, m.whole) refl in
    ap Ok m.given ∙ sym g

only_unknown : (words : List (List ℕ)) (fault : UsageFault) → IsUnknownCommand words fault → Err fault ≡ order_of words
only_unknown [] fault m = absurd (omega (arith, m.some))
only_unknown (first ∷ rest) fault m = let g : order_of (first ∷ rest) ≡ Err (usage 0 kinds.UnknownCommand) = rw m.unknown refl in ap Err m.is ∙ sym g

only_first : (words : List (List ℕ)) (fault : UsageFault) → IsFirstFault words fault → Err fault ≡ order_of words
only_first [] fault m = absurd (omega (arith, m.within))
only_first (first ∷ rest) fault m =
    let found : first_from (fault_at m.of (first ∷ rest)) 1 (length (first ∷ rest) - 1) ≡ Some (fault.word, fault.kind) =
    found_at _ 1 (length (first ∷ rest) - 1) fault.word fault.kind m.later (omega (arith, m.within)) m.here m.before in
    let g : order_of (first ∷ rest) ≡ Err (usage fault.word fault.kind) = rw (m.command, found) refl in
    sym g

only_lack : (words : List (List ℕ)) (fault : UsageFault) → IsLack words fault → Err fault ≡ order_of words
only_lack [] fault m = absurd (omega (arith, m.some))
only_lack (first ∷ rest) fault m =
    let none : first_from (fault_at m.of (first ∷ rest)) 1 (length (first ∷ rest) - 1) ≡ None = none_found _ 1 (length (first ∷ rest) - 1) (λ i l h. m.good i l (omega (arith, h))) in
    let g : order_of (first ∷ rest) ≡ Err (usage (length (first ∷ rest)) kinds.MissingOperand) = rw (m.command, none, m.lacks) refl in
    ap Err m.is ∙ sym g

only : (words : List (List ℕ)) (other : Result Order UsageFault) → IsMeaning words other → other ≡ order_of words
only words (Ok o) m = only_order words o m
only words (Err fault) m = elim m [
  | inl n ↦ no_words n
  | inr n ↦ elim n [
    | inl u ↦ only_unknown words fault u
    | inr f ↦ elim f [
      | inl x ↦ only_first words fault x
      | inr l ↦ only_lack words fault l
    ]
  ]
]
  where
    no_words : IsNoCommand words fault → Err fault ≡ order_of words
    no_words n = subst (λ (ws : List (List ℕ)). Err fault ≡ order_of ws) (sym n.none) (ap Err n.is)

pub one_meaning : (words : List (List ℕ)) → HasOneMeaning words
one_meaning words = record { means = means words; only = only words }
