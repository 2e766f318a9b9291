-- The ports that a ledger walks are those of its elements, and their numbers are positive.
use Rattle.std.proofs.Common.{◌≡◌, ℕ, zero, suc, ◌+◌, ◌*◌, ◌^◌, ◌<◌, ◌≤◌, Bool, true, false, cond, List, [], ◌∷◌, ◌++◌, length, take, refl, ap, sym, ◌∙◌, arith, Option, Some}
use Rattle.std.specs.Prelude.{All, filter}
use Rattle.std.specs.List.{range_with_len}
use Rattle.std.proofs.lemmas.List.{append-nil, length-map, map-append}
use Rattle.std.proofs.lemmas.List.Elements.{All-nil, All-cons, All-head, All-tail, All-map, filter-append}
use Rattle.std.proofs.lemmas.List.FromFn.{length-range_with_len}
use Rattle.std.proofs.lemmas.List.Sums.{length-filter, count_by-le-length}
use Rattle.wdf_law.specs.Trees.{LeafElement}
use Rattle.wdf_law.specs.Network.{Network, elements, numbers_with}
use Rattle.wdf_law.specs.Ports.{conductance_at, source_conductance}
use Rattle.wdf_quant.specs.PortBound.{number_at}
use Rattle.wdf_quant.specs.Covering.{CoversSources}
use Rattle.wdf_energy.specs.declared.port.Port.{Port}
use Rattle.wdf_energy.specs.Totals.{part}
use Rattle.wdf_energy.specs.Accounts.{parts_of}
use Rattle.wdf_energy.specs.PortLists.{ports_at, elems, parts_along, AreWalked}
use Rattle.wdf_energy.proofs.NumberLemmas.{numbers-below}

-- ---- the list, one element more

counting_more : (n : ℕ) (a : ℕ) → range_with_len a (n + 1) ≡ range_with_len a n ++ (a + n) ∷ []
counting_more n a = on ∙ last n a
  where
    on : range_with_len a (n + 1) ≡ range_with_len a (suc n)
    on = let e : n + 1 ≡ suc n = omega arith in ap (range_with_len a) e

    last : (n a : ℕ) → range_with_len a (suc n) ≡ range_with_len a n ++ (a + n) ∷ []
    last zero a = let e : a ≡ a + 0 = omega arith in ap (λ (j : ℕ). j ∷ []) e
    last (suc n) a =
        let e : a + 1 + n ≡ a + suc n = omega arith in
        ap (λ (l : List ℕ). a ∷ l) (last n (a + 1) ∙ ap (λ (j : ℕ). range_with_len (a + 1) n ++ j ∷ []) e)

filter_more : (has : ℕ → Bool) (n : ℕ) → filter has (range_with_len 0 (n + 1)) ≡ filter has (range_with_len 0 n) ++ cond (has n) (n ∷ []) []
filter_more has n =
    let e : 0 + n ≡ n = omega arith in
    ap (filter has) (counting_more n 0 ∙ ap (λ (j : ℕ). range_with_len 0 n ++ j ∷ []) e) ∙ filter-append has (range_with_len 0 n) (n ∷ [])

pub ports_more : (net : Network) (has : ℕ → Bool) (n ratio : ℕ) (ports next : List Port) → ports ≡ ports_at net (filter has (range_with_len 0 n)) → has n ≡ true
    → ratio ≡ number_at net n → next ≡ ports ++ record { elem = n; ratio = ratio } ∷ [] → next ≡ ports_at net (filter has (range_with_len 0 (n + 1)))
ports_more net has n ratio ports next before here number is =
    is
    ∙ ((λ i. before i ++ record { elem = n; ratio = number i } ∷ [])
    ∙ sym (ap (ports_at net) (filter_more has n ∙ ap (λ (b : Bool). filter has (range_with_len 0 n) ++ cond b (n ∷ []) []) here)
    ∙ map-append (λ (j : ℕ). record { elem = j; ratio = number_at net j }) (filter has (range_with_len 0 n)) (n ∷ [])))

pub ports_same : (net : Network) (has : ℕ → Bool) (n : ℕ) (ports : List Port) → ports ≡ ports_at net (filter has (range_with_len 0 n)) → has n ≡ false
    → ports ≡ ports_at net (filter has (range_with_len 0 (n + 1)))
ports_same net has n ports before here =
    before
    ∙ sym (ap (ports_at net) (filter_more has n ∙ (ap (λ (b : Bool). filter has (range_with_len 0 n) ++ cond b (n ∷ []) []) here ∙ append-nil (filter has (range_with_len 0 n)))))

-- ---- what a ledger keeps of it

positive : (c p g : ℕ) → 0 < c → 2 ^ 40 * c ≤ p * g → 0 < p
positive c zero g some covers = absurd (omega arith)
positive c (suc p) g some covers = omega arith

numbers-some : (net : Network) (js : List ℕ) → 0 < source_conductance net → CoversSources net → All (λ (j : ℕ). j < length (elements net)) js
    → All (λ (j : ℕ). 0 < number_at net j) js
numbers-some net [] some covers below = All-nil (λ (j : ℕ). 0 < number_at net j)
numbers-some net (j ∷ js) some covers below =
    All-cons (λ (i : ℕ). 0 < number_at net i) j js
    (positive (source_conductance net) (number_at net j) (conductance_at net j) some (covers.leaves j (All-head (λ (i : ℕ). i < length (elements net)) j js below)))
    (numbers-some net js some covers (All-tail (λ (i : ℕ). i < length (elements net)) j js below))

pub walked : (net : Network) (has : List LeafElement → ℕ → Bool) → length (elements net) ≤ 128 → 0 < source_conductance net → CoversSources net
    → AreWalked (length (elements net)) (ports_at net (numbers_with has (elements net)))
walked net has few some covers =
    let xs = elements net in
    let js = numbers_with has xs in
    let port : ℕ → Port = λ j. record { elem = j; ratio = number_at net j } in
    let below = numbers-below has xs in
    let long = length-map js port in
    let count = length-filter (has xs) (range_with_len 0 (length xs)) in
    let most = count_by-le-length (has xs) (range_with_len 0 (length xs)) in
    let whole = length-range_with_len 0 (length xs) in
    record {
      few = omega arith;
      placed = All-map (λ (p : Port). p.elem < length (elements net)) port js below;
      some = All-map (λ (p : Port). 0 < p.ratio) port js (numbers-some net js some covers below);
    }

-- ---- along the ports

pub elems-at : (net : Network) (js : List ℕ) → elems (ports_at net js) ≡ js
elems-at net [] = refl
elems-at net (j ∷ js) = ap (λ (l : List ℕ). j ∷ l) (elems-at net js)

pub parts-at : (net : Network) (js ss : List ℕ) → parts_along (ports_at net js) ss ≡ parts_of net js ss
parts-at net [] ss = refl
parts-at net (j ∷ js) [] = refl
parts-at net (j ∷ js) (s ∷ ss) = ap (λ (t : ℕ). part s (number_at net j) + t) (parts-at net js ss)

-- entries behind those of the ports don't count
pub parts-taken : (ports : List Port) (ss : List ℕ) → parts_along ports (take (length ports) ss) ≡ parts_along ports ss
parts-taken [] ss = refl
parts-taken (p ∷ ps) [] = refl
parts-taken (p ∷ ps) (s ∷ ss) = ap (λ (t : ℕ). part s p.ratio + t) (parts-taken ps ss)

pub some_same : (o : Option ℕ) (a b : ℕ) → o ≡ Some a → o ≡ Some b → a ≡ b
some_same o a b e f = cc
