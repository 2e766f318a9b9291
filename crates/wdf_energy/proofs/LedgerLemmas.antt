-- What a ledger has in its fields is what clauses see of it.
use Rattle.std.proofs.Common.{◌≡◌, ℕ, zero, suc, ◌+◌, ◌^◌, ◌<◌, ◌≤◌, List, [], ◌∷◌, length, map, take, replicate, get_or, set, refl, ap, sym, ◌∙◌, subst, arith}
use Rattle.std.specs.Prelude.{All, ℤ, pos}
use Rattle.std.specs.List.{sum_by}
use Rattle.std.proofs.lemmas.List.{get_or-map, map-set, length-map, take-map, take-replicate}
use Rattle.wdf_algebra.specs.Squares.{square}
use Rattle.wdf_law.specs.Network.{Network, reactances, absorbing_numbers}
use Rattle.wdf_quant.specs.PortBound.{number_at}
use Rattle.wdf_energy.specs.declared.account.Account.{Account}
use Rattle.wdf_energy.specs.declared.port.Port.{Port}
use Rattle.wdf_energy.specs.declared.totals.Totals.{Totals}
use Rattle.wdf_energy.specs.Accounts.{AccountOf, LedgerOf, HasRoom, opened, account_at, with_squares, wave_at, noted, noted_in, parts_of, totals_of}
use Rattle.wdf_energy.specs.PortLists.{ports_at, elems, parts_along, shown, IsLedger}
use Rattle.wdf_energy.proofs.PortLemmas.{elems-at, parts-at, parts-taken}

-- a ledger by its fields
abbrev pub ledger : Network → (absorbing reactive : List Port) → List Account → LedgerOf
ledger n absorbing reactive accounts = record { net = n; accounts = map (shown absorbing reactive) accounts }

pub account-is : (n : Network) (absorbing reactive : List Port) (accounts : List Account) (channel : ℕ) (a : Account) → channel < length accounts
    → a ≡ get_or accounts channel a → account_at (ledger n absorbing reactive accounts) channel ≡ shown absorbing reactive a
account-is n absorbing reactive accounts channel a here is =
    get_or-map (shown absorbing reactive) accounts channel a (opened n) here ∙ sym (ap (shown absorbing reactive) is)

-- ---- totals

absorbed-is : (n : Network) (ports : List Port) (js ss : List ℕ) → ports ≡ ports_at n js → parts_along ports ss ≡ parts_of n js (take (length ports) ss)
absorbed-is n ports js ss are = sym (parts-taken ports ss) ∙ (ap (λ (l : List Port). parts_along l (take (length ports) ss)) are ∙ parts-at n js (take (length ports) ss))

pub totals-are : (n : Network) (absorbing reactive : List Port) (a : Account) → IsLedger n absorbing reactive
    → ◌≡◌ {A = Totals} (record { incident = a.incident; absorbed = parts_along absorbing a.squares; stored = parts_along reactive (map square a.state) })
    (totals_of n (shown absorbing reactive a))
totals-are n absorbing reactive a rules = λ i. record {
  incident = a.incident;
  absorbed = absorbed-is n absorbing (absorbing_numbers n) a.squares rules.absorbing_ports i;
  stored = (absorbed-is n reactive (reactances n) (map square a.state) rules.reactive_ports
      ∙ ap (parts_of n (reactances n)) (take-map square (length reactive) a.state)) i;
}

-- of the account of a channel
pub channel-totals : (l : LedgerOf) (n : Network) (absorbing reactive : List Port) (accounts : List Account) (channel : ℕ) (a : Account)
    → ledger n absorbing reactive accounts ≡ l → IsLedger n absorbing reactive → channel < length l.accounts → a ≡ get_or accounts channel a
    → ◌≡◌ {A = Totals} (record { incident = a.incident; absorbed = parts_along absorbing a.squares; stored = parts_along reactive (map square a.state) })
    (totals_of l.net (account_at l channel))
channel-totals l n absorbing reactive accounts channel a seen rules here is =
    let long : length l.accounts ≡ length accounts = ap (λ (m : LedgerOf). length m.accounts) (sym seen) ∙ length-map accounts (shown absorbing reactive) in
    totals-are n absorbing reactive a rules
    ∙ (ap (totals_of n) (sym (account-is n absorbing reactive accounts channel a (omega arith) is))
    ∙ ap (λ (m : LedgerOf). totals_of m.net (account_at m channel)) seen)

-- ---- a frame

squares-are : (n : Network) (ports : List Port) (f : ℕ → ℤ) (js ss : List ℕ) → ports ≡ ports_at n js
    → with_squares f (elems ports) ss ≡ with_squares f js ss
squares-are n ports f js ss are = ap (λ (l : List ℕ). with_squares f l ss) (ap elems are ∙ elems-at n js)

-- room for a frame, along the ports
pub channel-room : (l : LedgerOf) (n : Network) (absorbing reactive : List Port) (accounts : List Account) (channel : ℕ) (a : Account) (es downs : List ℤ)
    → ledger n absorbing reactive accounts ≡ l → IsLedger n absorbing reactive → channel < length l.accounts → a ≡ get_or accounts channel a
    → HasRoom (noted l.net es (wave_at downs) (account_at l channel))
    → All (λ (s : ℕ). s < 2 ^ 124) (with_squares (wave_at downs) (elems absorbing) (take (length absorbing) a.squares))
channel-room l n absorbing reactive accounts channel a es downs seen rules here is room =
    let long : length l.accounts ≡ length accounts = ap (λ (m : LedgerOf). length m.accounts) (sym seen) ∙ length-map accounts (shown absorbing reactive) in
    let same : noted l.net es (wave_at downs) (account_at l channel) ≡ noted n es (wave_at downs) (shown absorbing reactive a)
    = ap (λ (m : LedgerOf). noted m.net es (wave_at downs) (account_at m channel)) (sym seen)
    ∙ ap (noted n es (wave_at downs)) (account-is n absorbing reactive accounts channel a (omega arith) is) in
    subst (All (λ (s : ℕ). s < 2 ^ 124))
    (ap (λ (b : AccountOf). b.squares) same ∙ sym (squares-are n absorbing (wave_at downs) (absorbing_numbers n) (take (length absorbing) a.squares) rules.absorbing_ports))
    room.squares

-- the ledger with the account of a frame more
pub channel-noted : (l : LedgerOf) (n : Network) (absorbing reactive : List Port) (accounts : List Account) (channel : ℕ) (a b : Account) (es downs : List ℤ)
    → ledger n absorbing reactive accounts ≡ l → IsLedger n absorbing reactive → channel < length l.accounts → a ≡ get_or accounts channel a
    → b.incident ≡ a.incident + sum_by square es
    → take (length absorbing) b.squares ≡ with_squares (wave_at downs) (elems absorbing) (take (length absorbing) a.squares)
    → take (length reactive) b.state ≡ map (wave_at downs) (elems reactive)
    → ledger n absorbing reactive (set accounts channel b) ≡ noted_in l channel es downs
channel-noted l n absorbing reactive accounts channel a b es downs seen rules here is incident squares state =
    let long : length l.accounts ≡ length accounts = ap (λ (m : LedgerOf). length m.accounts) (sym seen) ∙ length-map accounts (shown absorbing reactive) in
    let now : account_at (ledger n absorbing reactive accounts) channel ≡ shown absorbing reactive a = account-is n absorbing reactive accounts channel a (omega arith) is in
    let next : shown absorbing reactive b ≡ noted n es (wave_at downs) (shown absorbing reactive a) = λ i. record {
      incident = incident i;
      squares = (squares ∙ squares-are n absorbing (wave_at downs) (absorbing_numbers n) (take (length absorbing) a.squares) rules.absorbing_ports) i;
      state = (state ∙ ap (map (wave_at downs)) (ap elems rules.reactive_ports ∙ elems-at n (reactances n))) i;
    } in
    let entries : map (shown absorbing reactive) (set accounts channel b)
    ≡ set (map (shown absorbing reactive) accounts) channel (noted n es (wave_at downs) (account_at (ledger n absorbing reactive accounts) channel))
    = map-set (shown absorbing reactive) accounts channel b
    ∙ ap (set (map (shown absorbing reactive) accounts) channel) (next ∙ ap (noted n es (wave_at downs)) (sym now)) in
    (λ i. record { net = n; accounts = entries i })
    ∙ ap (λ (m : LedgerOf). noted_in m channel es downs) seen

-- ---- the beginning

map-const : {A : Type 0} (y : A) (js : List ℕ) → map (λ (j : ℕ). y) js ≡ replicate (length js) y
map-const y [] = refl
map-const y (j ∷ js) = ap (λ l. y ∷ l) (map-const y js)

map-replicate : {A B : Type 0} (f : A → B) (n : ℕ) (x : A) → map f (replicate n x) ≡ replicate n (f x)
map-replicate f zero x = refl
map-replicate f (suc n) x = ap (λ l. f x ∷ l) (map-replicate f n x)

front : {A : Type 0} (y : A) (n : Network) (ports : List Port) (js : List ℕ) (ys : List A) → ports ≡ ports_at n js → length ports ≤ 128 → ys ≡ replicate 128 y
    → take (length ports) ys ≡ map (λ (j : ℕ). y) js
front y n ports js ys are few all =
    let long : length ports ≡ length js = ap length are ∙ length-map js (λ (j : ℕ). record { elem = j; ratio = number_at n j }) in
    ap (take (length ports)) all ∙ (take-replicate (length ports) 128 y few ∙ (ap (λ (m : ℕ). replicate m y) long ∙ sym (map-const y js)))

-- every account of a new ledger
pub accounts-opened : (n : Network) (absorbing reactive : List Port) (accounts : List Account) (channels : ℕ) (a : Account)
    → absorbing ≡ ports_at n (absorbing_numbers n) → reactive ≡ ports_at n (reactances n) → length absorbing ≤ 128 → length reactive ≤ 128
    → accounts ≡ replicate channels a → a.incident ≡ 0 → a.squares ≡ replicate 128 0 → a.state ≡ replicate 128 (pos 0)
    → map (shown absorbing reactive) accounts ≡ replicate channels (opened n)
accounts-opened n absorbing reactive accounts channels a absorbing_are reactive_are few_absorbing few_reactive all incident squares state =
    let one : shown absorbing reactive a ≡ opened n = λ i. record {
      incident = incident i;
      squares = front 0 n absorbing (absorbing_numbers n) a.squares absorbing_are few_absorbing squares i;
      state = front (pos 0) n reactive (reactances n) a.state reactive_are few_reactive state i;
    } in
    ap (map (shown absorbing reactive)) all ∙ (map-replicate (shown absorbing reactive) channels a ∙ ap (replicate channels) one)
