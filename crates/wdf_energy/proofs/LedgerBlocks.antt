-- A block of a channel, from a ledger's fields to what clauses see of it.
use Rattle.std.proofs.Common.{◌≡◌, ◌≢◌, ℕ, ◌+◌, ◌*◌, ◌^◌, ◌<◌, ◌≤◌, List, length, map, take, get_or, set, ap, sym, ◌∙◌, subst, arith}
use Rattle.std.specs.Prelude.{ℤ}
use Rattle.std.proofs.lemmas.List.{get_or-set_same, get_or-set_other, get_or-take, length-map, length-set, length-take, map-set}
use Rattle.wdf_law.specs.Network.{Network, reactances, source_numbers, absorbing_numbers}
use Rattle.wdf_quant.specs.PortBound.{number_at}
use Rattle.wdf_energy.specs.declared.account.Account.{Account}
use Rattle.wdf_energy.specs.declared.port.Port.{Port}
use Rattle.wdf_energy.specs.Accounts.{AccountOf, LedgerOf, account_at, opened, wave_at}
use Rattle.wdf_energy.specs.Blocks.{AreLast, HasRoomFor, HaveSent, NotesOver, frame_column}
use Rattle.wdf_energy.specs.PortLists.{IsLedger, elems, every_row, shown, squares_over}
use Rattle.wdf_energy.proofs.BlockLemmas.{block-noted, room-incident, room-squares}
use Rattle.wdf_energy.proofs.LedgerLemmas.{account-is, ledger}
use Rattle.wdf_energy.proofs.PortLemmas.{elems-at}

-- the values of the sources of a network, by frames
abbrev by : Network → List (List ℤ) → ℕ → ℕ → List ℤ
by n values column = frame_column (length (source_numbers n)) values column

absorbing-count : (n : Network) (absorbing reactive : List Port) → IsLedger n absorbing reactive → length absorbing ≡ length (absorbing_numbers n)
absorbing-count n absorbing reactive rules = ap length rules.absorbing_ports ∙ length-map (absorbing_numbers n) (λ (j : ℕ). record { elem = j; ratio = number_at n j })

shown-few : (n : Network) (absorbing reactive : List Port) (a : Account) → IsLedger n absorbing reactive
    → length (shown absorbing reactive a).squares ≤ length (absorbing_numbers n)
shown-few n absorbing reactive a rules =
    let taken = length-take (length absorbing) a.squares in
    let wide = absorbing-count n absorbing reactive rules in
    omega arith

-- ---- room, along the fields

room-shown : (l : LedgerOf) (n : Network) (absorbing reactive : List Port) (accounts : List Account) (channel : ℕ) (a : Account) (values waves : List (List ℤ)) (column count : ℕ)
    → ledger n absorbing reactive accounts ≡ l → channel < length l.accounts → a ≡ get_or accounts channel a
    → HasRoomFor l.net count (by l.net values column) waves column (account_at l channel)
    → HasRoomFor n count (by n values column) waves column (shown absorbing reactive a)
room-shown l n absorbing reactive accounts channel a values waves column count seen here is room =
    let long : length l.accounts ≡ length accounts = ap (λ (m : LedgerOf). length m.accounts) (sym seen) ∙ length-map accounts (shown absorbing reactive) in
    subst (HasRoomFor n count (by n values column) waves column) (account-is n absorbing reactive accounts channel a (omega arith) is)
    (subst (λ (m : LedgerOf). HasRoomFor m.net count (by m.net values column) waves column (account_at m channel)) (sym seen) room)

pub block-incident : (l : LedgerOf) (n : Network) (absorbing reactive : List Port) (accounts : List Account) (channel : ℕ) (a : Account) (values waves : List (List ℤ)) (column count : ℕ)
    → ledger n absorbing reactive accounts ≡ l → channel < length l.accounts → a ≡ get_or accounts channel a
    → length values ≡ count * length (source_numbers l.net)
    → HasRoomFor l.net count (by l.net values column) waves column (account_at l channel)
    → a.incident + squares_over (every_row 1 values column 0) (length values) < 2 ^ 124
block-incident l n absorbing reactive accounts channel a values waves column count seen here is all room =
    room-incident n values waves column (length (source_numbers n)) count (shown absorbing reactive a)
    (subst (λ (m : LedgerOf). length values ≡ count * length (source_numbers m.net)) (sym seen) all)
    (room-shown l n absorbing reactive accounts channel a values waves column count seen here is room)

pub block-squares : (l : LedgerOf) (n : Network) (absorbing reactive : List Port) (accounts : List Account) (channel : ℕ) (a : Account) (values waves : List (List ℤ)) (column count i : ℕ)
    → ledger n absorbing reactive accounts ≡ l → IsLedger n absorbing reactive → channel < length l.accounts → a ≡ get_or accounts channel a
    → HasRoomFor l.net count (by l.net values column) waves column (account_at l channel) → i < length absorbing → i < length a.squares
    → get_or a.squares i 0 + squares_over (every_row (length absorbing) waves column i) count < 2 ^ 124
block-squares l n absorbing reactive accounts channel a values waves column count i seen rules here is room below inside =
    let wide = absorbing-count n absorbing reactive rules in
    let both = length-take (length absorbing) a.squares in
    let sum = room-squares n values waves column (length (source_numbers n)) count i (shown absorbing reactive a) (shown-few n absorbing reactive a rules) (omega arith)
    (room-shown l n absorbing reactive accounts channel a values waves column count seen here is room) in
    let taken : get_or (take (length absorbing) a.squares) i 0 ≡ get_or a.squares i 0 = get_or-take (length absorbing) a.squares i 0 below in
    let same = ap (λ (w : ℕ). squares_over (every_row w waves column i) count) wide in
    omega arith

-- so many rows
pub block-rows : (l : LedgerOf) (n : Network) (absorbing reactive : List Port) (accounts : List Account) (rows count : ℕ) → ledger n absorbing reactive accounts ≡ l → IsLedger n absorbing reactive
    → rows ≡ count * length (absorbing_numbers l.net) → rows ≡ count * length absorbing
block-rows l n absorbing reactive accounts rows count seen rules all =
    all ∙ (ap (λ (m : LedgerOf). count * length (absorbing_numbers m.net)) (sym seen) ∙ ap (λ (w : ℕ). count * w) (sym (absorbing-count n absorbing reactive rules)))

-- ---- the ledger with the block

abbrev with : Network → (absorbing reactive : List Port) → List Account → ℕ → Account → LedgerOf
with n absorbing reactive accounts channel b = ledger n absorbing reactive (set accounts channel b)

pub block-net : (l : LedgerOf) (n : Network) (absorbing reactive : List Port) (accounts : List Account) → ledger n absorbing reactive accounts ≡ l → n ≡ l.net
block-net l n absorbing reactive accounts seen = ap (λ (m : LedgerOf). m.net) seen

pub block-channels : (l : LedgerOf) (n : Network) (absorbing reactive : List Port) (accounts : List Account) (channel : ℕ) (b : Account) → ledger n absorbing reactive accounts ≡ l
    → length (with n absorbing reactive accounts channel b).accounts ≡ length l.accounts
block-channels l n absorbing reactive accounts channel b seen =
    length-map (set accounts channel b) (shown absorbing reactive)
    ∙ (length-set accounts channel b ∙ (sym (length-map accounts (shown absorbing reactive)) ∙ ap (λ (m : LedgerOf). length m.accounts) seen))

pub block-others : (l : LedgerOf) (n : Network) (absorbing reactive : List Port) (accounts : List Account) (channel : ℕ) (b : Account) → ledger n absorbing reactive accounts ≡ l
    → (k : ℕ) → k ≢ channel → account_at (with n absorbing reactive accounts channel b) k ≡ account_at l k
block-others l n absorbing reactive accounts channel b seen k other =
    ap (λ (all : List AccountOf). get_or all k (opened n)) (map-set (shown absorbing reactive) accounts channel b)
    ∙ (get_or-set_other (map (shown absorbing reactive) accounts) channel k (shown absorbing reactive b) (opened n) other
    ∙ ap (λ (m : LedgerOf). account_at m k) seen)

account-now : (n : Network) (absorbing reactive : List Port) (accounts : List Account) (channel : ℕ) (b : Account) → channel < length accounts
    → account_at (with n absorbing reactive accounts channel b) channel ≡ shown absorbing reactive b
account-now n absorbing reactive accounts channel b here =
    let long = length-map accounts (shown absorbing reactive) in
    ap (λ (all : List AccountOf). get_or all channel (opened n)) (map-set (shown absorbing reactive) accounts channel b)
    ∙ get_or-set_same (map (shown absorbing reactive) accounts) channel (shown absorbing reactive b) (opened n) (omega arith)

pub block-account : (l : LedgerOf) (n : Network) (absorbing reactive : List Port) (accounts : List Account) (channel : ℕ) (a b : Account) (values waves : List (List ℤ)) (downs : List ℤ) (column count : ℕ)
    → ledger n absorbing reactive accounts ≡ l → IsLedger n absorbing reactive → channel < length l.accounts → a ≡ get_or accounts channel a
    → length b.squares ≡ length a.squares → 1 ≤ count → length values ≡ count * length (source_numbers l.net)
    → b.incident ≡ a.incident + squares_over (every_row 1 values column 0) (length values)
    → ((i : ℕ) → i < length absorbing → get_or b.squares i 0 ≡ get_or a.squares i 0 + squares_over (every_row (length absorbing) waves column i) count)
    → take (length reactive) b.state ≡ map (wave_at downs) (elems reactive)
    → (sent : ℕ → ℕ → ℤ) → HaveSent l.net count sent waves column → AreLast l.net count sent (wave_at downs)
    → NotesOver l.net count (by l.net values column) sent (account_at l channel) (account_at (with n absorbing reactive accounts channel b) channel)
block-account l n absorbing reactive accounts channel a b values waves downs column count seen rules here is long some all incident squares state =
    subst (λ (m : LedgerOf). (sent : ℕ → ℕ → ℤ) → HaveSent m.net count sent waves column → AreLast m.net count sent (wave_at downs)
    → NotesOver m.net count (by m.net values column) sent (account_at m channel) (account_at (with n absorbing reactive accounts channel b) channel)) seen
    (λ sent are last.
    subst (NotesOver n count (by n values column) sent (account_at (ledger n absorbing reactive accounts) channel)) (sym (account-now n absorbing reactive accounts channel b inside))
    (subst (λ (x : AccountOf). NotesOver n count (by n values column) sent x (shown absorbing reactive b)) (sym (account-is n absorbing reactive accounts channel a inside is))
    (block-noted n values waves column (length (source_numbers n)) count sent (wave_at downs) (shown absorbing reactive a) (shown absorbing reactive b) some
    (subst (λ (m : LedgerOf). length values ≡ count * length (source_numbers m.net)) (sym seen) all)
    (shown-few n absorbing reactive a rules) alike are last incident (λ i below. entry i below)
    (state ∙ ap (map (wave_at downs)) (ap elems rules.reactive_ports ∙ elems-at n (reactances n))))))
  where
    inside : channel < length accounts
    inside =
        let long_l : length l.accounts ≡ length accounts = ap (λ (m : LedgerOf). length m.accounts) (sym seen) ∙ length-map accounts (shown absorbing reactive) in
        omega arith

    alike : length (take (length absorbing) b.squares) ≡ length (take (length absorbing) a.squares)
    alike =
        let old = length-take (length absorbing) a.squares in
        let new = length-take (length absorbing) b.squares in
        omega arith

    entry : (i : ℕ) → i < length (take (length absorbing) a.squares)
        → get_or (take (length absorbing) b.squares) i 0 ≡ get_or (take (length absorbing) a.squares) i 0 + squares_over (every_row (length (absorbing_numbers n)) waves column i) count
    entry i below =
        let wide = absorbing-count n absorbing reactive rules in
        let both = length-take (length absorbing) a.squares in
        let under : i < length absorbing = omega arith in
        let one = squares i under in
        let new : get_or (take (length absorbing) b.squares) i 0 ≡ get_or b.squares i 0 = get_or-take (length absorbing) b.squares i 0 under in
        let old : get_or (take (length absorbing) a.squares) i 0 ≡ get_or a.squares i 0 = get_or-take (length absorbing) a.squares i 0 under in
        let same = ap (λ (w : ℕ). squares_over (every_row w waves column i) count) wide in
        omega arith
