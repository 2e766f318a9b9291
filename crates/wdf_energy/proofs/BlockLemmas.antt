-- The account of a block, frame after frame, and by its sums.
use Rattle.std.proofs.Common.{◌≡◌, ℕ, zero, suc, ◌+◌, ◌*◌, ◌^◌, ◌<◌, ◌≤◌, List, [], ◌∷◌, length, map, get_or, refl, ap, sym, ◌∙◌, subst, arith}
use Rattle.std.specs.Prelude.{ℤ}
use Rattle.std.proofs.lemmas.List.{ext_get_or}
use Rattle.std.proofs.lemmas.List.Elements.{All-get_or}
use Rattle.wdf_algebra.specs.Squares.{square}
use Rattle.wdf_law.specs.Network.{Network, elements, has_reactance, reactances, absorbing_numbers}
use Rattle.wdf_energy.specs.Accounts.{AccountOf, HasRoom, noted, with_squares}
use Rattle.wdf_energy.specs.Blocks.{AreLast, HasRoomFor, HaveSent, NotesOver, frame_column, in_column}
use Rattle.wdf_energy.specs.PortLists.{every_row, squares_over}
use Rattle.wdf_energy.proofs.ColumnLemmas.{each-row, frame-window, over-agree}
use Rattle.wdf_energy.proofs.NumberLemmas.{numbers-below}
use Rattle.wdf_energy.proofs.PartLemmas.{map-agree}

-- ---- frame after frame

abbrev pub after-frames : Network → (ℕ → List ℤ) → (ℕ → ℕ → ℤ) → AccountOf → ℕ → AccountOf
after-frames n values sent a zero = a
after-frames n values sent a (suc f) = noted n (values f) (sent f) (after-frames n values sent a f)

pub notes-after : (n : Network) (count : ℕ) (values : ℕ → List ℤ) (sent : ℕ → ℕ → ℤ) (a : AccountOf) → NotesOver n count values sent a (after-frames n values sent a count)
notes-after n count values sent a = record {
  account = after-frames n values sent a;
  opens = refl;
  notes = λ f below. next f;
  closes = refl;
}
  where
    next : (f : ℕ) → after-frames n values sent a (f + 1) ≡ noted n (values f) (sent f) (after-frames n values sent a f)
    next f = let e : f + 1 ≡ suc f = omega arith in ap (after-frames n values sent a) e

-- no other account is
pub after-only : (n : Network) (count : ℕ) (values : ℕ → List ℤ) (sent : ℕ → ℕ → ℤ) (a b : AccountOf) → NotesOver n count values sent a b → b ≡ after-frames n values sent a count
after-only n count values sent a b g = sym g.closes ∙ each count (omega arith)
  where
    each : (f : ℕ) → f ≤ count → g.account f ≡ after-frames n values sent a f
    each zero few = g.opens
    each (suc f) few =
        let on : suc f ≡ f + 1 = omega arith in
        ap g.account on ∙ (g.notes f (omega arith) ∙ ap (noted n (values f) (sent f)) (each f (omega arith)))

-- ---- its sums

incident-after : (n : Network) (rows : List (List ℤ)) (column width count f : ℕ) (sent : ℕ → ℕ → ℤ) (a : AccountOf) → f ≤ count → length rows ≡ count * width
    → (after-frames n (frame_column width rows column) sent a f).incident ≡ a.incident + squares_over (in_column rows column) (f * width)
incident-after n rows column width count zero sent a few all =
    let e : 0 * width ≡ 0 = omega arith in
    let none = ap (squares_over (in_column rows column)) e in
    omega arith
incident-after n rows column width count (suc f) sent a few all =
    let before = incident-after n rows column width count f sent a (omega arith) all in
    let more = frame-window rows column width f count (omega arith) all in
    let e : suc f * width ≡ (f + 1) * width = omega arith in
    let same = ap (squares_over (in_column rows column)) e in
    omega arith

with_squares-length : (f : ℕ → ℤ) (js ss : List ℕ) → length ss ≤ length js → length (with_squares f js ss) ≡ length ss
with_squares-length f [] [] few = refl
with_squares-length f [] (s ∷ ss) few = absurd (omega arith)
with_squares-length f (j ∷ js) [] few = refl
with_squares-length f (j ∷ js) (s ∷ ss) few = let rest = with_squares-length f js ss (omega arith) in omega arith

with_squares-at : (f : ℕ → ℤ) (js ss : List ℕ) (i : ℕ) → length ss ≤ length js → i < length ss
    → get_or (with_squares f js ss) i 0 ≡ get_or ss i 0 + square (f (get_or js i 0))
with_squares-at f js [] i few h = absurd (omega arith)
with_squares-at f [] (s ∷ ss) i few h = absurd (omega arith)
with_squares-at f (j ∷ js) (s ∷ ss) zero few h = refl
with_squares-at f (j ∷ js) (s ∷ ss) (suc i) few h = with_squares-at f js ss i (omega arith) (omega arith)

length-after : (n : Network) (values : ℕ → List ℤ) (sent : ℕ → ℕ → ℤ) (a : AccountOf) (f : ℕ) → length a.squares ≤ length (absorbing_numbers n)
    → length (after-frames n values sent a f).squares ≡ length a.squares
length-after n values sent a zero few = refl
length-after n values sent a (suc f) few =
    let before = length-after n values sent a f few in
    with_squares-length (sent f) (absorbing_numbers n) (after-frames n values sent a f).squares (omega arith) ∙ before

squares-after : (n : Network) (values : ℕ → List ℤ) (sent : ℕ → ℕ → ℤ) (a : AccountOf) (f i : ℕ) → length a.squares ≤ length (absorbing_numbers n) → i < length a.squares
    → get_or (after-frames n values sent a f).squares i 0 ≡ get_or a.squares i 0 + squares_over (λ (k : ℕ). sent k (get_or (absorbing_numbers n) i 0)) f
squares-after n values sent a zero i few here = omega arith
squares-after n values sent a (suc f) i few here =
    let before = squares-after n values sent a f i few here in
    let long = length-after n values sent a f few in
    let more = with_squares-at (sent f) (absorbing_numbers n) (after-frames n values sent a f).squares i (omega arith) (omega arith) in
    omega arith

-- of rows that have the waves
pub squares-of-rows : (n : Network) (values : ℕ → List ℤ) (sent : ℕ → ℕ → ℤ) (rows : List (List ℤ)) (column count i : ℕ) (a : AccountOf)
    → length a.squares ≤ length (absorbing_numbers n) → HaveSent n count sent rows column → i < length a.squares
    → get_or (after-frames n values sent a count).squares i 0 ≡ get_or a.squares i 0 + squares_over (every_row (length (absorbing_numbers n)) rows column i) count
squares-of-rows n values sent rows column count i a few are here =
    let all = squares-after n values sent a count i few here in
    let same = over-agree (every_row (length (absorbing_numbers n)) rows column i) (λ (k : ℕ). sent k (get_or (absorbing_numbers n) i 0)) count (λ f below. are f i below (omega arith)) in
    omega arith

pub incident-of-rows : (n : Network) (rows : List (List ℤ)) (column width count : ℕ) (sent : ℕ → ℕ → ℤ) (a : AccountOf) → length rows ≡ count * width
    → (after-frames n (frame_column width rows column) sent a count).incident ≡ a.incident + squares_over (every_row 1 rows column 0) (length rows)
incident-of-rows n rows column width count sent a all =
    let sums = incident-after n rows column width count count sent a (omega arith) all in
    let each = each-row rows column (length rows) in
    let same = ap (squares_over (in_column rows column)) all in
    omega arith

state-after : (n : Network) (values : ℕ → List ℤ) (sent : ℕ → ℕ → ℤ) (a : AccountOf) (count : ℕ) (last : ℕ → ℤ) → 1 ≤ count → AreLast n count sent last
    → (after-frames n values sent a count).state ≡ map last (reactances n)
state-after n values sent a zero last some are = absurd (omega arith)
state-after n values sent a (suc f) last some are =
    map-agree (λ (j : ℕ). j < length (elements n)) (sent f) last (reactances n) (numbers-below has_reactance (elements n)) (λ j here. sym (are f j (omega arith) here))

-- ---- an account with these sums is that of the block

pub block-noted : (n : Network) (values waves : List (List ℤ)) (column width count : ℕ) (sent : ℕ → ℕ → ℤ) (last : ℕ → ℤ) (a b : AccountOf)
    → 1 ≤ count → length values ≡ count * width → length a.squares ≤ length (absorbing_numbers n) → length b.squares ≡ length a.squares
    → HaveSent n count sent waves column → AreLast n count sent last
    → b.incident ≡ a.incident + squares_over (every_row 1 values column 0) (length values)
    → ((i : ℕ) → i < length a.squares → get_or b.squares i 0 ≡ get_or a.squares i 0 + squares_over (every_row (length (absorbing_numbers n)) waves column i) count)
    → b.state ≡ map last (reactances n)
    → NotesOver n count (frame_column width values column) sent a b
block-noted n values waves column width count sent last a b some all few long are are_last incident squares state =
    subst (NotesOver n count by sent a) (sym same) (notes-after n count by sent a)
  where
    by : ℕ → List ℤ
    by = frame_column width values column

    next : AccountOf
    next = after-frames n by sent a count

    list : b.squares ≡ next.squares
    list =
        let after = length-after n by sent a count few in
        ext_get_or 0 b.squares next.squares (omega arith)
        (λ i here. squares i (omega arith) ∙ sym (squares-of-rows n by sent waves column count i a few are (omega arith)))

    same : b ≡ next
    same = λ i. record {
      incident = (incident ∙ sym (incident-of-rows n values column width count sent a all)) i;
      squares = list i;
      state = (state ∙ sym (state-after n by sent a count last some are_last)) i;
    }

-- ---- room

-- the room that these waves show
pub room-shown : (n : Network) (count : ℕ) (values : ℕ → List ℤ) (sent : ℕ → ℕ → ℤ) (rows : List (List ℤ)) (column : ℕ) (a : AccountOf) → HaveSent n count sent rows column
    → HasRoom (after-frames n values sent a count) → HasRoomFor n count values rows column a
room-shown n count values sent rows column a are room = record {
  sent = sent;
  waves = are;
  room = λ b g. subst HasRoom (sym (after-only n count values sent a b g)) room;
}

pub room-incident : (n : Network) (values waves : List (List ℤ)) (column width count : ℕ) (a : AccountOf) → length values ≡ count * width
    → HasRoomFor n count (frame_column width values column) waves column a
    → a.incident + squares_over (every_row 1 values column 0) (length values) < 2 ^ 124
room-incident n values waves column width count a all h =
    let by = frame_column width values column in
    let room = h.room (after-frames n by h.sent a count) (notes-after n count by h.sent a) in
    let below = room.incident in
    let sums = incident-of-rows n values column width count h.sent a all in
    omega arith

pub room-squares : (n : Network) (values waves : List (List ℤ)) (column width count i : ℕ) (a : AccountOf) → length a.squares ≤ length (absorbing_numbers n) → i < length a.squares
    → HasRoomFor n count (frame_column width values column) waves column a
    → get_or a.squares i 0 + squares_over (every_row (length (absorbing_numbers n)) waves column i) count < 2 ^ 124
room-squares n values waves column width count i a few here h =
    let by = frame_column width values column in
    let next = after-frames n by h.sent a count in
    let room = h.room next (notes-after n count by h.sent a) in
    let after = length-after n by h.sent a count few in
    let below = All-get_or (λ (s : ℕ). s < 2 ^ 124) next.squares i 0 (omega arith) room.squares in
    let sums = squares-of-rows n by h.sent waves column count i a few h.waves here in
    omega arith
