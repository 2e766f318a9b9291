-- One run more in a ledger's accounts.
use Rattle.std.proofs.Common.{◌≡◌, ℕ, ◌+◌, ◌<◌, ◌≤◌, List, length, refl, sym, ◌∙◌, subst, arith}
use Rattle.std.specs.Prelude.{ℤ, pos, slice_index_or, slice_set}
use mathlib.Core.Logic.{◌⊎◌, inl, inr}
use Rattle.std.proofs.lemmas.Bool.{cases_lt}
use Rattle.std.proofs.lemmas.List.{get_or-set_same, get_or-set_other}
use Rattle.wdf_law.specs.Network.{Network, source_numbers}
use Rattle.wdf_energy.specs.Accounts.{AccountOf, LedgerOf, account_at}
use Rattle.wdf_energy.specs.Blocks.{AreLast, HasRoomFor, HaveSent, NotesOver, frame_column}
use Rattle.wdf_loop.specs.declared.cell.Cell.{Cell}
use Rattle.wdf_loop.specs.declared.part.Part.{Part}
use Rattle.wdf_loop.specs.Parts.{sent_last}
use Rattle.wdf_loop.specs.RunAccounts.{AreNoted, KeepsAccounts, values_of}

-- before any run
pub keeps_none : (first : ℕ) (a : LedgerOf) → KeepsAccounts 0 first a a
keeps_none first a = record { net = refl; count = refl; others = λ k side. refl }

pub keeps_more : (c first : ℕ) (a b d : LedgerOf) → KeepsAccounts c first a b → KeepsAccounts 1 (first + c) b d → KeepsAccounts (c + 1) first a d
keeps_more c first a b d one two = record { net = two.net ∙ one.net; count = two.count ∙ one.count; others = others }
  where
    others : (k : ℕ) → (k < first) ⊎ (first + (c + 1) ≤ k) → account_at d k ≡ account_at a k
    others k (inl low) = two.others k (inl (omega (arith, low))) ∙ one.others k (inl low)
    others k (inr high) = two.others k (inr (omega (arith, high))) ∙ one.others k (inr (omega (arith, high)))

-- the next run's account is as it was
same_next : (c first : ℕ) (a b : LedgerOf) → KeepsAccounts c first a b → account_at b (first + c) ≡ account_at a (first + c)
same_next c first a b keeps = keeps.others (first + c) (inr (omega arith))

pub room_next : (c first count : ℕ) (values waves : List (List ℤ)) (a b : LedgerOf) → KeepsAccounts c first a b → HasRoomFor a.net count (values_of a values c) waves c (account_at a (first + c))
    → HasRoomFor b.net count (values_of b values c) waves c (account_at b (first + c))
room_next c first count values waves a b keeps room =
    subst (λ (n : Network). HasRoomFor n count (frame_column (length (source_numbers n)) values c) waves c (account_at b (first + c))) (sym keeps.net)
    (subst (λ (x : AccountOf). HasRoomFor a.net count (values_of a values c) waves c x) (sym (same_next c first a b keeps)) room)

pub noted_more : (c first count : ℕ) (every : List Part) (cells : List (List Cell)) (values waves : List (List ℤ)) (a b d : LedgerOf) → KeepsAccounts c first a b → KeepsAccounts 1 (first + c) b d
    → AreNoted c first count every cells values waves a b
    → ((sent : ℕ → ℕ → ℤ) → HaveSent b.net count sent waves c → AreLast b.net count sent (sent_last every cells c)
    → NotesOver b.net count (values_of b values c) sent (account_at b (first + c)) (account_at d (first + c)))
    → AreNoted (c + 1) first count every cells values waves a d
noted_more c first count every cells values waves a b d one two so_far now k small = by (cases_lt k c)
  where
    by : (k < c) ⊎ (c ≤ k) → (sent : ℕ → ℕ → ℤ) → HaveSent a.net count sent waves k → AreLast a.net count sent (sent_last every cells k)
        → NotesOver a.net count (values_of a values k) sent (account_at a (first + k)) (account_at d (first + k))
    by (inl low) sent have last =
        subst (NotesOver a.net count (values_of a values k) sent (account_at a (first + k))) (sym (two.others (first + k) (inl (omega (arith, low))))) (so_far k low sent have last)
    by (inr high) sent have last =
        let at : c ≡ k = omega (arith, small, high) in
        subst (λ (j : ℕ). (s : ℕ → ℕ → ℤ) → HaveSent a.net count s waves j → AreLast a.net count s (sent_last every cells j)
        → NotesOver a.net count (values_of a values j) s (account_at a (first + j)) (account_at d (first + j))) at here sent have last
      where
        here : (s : ℕ → ℕ → ℤ) → HaveSent a.net count s waves c → AreLast a.net count s (sent_last every cells c)
            → NotesOver a.net count (values_of a values c) s (account_at a (first + c)) (account_at d (first + c))
        here s have last =
            subst (λ (x : AccountOf). NotesOver a.net count (values_of a values c) s x (account_at d (first + c))) (same_next c first a b one)
            (subst (λ (n : Network). NotesOver n count (frame_column (length (source_numbers n)) values c) s (account_at b (first + c)) (account_at d (first + c))) one.net
            (now s (subst (λ (n : Network). HaveSent n count s waves c) (sym one.net) have) (subst (λ (n : Network). AreLast n count s (sent_last every cells c)) (sym one.net) last)))

-- one place more is filled
pub filled_more : (xs : List ℤ) (i : ℕ) (z : ℤ) (f : ℕ → ℤ) → i < length xs → ((k : ℕ) → k < i → slice_index_or xs k (pos 0) ≡ f k) → z ≡ f i
    → (k : ℕ) → k < i + 1 → slice_index_or (slice_set xs i z) k (pos 0) ≡ f k
filled_more xs i z f inside before here k h = by (cases_lt k i)
  where
    by : (k < i) ⊎ (i ≤ k) → slice_index_or (slice_set xs i z) k (pos 0) ≡ f k
    by (inl less) = get_or-set_other xs i k z (pos 0) (λ e. absurd (omega arith)) ∙ before k less
    by (inr least) =
        let at : i ≡ k = omega arith in
        subst (λ (n : ℕ). slice_index_or (slice_set xs i z) n (pos 0) ≡ f n) at (get_or-set_same xs i z (pos 0) inside ∙ here)
