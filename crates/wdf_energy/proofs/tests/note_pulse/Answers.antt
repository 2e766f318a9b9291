-- The waves of the pulse have room, and the totals of its account fit.
use Rattle.std.proofs.Common.{rules, ◌≡◌, ℕ, zero, suc, ◌+◌, ◌*◌, ◌<◌, ◌==◌, if◌then◌else◌, List, [], ◌∷◌, length, refl, ap, subst, sym, ◌∙◌, arith}
use Rattle.std.specs.Prelude.{ℤ, pos, neg_ℤ}
use Rattle.wdf_law.specs.Network.{elements, source_numbers, absorbing_numbers}
use Rattle.wdf_quant.specs.WorkedWalks.{one_source}
use Rattle.wdf_energy.specs.Accounts.{AccountOf, FitTotals, HasRoom, LedgerOf, account_at, opened, totals_of, wave_at}
use Rattle.wdf_energy.specs.Blocks.{AreLast, HasRoomFor, HaveSent, frame_column, in_column}
use Rattle.wdf_energy.proofs.BlockLemmas.{after-frames, after-only, room-shown}
use Rattle.wdf_energy.proofs.tests.note_pulse.Goals as goal

abbrev values : List (List ℤ)
values = (pos 1 ∷ pos 16384 ∷ []) ∷ (pos 2 ∷ pos 0 ∷ []) ∷ (pos 3 ∷ pos 0 ∷ []) ∷ []

abbrev waves : List (List ℤ)
waves =
    (pos 4 ∷ neg_ℤ (pos 5462) ∷ []) ∷ (pos 5 ∷ pos 10922 ∷ []) ∷ (pos 6 ∷ pos 7281 ∷ []) ∷ (pos 7 ∷ pos 7281 ∷ [])
    ∷ (pos 8 ∷ neg_ℤ (pos 2426) ∷ []) ∷ (pos 9 ∷ neg_ℤ (pos 2426) ∷ []) ∷ []

abbrev last : List ℤ
last = neg_ℤ (pos 2426) ∷ pos 1214 ∷ neg_ℤ (pos 2426) ∷ []

-- what is sent: in the last frame to the capacitor too
abbrev sent : ℕ → ℕ → ℤ
sent f j = if j == 1 then wave_at last 1 else in_column waves 1 (f * 2 + (if j == 0 then 0 else 1))

abbrev by : ℕ → List ℤ
by = frame_column 1 values 1

abbrev account : AccountOf
account = after-frames one_source by sent (opened one_source) 3

are-sent : HaveSent one_source 3 sent waves 1
are-sent f zero here few = refl
are-sent f (suc zero) here few = refl
are-sent f (suc (suc i)) here few = absurd (omega arith)

are-last : AreLast one_source 3 sent (wave_at last)
are-last f zero is few = let e : f ≡ 2 = omega arith in λ i. in_column waves 1 (sym e i * 2 + 0)
are-last f (suc zero) is few = refl
are-last f (suc (suc zero)) is few = let e : f ≡ 2 = omega arith in λ i. in_column waves 1 (sym e i * 2 + 1)
are-last f (suc (suc (suc j))) is few = absurd (omega arith)

abbrev ledger : LedgerOf
ledger = record { net = one_source; accounts = opened one_source ∷ opened one_source ∷ [] }

two : 0 < length ledger.accounts
two = omega arith

has-room : HasRoom account
has-room = search rules

fits : FitTotals (totals_of one_source account)
fits = search rules

-- by the ledger that the call is given
whole : (l : LedgerOf) → l.net ≡ one_source → l.accounts ≡ opened one_source ∷ opened one_source ∷ [] → ledger ≡ l
whole l net accounts = sym (λ i. record { net = net i; accounts = accounts i })

pub note_block-requires : goal.note_block-requires
note_block-requires c =
    let is = whole c.args.ledger.now c.requires.net c.requires.accounts in
    let some : 0 < length c.args.ledger.now.accounts = subst (λ (l : LedgerOf). 0 < length l.accounts) is two in
    let room = room-shown one_source 3 by sent waves 1 (opened one_source) are-sent has-room in (
      omega arith,
      (
        omega arith,
        (
          some,
          (
            omega arith,
            (
              omega arith,
              (
                ap (λ (l : LedgerOf). 3 * length (source_numbers l.net)) is,
                (
                  ap (λ (l : LedgerOf). 3 * length (absorbing_numbers l.net)) is,
                  (
                    ap (λ (l : LedgerOf). length (elements l.net)) is,
                    subst (λ (l : LedgerOf). HasRoomFor l.net 3 (frame_column (length (source_numbers l.net)) values 1) waves 1 (account_at l 0)) is room,
                  ),
                ),
              ),
            ),
          ),
        ),
      ),
    )

pub returns-clause-fits : goal.returns-clause-fits
returns-clause-fits c =
    let is = whole c.args.ledger.now c.requires.net c.requires.accounts in
    let now = c.args.ledger.now in
    let new = c.note_block.new.self in
    let noted = c.note_block.ensures.account sent (subst (λ (l : LedgerOf). HaveSent l.net 3 sent waves 1) is are-sent) (subst (λ (l : LedgerOf). AreLast l.net 3 sent (wave_at last)) is are-last) in
    let one : account_at new 0 ≡ account
    = after-only now.net 3 (frame_column (length (source_numbers now.net)) values 1) sent (account_at now 0) (account_at new 0) noted
    ∙ sym (ap (λ (l : LedgerOf). after-frames l.net (frame_column (length (source_numbers l.net)) values 1) sent (account_at l 0) 3) is) in
    let net : new.net ≡ one_source = c.note_block.ensures.net ∙ c.requires.net in
    subst FitTotals (sym (λ i. totals_of (net i) (one i))) fits
