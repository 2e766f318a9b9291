-- The ledger as clauses see it: its network and, for each channel, the sums that it keeps.
use Rattle.std.specs.Prelude.{ℕ, ◌+◌, ◌<◌, ◌^◌, ℤ, pos, List, [], ◌∷◌, map, All, get_or, slice_set, slice_index_or, refl}
use Rattle.std.specs.List.{sum_by}
use Rattle.std.specs.Coded.{Coded, code_by, coded×, coded_ℕ, coded_ℤ, coded_list}
use Rattle.wdf_algebra.specs.Squares.{square}
use Rattle.wdf_law.specs.Network.{Network, reactances, source_numbers, absorbing_numbers}
use Rattle.wdf_law.specs.NetworkCode.{network_code}
use Rattle.wdf_law.specs.Step.{Frame, sent_in}
use Rattle.wdf_law.specs.Run.{at_rest}
use Rattle.wdf_quant.specs.PortBound.{number_at}
use Rattle.wdf_energy.specs.declared.totals.Totals.{Totals}
use Rattle.wdf_energy.specs.Totals.{part}

-- what a ledger keeps of a channel
pub record AccountOf : Type 0 where
  -- the sum of e² over the sources and the frames
  pub incident : ℕ
  -- for each resistor and source, in netlist order, the sum of the squares of the waves that it was sent
  pub squares : List ℕ
  -- the waves that the reactances were sent last, in netlist order, 0 before the first frame
  pub state : List ℤ

pub record LedgerOf : Type 0 where
  pub net : Network
  pub accounts : List AccountOf

-- before the first frame
abbrev pub opened : Network → AccountOf
opened n = record { incident = 0; squares = map (λ (j : ℕ). 0) (absorbing_numbers n); state = at_rest n }

abbrev pub account_at : LedgerOf → (channel : ℕ) → AccountOf
account_at l channel = get_or l.accounts channel (opened l.net)

-- ---- a frame

-- sums with the squares of the waves that these elements are sent
abbrev pub with_squares : (ℕ → ℤ) → List ℕ → List ℕ → List ℕ
with_squares sent [] ss = []
with_squares sent (j ∷ js) [] = []
with_squares sent (j ∷ js) (s ∷ ss) = (s + square (sent j)) ∷ with_squares sent js ss

-- an account with one frame more, by the values of the sources and the wave that each element is sent
abbrev pub noted : Network → List ℤ → (ℕ → ℤ) → AccountOf → AccountOf
noted n es sent a = record {
  incident = a.incident + sum_by square es;
  squares = with_squares sent (absorbing_numbers n) a.squares;
  state = map sent (reactances n);
}

-- the wave of the element j in a list by the elements' numbers
abbrev pub wave_at : List ℤ → ℕ → ℤ
wave_at downs j = slice_index_or downs j (pos 0)

-- a ledger with one frame more of a channel
abbrev pub noted_in : LedgerOf → (channel : ℕ) → (es downs : List ℤ) → LedgerOf
noted_in l channel es downs = record { net = l.net; accounts = slice_set l.accounts channel (noted l.net es (wave_at downs) (account_at l channel)) }

-- no sum of squares reaches 2^124
pub record HasRoom (a : AccountOf) : Type 0 where
  pub incident : a.incident < 2 ^ 124
  pub squares : All (λ (s : ℕ). s < 2 ^ 124) a.squares

-- ---- all frames of a run

abbrev pub all_noted : Network → List (ℕ → ℤ) → List Frame → AccountOf → AccountOf
all_noted n [] ss a = a
all_noted n (e ∷ es) [] a = a
all_noted n (e ∷ es) (s ∷ ss) a = all_noted n es ss (noted n (map e (source_numbers n)) (sent_in n s) a)

-- ---- totals

-- the sum of floor(s·2^40/p) over elements, from their list and that of a number s for each
abbrev pub parts_of : Network → List ℕ → List ℕ → ℕ
parts_of n [] ss = 0
parts_of n (j ∷ js) [] = 0
parts_of n (j ∷ js) (s ∷ ss) = part s (number_at n j) + parts_of n js ss

abbrev pub totals_of : Network → AccountOf → Totals
totals_of n a = record {
  incident = a.incident;
  absorbed = parts_of n (absorbing_numbers n) a.squares;
  stored = parts_of n (reactances n) (map square a.state);
}

-- they are numbers of 128 bits
pub record FitTotals (t : Totals) : Type 0 where
  pub absorbed : t.absorbed < 2 ^ 128
  pub stored : t.stored < 2 ^ 128

-- ---- the code that the model of its type wants

abbrev pub AccountParts : Type 0
AccountParts = ℕ × (List ℕ × List ℤ)

abbrev pub account_parts : AccountOf → AccountParts
account_parts a = (a.incident, (a.squares, a.state))

abbrev pub account_from : AccountParts → AccountOf
account_from p = record { incident = p.0; squares = p.1.0; state = p.1.1 }

abbrev pub account_code : Coded AccountOf
account_code = code_by AccountParts (coded× coded_ℕ (coded× (coded_list coded_ℕ) (coded_list coded_ℤ))) account_parts account_from (λ _. refl)

abbrev pub ledger_parts : LedgerOf → Network × List AccountOf
ledger_parts l = (l.net, l.accounts)

abbrev pub ledger_from : Network × List AccountOf → LedgerOf
ledger_from p = record { net = p.0; accounts = p.1 }

abbrev pub ledger_code : Coded LedgerOf
ledger_code = code_by (Network × List AccountOf) (coded× network_code (coded_list account_code)) ledger_parts ledger_from (λ _. refl)
