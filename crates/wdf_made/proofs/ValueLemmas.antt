-- The values of elements are in range.
use Rattle.std.proofs.Common.{◌≡◌, ℕ, ◌+◌, ◌%◌, ◌≤◌, Bool, true, false, refl, arith}
use Rattle.std.specs.Prelude.{negsuc, ◌==◌}
use Rattle.wdf_netlist.specs.Circuits.{IsElementValue}
use Rattle.wdf_made.specs.Generator.{word_at}
use Rattle.wdf_made.specs.Ladder.{in_one_form, is_capacitor, made_value, termination, value_from}

-- of nanofarads
farads : (n : ℕ) → 1 ≤ n → n ≤ 999 → IsElementValue (in_one_form n (negsuc 8))
farads n some few = by (n % 100 == 0) (n % 10 == 0) refl refl
  where
    by : (s t : Bool) → (n % 100 == 0) ≡ s → (n % 10 == 0) ≡ t → IsElementValue (in_one_form n (negsuc 8))
    by true t e f = rw e (record { some = grind arith; few = grind arith; last = grind arith; low = grind arith; high = grind arith })
    by false true e f = rw (e, f) (record { some = grind arith; few = grind arith; last = grind arith; low = grind arith; high = grind arith })
    by false false e f = rw (e, f) (record { some = some; few = grind arith; last = grind arith; low = grind arith; high = grind arith })

-- of millihenries
henries : (n : ℕ) → 1 ≤ n → n ≤ 999 → IsElementValue (in_one_form n (negsuc 2))
henries n some few = by (n % 100 == 0) (n % 10 == 0) refl refl
  where
    by : (s t : Bool) → (n % 100 == 0) ≡ s → (n % 10 == 0) ≡ t → IsElementValue (in_one_form n (negsuc 2))
    by true t e f = rw e (record { some = grind arith; few = grind arith; last = grind arith; low = grind arith; high = grind arith })
    by false true e f = rw (e, f) (record { some = grind arith; few = grind arith; last = grind arith; low = grind arith; high = grind arith })
    by false false e f = rw (e, f) (record { some = some; few = grind arith; last = grind arith; low = grind arith; high = grind arith })

pub value_within : (place word : ℕ) → IsElementValue (value_from place word)
value_within place word = by (is_capacitor place) refl
  where
    by : (c : Bool) → is_capacitor place ≡ c → IsElementValue (value_from place word)
    by true e = rw e (farads (1 + word % 999) (omega arith) (grind arith))
    by false e = rw e (henries (1 + word % 99) (omega arith) (grind arith))

pub made_values : (seed place : ℕ) → IsElementValue (made_value seed place)
made_values seed place = value_within place (word_at seed place)

pub termination_value : IsElementValue termination
termination_value = record { some = omega arith; few = omega arith; last = omega arith; low = grind arith; high = grind arith }
