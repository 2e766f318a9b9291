-- The text of the ladder that is made for a seed and an order: lines of words that are parted by one space, each line
-- ended by LF. With one line for each i from 1 to the order it is
--
--   rate 48000
--   source S n0 0 600
--   c Ei nJ 0 Vn           where i is odd: J = (i - 1) / 2, and V = 1 + w mod 999
--   l Ei nJ nK Vm          where i is even: J = i / 2 - 1 and K = i / 2, and V = 1 + w mod 99
--   r L nJ 0 600           J = order / 2
--   load L
--
-- with w the word i - 1 of the seed's generator, and all numbers in decimal digits without zeros in front.
use Rattle.std.specs.Prelude.{ℕ, ◌+◌, ◌/◌, ◌%◌, if◌then◌else◌, List, [], ◌∷◌, ◌++◌, map, codes, decimal}
use Rattle.std.specs.List.{range_with_len}
use Rattle.wdf_netlist.specs.Canonical.{Words, lines_text}
use Rattle.wdf_made.specs.Generator.{word_at}
use Rattle.wdf_made.specs.Ladder.{is_capacitor, numbered_name}

-- KEYWORD WORD
abbrev pub two_words : (keyword word : List ℕ) → Words
two_words keyword word = record { first = keyword; rest = word ∷ [] }

-- KEYWORD NAME FROM TO VALUE
abbrev pub element_words : (keyword name from to value : List ℕ) → Words
element_words keyword name from to value = record { first = keyword; rest = name ∷ from ∷ to ∷ value ∷ [] }

-- nJ
abbrev pub node : (j : ℕ) → List ℕ
node j = numbered_name (codes "n") j

-- the line of the element Ei by its word: i is place + 1, so that J is place / 2 whether i is odd or even
abbrev pub rung_words : (place word : ℕ) → Words
rung_words place word =
    let name = numbered_name (codes "E") (place + 1) in
    let j = place / 2 in
    if is_capacitor place then element_words (codes "c") name (node j) (codes "0") (decimal (1 + word % 999) ++ codes "n")
    else element_words (codes "l") name (node j) (node (j + 1)) (decimal (1 + word % 99) ++ codes "m")

-- the resistor at the node nJ, and that it is the load
abbrev pub last_lines : (j : ℕ) → List Words
last_lines j = element_words (codes "r") (codes "L") (node j) (codes "0") (codes "600") ∷ two_words (codes "load") (codes "L") ∷ []

abbrev pub made_lines : (seed order : ℕ) → List Words
made_lines seed order =
    two_words (codes "rate") (codes "48000") ∷ element_words (codes "source") (codes "S") (codes "n0") (codes "0") (codes "600")
    ∷ map (λ (place : ℕ). rung_words place (word_at seed place)) (range_with_len 0 order) ++ last_lines (order / 2)

abbrev pub made_text : (seed order : ℕ) → List ℕ
made_text seed order = lines_text (made_lines seed order)
