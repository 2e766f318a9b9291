-- The text of a certificate: lines that end at LF, words that are parted by one space, and numbers in decimal digits
-- without a leading zero.
--
--   wdfcert 1
--   k K
--   multipliers C m1 .. mC
--   rows n r1 .. rn
--   inverse
--   (n lines of n numbers each)
--   end
use Rattle.std.specs.Prelude.{ℕ, ◌-◌, ◌^◌, ◌≤◌, zero, suc, List, [], ◌∷◌, ◌++◌, length, take, drop, All, codes, decimal, Option, None, Some}
use Rattle.wdf_check.specs.Certificate.{Certificate, HasSquareInverse}

-- a line, and the text behind it
abbrev pub line : List ℕ → List ℕ → List ℕ
line bytes rest = bytes ++ 10 ∷ rest

-- a space and then a number, for each, and the text behind them
abbrev pub spaced : List ℕ → List ℕ → List ℕ
spaced [] rest = rest
spaced (n ∷ ns) rest = 32 ∷ (decimal n ++ spaced ns rest)

-- a line of a word, how many numbers there are, and the numbers
abbrev pub counted : List ℕ → List ℕ → List ℕ → List ℕ
counted word numbers rest = word ++ 32 ∷ (decimal (length numbers) ++ spaced numbers (10 ∷ rest))

-- a line of numbers
abbrev pub number_line : List ℕ → List ℕ → List ℕ
number_line [] rest = 10 ∷ rest
number_line (n ∷ ns) rest = decimal n ++ spaced ns (10 ∷ rest)

-- so many lines of n numbers each, the numbers row by row
abbrev pub number_lines : ℕ → ℕ → List ℕ → List ℕ → List ℕ
number_lines zero n numbers rest = rest
number_lines (suc lines) n numbers rest = number_line (take n numbers) (number_lines lines n (drop n numbers) rest)

-- the text of a certificate, and the text behind it
abbrev pub cert_text_before : Certificate → List ℕ → List ℕ
cert_text_before c rest =
    line (codes "wdfcert 1")
    (line (codes "k " ++ decimal c.k)
    (counted (codes "multipliers") c.multipliers
    (counted (codes "rows") c.rows
    (line (codes "inverse")
    (number_lines (length c.rows) (length c.rows) c.inverse
    (line (codes "end") rest))))))

abbrev pub cert_text : Certificate → List ℕ
cert_text c = cert_text_before c []

-- a file: one such text, or two directly after each other
abbrev pub file_text : Certificate → Option Certificate → List ℕ
file_text first None = cert_text first
file_text first (Some second) = cert_text_before first (cert_text second)

-- the ranges of its numbers
pub record IsInRange (c : Certificate) : Type 0 where
  pub width : (1 ≤ c.k) × (c.k ≤ 20)
  pub some_multipliers : 1 ≤ length c.multipliers
  pub few_multipliers : length c.multipliers ≤ 127
  pub multipliers : All (λ (m : ℕ). (1 ≤ m) × (m ≤ 2 ^ c.k - 1)) c.multipliers
  pub few_rows : length c.rows ≤ 64
  pub rows : All (λ (r : ℕ). r ≤ 8191) c.rows

abbrev pub AreInRange : Certificate → Option Certificate → Type 0
AreInRange first None = IsInRange first
AreInRange first (Some second) = IsInRange first × IsInRange second

-- what the type of a certificate keeps
abbrev pub AreSquare : Certificate → Option Certificate → Type 0
AreSquare first None = HasSquareInverse first
AreSquare first (Some second) = HasSquareInverse first × HasSquareInverse second
