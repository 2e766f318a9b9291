-- Residues: the least natural numbers that whole numbers differ from by a multiple of p, a positive number.
use Rattle.std.specs.Prelude.{ℕ, ◌-◌, ◌%◌, ℤ, pos, negsuc}

-- the number in 0..p-1 that z differs from by a multiple of p
abbrev pub residue_by : ℕ → ℤ → ℕ
residue_by p (pos n) = n % p
residue_by p (negsuc n) = p - 1 - n % p
