-- Ratios counted in units of 2^-40.
use Rattle.std.specs.Prelude.{◌≡◌, ℕ, suc, ◌+◌, ◌*◌, ◌/◌, ◌^◌, ℤ, pos, negsuc, ⊤}
use Rattle.wdf_frac.specs.Fraction.{Fraction}
use Rattle.wdf_frac.specs.declared.scaled.Scaled.{Scaled}
use Rattle.wdf_frac.specs.declared.scaled.Scaled.TheVariants.{Low, High, At}

-- the nearest whole number to top/bottom, half up: floor(top/bottom + 1/2)
abbrev pub nearest : ℕ → ℕ → ℕ
nearest top bottom = (2 * top + bottom) / (2 * bottom)

-- the nearest whole number, half up, to 2^40·num·10^tens/den: how many units num/den·10^tens has; negsuc t is -(t+1)
abbrev pub units_of : (num den : ℕ) → ℤ → ℕ
units_of num den (pos t) = nearest (2 ^ 40 * 10 ^ t * num) den
units_of num den (negsuc t) = nearest (2 ^ 40 * num) (10 ^ suc t * den)

-- f has as many units as num/den, at each power of ten
abbrev pub HasUnitsOf : Fraction → ℕ → ℕ → Type 0
HasUnitsOf f num den = (tens : ℤ) → units_of f.num f.den tens ≡ units_of num den tens

-- a fact on the whole number of an `At`
abbrev pub IfAt : Scaled → (ℕ → Type 0) → Type 0
IfAt Low P = ⊤
IfAt High P = ⊤
IfAt (At y) P = P y
