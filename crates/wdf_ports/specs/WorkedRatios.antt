-- Ratios worked by hand and by another program, against which the definitions are checked.
use Rattle.std.specs.Prelude.{◌≡◌, ℕ, ℤ, pos, negsuc, false}
use Rattle.wdf_text.specs.DecimalNumber.{DecimalNumber}
use Rattle.wdf_law.specs.declared.kind.Kind.{Kind}
use Rattle.wdf_law.specs.declared.kind.Kind.TheVariants.{Res, Cap, Ind, Src}
use Rattle.wdf_law.specs.declared.connection.Connection.TheVariants.{Series, Parallel}
use Rattle.wdf_law.specs.PortOutline.{leaf_port, ratio_of}
use Rattle.wdf_ports.specs.PortRatio.{port_resistance, ratio_over}
use Rattle.wdf_ports.specs.PortRatios.{joined_ports}

-- the ratio of an element of the value digits·10^exp, at a rate, over a source of some ohms
abbrev pub IsRatioOf : (rate : ℕ) → Kind → (digits : ℕ) → (exp : ℤ) → (ohms : DecimalNumber) → (ratio : ℕ) → Type 0
IsRatioOf rate kind digits exp ohms ratio = ratio_over (port_resistance rate kind (record { digits = digits; exp = exp })) ohms ≡ ratio

abbrev pub one_ohm : DecimalNumber
one_ohm = record { digits = 1; exp = pos 0 }

abbrev pub six_hundred_ohms : DecimalNumber
six_hundred_ohms = record { digits = 6; exp = pos 2 }

pub record AreWorkedRatios : Type 0 where
  -- the source itself
  pub source : IsRatioOf 50000 Src 1 (pos 0) one_ohm 1099511627776
  -- at 50,000 frames per second, 10 microfarads and 10 microhenries have ports of one ohm
  pub capacitor : IsRatioOf 50000 Cap 1 (negsuc 4) one_ohm 1099511627776
  pub inductor : IsRatioOf 50000 Ind 1 (negsuc 4) one_ohm 1099511627776
  -- a ladder of 600 ohms at 44,100 frames per second: 47 and 100 nanofarads, 30 and 33 millihenries
  pub shunt_47 : IsRatioOf 44100 Cap 47 (negsuc 8) six_hundred_ohms 442060930098
  pub shunt_100 : IsRatioOf 44100 Cap 1 (negsuc 6) six_hundred_ohms 207768637146
  pub coil_30 : IsRatioOf 44100 Ind 3 (negsuc 1) six_hundred_ohms 4848846278492
  pub coil_33 : IsRatioOf 44100 Ind 33 (negsuc 2) six_hundred_ohms 5333730906341
  -- 0.4 picoohm is too low, 0.5 is one unit, half up, and 5 megohm is too high
  pub too_low : IsRatioOf 48000 Res 4 (negsuc 12) one_ohm 0
  pub one_unit : IsRatioOf 48000 Res 5 (negsuc 12) one_ohm 1
  pub too_high : IsRatioOf 48000 Res 5 (pos 6) one_ohm 5497558138880000000
  -- half of a port in parallel with its like, rounded down, and twice of it in series
  pub parallel : ratio_of (joined_ports Parallel (leaf_port 1 Res false 7) (leaf_port 2 Res false 7)) ≡ 3
  pub series : ratio_of (joined_ports Series (leaf_port 1 Res false 7) (leaf_port 2 Res false 7)) ≡ 14
