-- Fault lines of worked answers, computed by the definition.
use Rattle.std.proofs.Common.{◌≡◌, ℕ, true, false, List, [], ◌∷◌, map, replicate, pos, negsuc, Option, Some, None, refl}
use Rattle.std.specs.Prelude.{codes}
use Rattle.std.specs.Fmt.{digits}
use Rattle.wdf_law.specs.declared.kind.Kind.TheVariants.{Res}
use Rattle.wdf_law.specs.declared.side.Side.TheVariants.{Whole, A, B}
use Rattle.wdf_law.specs.Outline.{single}
use Rattle.wdf_netlist.specs.declared.net_fault.NetFault.{NetFault}
use Rattle.wdf_netlist.specs.declared.net_kind.NetKind.{NetKind}
use Rattle.wdf_netlist.specs.declared.net_kind.NetKind.TheVariants as netlists
use Rattle.wdf_sp.specs.Reduction.{Arc}
use Rattle.wdf_wav.specs.declared.wav_error.WavKind.TheVariants as waves
use Rattle.wdf_check.specs.declared.cert_fault.CertFault.TheVariants as faults
use Rattle.wdf_report.specs.declared.usage_kind.UsageKind.TheVariants as usages
use Rattle.wdf_report.specs.declared.status.Status.{Status}
use Rattle.wdf_report.specs.declared.status.Status.TheVariants as answers
use Rattle.wdf_report.specs.FaultLine.{fault_line_of}

abbrev fault : NetKind → ℕ → ℕ → Option (List ℕ) → NetFault
fault kind line column name = record { kind = kind; line = line; column = column; name = name }

abbrev edge : Arc
edge = record { shape = single 1 Res false; from = 0; to = 1 }

-- of rows of an answer and its line
abbrev lines : List (Status × List ℕ) → List (List ℕ)
lines rows = map (λ (r : Status × List ℕ). fault_line_of r.0) rows

abbrev ended : List (Status × List ℕ) → List (List ℕ)
ended rows = map (λ (r : Status × List ℕ). r.1) rows

nothing_to_say : fault_line_of answers.Done ≡ []
nothing_to_say = refl

-- answers of worked runs
abbrev worked : List (Status × List ℕ)
worked =
    (answers.Usage 2 usages.OutOfRange, codes "wdf: 1 usage word 2 OutOfRange\n")
    ∷ (answers.Usage 1 usages.MissingOperand, codes "wdf: 1 usage word 1 MissingOperand\n")
    ∷ (answers.Usage 0 usages.NoCommand, codes "wdf: 1 usage word 0 NoCommand\n")
    ∷ (answers.NetText (fault netlists.DoubleName 3 3 (Some (codes "S"))), codes "wdf: 2 netlist line 3 column 3 DoubleName S\n")
    ∷ (answers.NetText (fault netlists.BadValue 3 9 (Some (codes "L"))), codes "wdf: 2 netlist line 3 column 9 BadValue L\n")
    ∷ (answers.NetText (fault netlists.Shorted 3 7 (Some (codes "X"))), codes "wdf: 2 netlist line 3 column 7 Shorted X\n")
    ∷ (answers.NetText (fault netlists.NoLoad 0 0 None), codes "wdf: 2 netlist line 0 column 0 NoLoad\n")
    ∷ (answers.NetText (fault netlists.InputFirst 2 1 None), codes "wdf: 2 netlist line 2 column 1 InputFirst\n")
    ∷ (answers.NotSeriesParallel Whole (codes "R1") (replicate 5 edge), codes "wdf: 3 not series-parallel element R1 core 5\n")
    ∷ (answers.NotSeriesParallel Whole (codes "X") (replicate 2 edge), codes "wdf: 3 not series-parallel element X core 2\n")
    ∷ (answers.PortRange Whole (codes "L") true, codes "wdf: 4 port range element L low\n")
    ∷ (answers.PortRange Whole (codes "L") false, codes "wdf: 4 port range element L high\n")
    ∷ (answers.Bound Whole (codes "S") false 4503599627370496 17592186044416, codes "wdf: 5 bound element S word need 4503599627370496 limit 17592186044416\n")
    ∷ (answers.Bound Whole (codes "R1") true 9223372036854775808 4611686018427387904, codes "wdf: 5 bound element R1 ratio need 9223372036854775808 limit 4611686018427387904\n")
    ∷ (answers.BadWave waves.UnknownLength 40, codes "wdf: 6 wave offset 40 UnknownLength\n")
    ∷ (answers.BadWave waves.BadTag 20, codes "wdf: 6 wave offset 20 BadTag\n")
    ∷ (answers.RateMismatch 48000 44100, codes "wdf: 7 rate netlist 48000 wave 44100\n")
    ∷ (answers.TooLong 4 3, codes "wdf: 8 too long frames 4 limit 3\n")
    ∷ (answers.Amplitude 3 0 (pos 1001), codes "wdf: 9 amplitude frame 3 channel 0 sample 1001\n")
    ∷ (answers.Truncated 2, codes "wdf: 10 truncated frames 2\n")
    ∷ (answers.Unobservable Whole (codes "C2") (2305843009213693950 ∷ 1 ∷ []), codes "wdf: 11 unobservable state C2\n")
    ∷ (answers.CertText 8 false, codes "wdf: 12 certificate offset 8 syntax\n")
    ∷ (answers.CertWrong Whole (faults.WrongProduct 0 0 1537275585305247745), codes "wdf: 13 certificate wrong product row 0 column 0 got 1537275585305247745\n")
    ∷ (answers.CertWrong Whole (faults.OtherNet 0 13 14), codes "wdf: 13 certificate wrong net at 0 ours 13 theirs 14\n")
    ∷ (answers.Missing 1, codes "wdf: 18 missing word 1\n")
    ∷ (answers.FileTooLarge 1, codes "wdf: 19 file too large word 1\n")
    ∷ (answers.ChannelCount 1 2, codes "wdf: 23 channels have 1 want 2\n")
    ∷ []

worked_lines : lines worked ≡ ended worked
unfolding digits
worked_lines = refl

-- a branch of a lattice, the other refusals of a certificate, and answers without numbers
abbrev others : List (Status × List ℕ)
others =
    (answers.NotSeriesParallel A (codes "R1") (replicate 3 edge), codes "wdf: 3 not series-parallel branch A element R1 core 3\n")
    ∷ (answers.PortRange B (codes "L") true, codes "wdf: 4 port range branch B element L low\n")
    ∷ (answers.Bound B (codes "@") true 1 2, codes "wdf: 5 bound branch B element @ ratio need 1 limit 2\n")
    ∷ (answers.Unobservable A (codes "C") [], codes "wdf: 11 unobservable branch A state C\n")
    ∷ (answers.CertText 0 true, codes "wdf: 12 certificate offset 0 range\n")
    ∷ (answers.CertWrong B (faults.WrongSize 1 2), codes "wdf: 13 certificate wrong branch B size have 1 want 2\n")
    ∷ (answers.CertWrong Whole (faults.WrongCount 1 2), codes "wdf: 13 certificate wrong count have 1 want 2\n")
    ∷ (answers.CertWrong A (faults.BadRow 7), codes "wdf: 13 certificate wrong branch A row 7\n")
    ∷ (answers.ReadFault, codes "wdf: 14 read fault\n")
    ∷ (answers.WriteFault, codes "wdf: 15 write fault\n")
    ∷ (answers.NoteFault, codes "wdf: 16 note fault\n")
    ∷ (answers.LoadFault, codes "wdf: 17 load fault\n")
    ∷ (answers.NoMemory, codes "wdf: 20 no memory\n")
    ∷ []

others_lines : lines others ≡ ended others
unfolding digits
others_lines = refl

-- numbers at the ends of their types
abbrev ends : List (Status × List ℕ)
ends =
    (answers.Usage 18446744073709551615 usages.BadNumber, codes "wdf: 1 usage word 18446744073709551615 BadNumber\n")
    ∷ (answers.Bound A (codes "abcdefghijklmnop") true 340282366920938463463374607431768211455 18446744073709551615, codes "wdf: 5 bound branch A element abcdefghijklmnop ratio need 340282366920938463463374607431768211455 limit 18446744073709551615\n")
    ∷ (answers.Amplitude 4294967295 65535 (negsuc 9223372036854775807), codes "wdf: 9 amplitude frame 4294967295 channel 65535 sample -9223372036854775808\n")
    ∷ []

ends_lines : lines ends ≡ ended ends
unfolding digits
ends_lines = refl
