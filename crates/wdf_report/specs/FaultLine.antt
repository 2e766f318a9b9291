-- The line that says why the program did not do its work: `wdf: `, the exit status and the text of the answer, ended by LF.
-- Where all was done there is none.
--
--   wdf: 1 usage word W KIND
--   wdf: 2 netlist line L column C KIND [NAME]
--   wdf: 3 not series-parallel [branch X ]element NAME core N
--   wdf: 4 port range [branch X ]element NAME low, or high
--   wdf: 5 bound [branch X ]element NAME word need N limit M, or ratio for word
--   wdf: 6 wave offset N KIND
--   wdf: 7 rate netlist N wave M
--   wdf: 8 too long frames N limit M
--   wdf: 9 amplitude frame F channel C sample S
--   wdf: 10 truncated frames N
--   wdf: 11 unobservable [branch X ]state NAME
--   wdf: 12 certificate offset N syntax, or range
--   wdf: 13 certificate wrong [branch X ]net at N ours A theirs B, or size have A want B, or count have A want B,
--           or row N, or product row R column C got G
--   wdf: 14 read fault
--   wdf: 15 write fault
--   wdf: 16 note fault
--   wdf: 17 load fault
--   wdf: 18 missing word W
--   wdf: 19 file too large word W
--   wdf: 20 no memory
--   wdf: 23 channels have A want B
use Rattle.std.specs.Prelude.{◌≢◌, ℕ, if◌then◌else◌, ◌==◌, List, [], ◌∷◌, ◌++◌, length, Option, None, Some, codes, decimal}
use Rattle.std.specs.Fmt.{signed_decimal}
use Rattle.wdf_law.specs.declared.side.Side.{Side}
use Rattle.wdf_law.specs.declared.side.Side.TheVariants as sides
use Rattle.wdf_check.specs.declared.cert_fault.CertFault.{CertFault}
use Rattle.wdf_check.specs.declared.cert_fault.CertFault.TheVariants as faults
use Rattle.wdf_report.specs.declared.status.Status.{Status}
use Rattle.wdf_report.specs.declared.status.Status.TheVariants as answers
use Rattle.wdf_report.specs.KindNames.{usage_name, netlist_name, wave_name}
use Rattle.wdf_report.specs.StatusCode.{code_of}

-- ---- parts of texts

-- of a lattice, the branch
abbrev pub branch_text : Side → List ℕ
branch_text sides.Whole = []
branch_text sides.A = codes "branch A "
branch_text sides.B = codes "branch B "

-- where it is, and at which element
abbrev pub element_text : Side → List ℕ → List ℕ
element_text side name = branch_text side ++ codes "element " ++ name

-- a name, where there is one
abbrev pub name_text : Option (List ℕ) → List ℕ
name_text None = []
name_text (Some name) = codes " " ++ name

-- why a certificate is refused
abbrev pub refusal_text : CertFault → List ℕ
refusal_text (faults.OtherNet at ours theirs) = codes "net at " ++ decimal at ++ codes " ours " ++ decimal ours ++ codes " theirs " ++ decimal theirs
refusal_text (faults.WrongSize have want) = codes "size have " ++ decimal have ++ codes " want " ++ decimal want
refusal_text (faults.WrongCount have want) = codes "count have " ++ decimal have ++ codes " want " ++ decimal want
refusal_text (faults.BadRow row) = codes "row " ++ decimal row
refusal_text (faults.WrongProduct row col got) = codes "product row " ++ decimal row ++ codes " column " ++ decimal col ++ codes " got " ++ decimal got
refusal_text faults.NoMemory = []

-- ---- the text of each answer

abbrev pub fault_text : Status → List ℕ
fault_text answers.Done = []
fault_text (answers.Usage word kind) = codes "usage word " ++ decimal word ++ codes " " ++ usage_name kind
fault_text (answers.NetText fault) = codes "netlist line " ++ decimal fault.line ++ codes " column " ++ decimal fault.column ++ codes " " ++ netlist_name fault.kind ++ name_text fault.name
fault_text (answers.NotSeriesParallel side element core) = codes "not series-parallel " ++ element_text side element ++ codes " core " ++ decimal (length core)
fault_text (answers.PortRange side element low) = codes "port range " ++ element_text side element ++ (if low then codes " low" else codes " high")
fault_text (answers.Bound side element ratio need limit) =
    codes "bound " ++ element_text side element ++ (if ratio then codes " ratio" else codes " word") ++ codes " need " ++ decimal need ++ codes " limit " ++ decimal limit
fault_text (answers.BadWave kind at) = codes "wave offset " ++ decimal at ++ codes " " ++ wave_name kind
fault_text (answers.RateMismatch netlist wave) = codes "rate netlist " ++ decimal netlist ++ codes " wave " ++ decimal wave
fault_text (answers.TooLong frames limit) = codes "too long frames " ++ decimal frames ++ codes " limit " ++ decimal limit
fault_text (answers.Amplitude frame channel sample) = codes "amplitude frame " ++ decimal frame ++ codes " channel " ++ decimal channel ++ codes " sample " ++ signed_decimal sample
fault_text (answers.Truncated frames) = codes "truncated frames " ++ decimal frames
fault_text (answers.Unobservable side element kernel) = codes "unobservable " ++ branch_text side ++ codes "state " ++ element
fault_text (answers.CertText at range) = codes "certificate offset " ++ decimal at ++ (if range then codes " range" else codes " syntax")
fault_text (answers.CertWrong side fault) = codes "certificate wrong " ++ branch_text side ++ refusal_text fault
fault_text answers.ReadFault = codes "read fault"
fault_text answers.WriteFault = codes "write fault"
fault_text answers.NoteFault = codes "note fault"
fault_text answers.LoadFault = codes "load fault"
fault_text (answers.Missing word) = codes "missing word " ++ decimal word
fault_text (answers.FileTooLarge word) = codes "file too large word " ++ decimal word
fault_text answers.NoMemory = codes "no memory"
fault_text (answers.ChannelCount have want) = codes "channels have " ++ decimal have ++ codes " want " ++ decimal want

-- ---- the line

abbrev pub fault_line_of : Status → List ℕ
fault_line_of status = if code_of status == 0 then [] else codes "wdf: " ++ decimal (code_of status) ++ codes " " ++ fault_text status ++ 10 ∷ []

-- A certificate is never refused for want of memory: that is an answer of its own.
abbrev pub HasFaultLine : Status → Type 0
HasFaultLine (answers.CertWrong side fault) = fault ≢ faults.NoMemory
HasFaultLine _ = Unit {0}
