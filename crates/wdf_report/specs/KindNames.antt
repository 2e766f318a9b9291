-- The names of kinds of faults, as fault lines spell them.
use Rattle.std.specs.Prelude.{ℕ, List, codes}
use Rattle.wdf_netlist.specs.declared.net_kind.NetKind.{NetKind}
use Rattle.wdf_netlist.specs.declared.net_kind.NetKind.TheVariants as netlists
use Rattle.wdf_wav.specs.declared.wav_error.WavKind.{WavKind}
use Rattle.wdf_wav.specs.declared.wav_error.WavKind.TheVariants as waves
use Rattle.wdf_report.specs.declared.usage_kind.UsageKind.{UsageKind}
use Rattle.wdf_report.specs.declared.usage_kind.UsageKind.TheVariants as usages

abbrev pub usage_name : UsageKind → List ℕ
usage_name usages.NoCommand = codes "NoCommand"
usage_name usages.UnknownCommand = codes "UnknownCommand"
usage_name usages.NoEquals = codes "NoEquals"
usage_name usages.UnknownOperand = codes "UnknownOperand"
usage_name usages.DoubleOperand = codes "DoubleOperand"
usage_name usages.EmptyValue = codes "EmptyValue"
usage_name usages.BadNumber = codes "BadNumber"
usage_name usages.OutOfRange = codes "OutOfRange"
usage_name usages.MissingOperand = codes "MissingOperand"

abbrev pub netlist_name : NetKind → List ℕ
netlist_name netlists.Syntax = codes "Syntax"
netlist_name netlists.DoubleRate = codes "DoubleRate"
netlist_name netlists.DoubleSource = codes "DoubleSource"
netlist_name netlists.DoubleLoad = codes "DoubleLoad"
netlist_name netlists.DoubleRoot = codes "DoubleRoot"
netlist_name netlists.InputFirst = codes "InputFirst"
netlist_name netlists.RateRange = codes "RateRange"
netlist_name netlists.BadName = codes "BadName"
netlist_name netlists.DoubleName = codes "DoubleName"
netlist_name netlists.Shorted = codes "Shorted"
netlist_name netlists.BadValue = codes "BadValue"
netlist_name netlists.UnknownUnit = codes "UnknownUnit"
netlist_name netlists.ZeroValue = codes "ZeroValue"
netlist_name netlists.TooManyElements = codes "TooManyElements"
netlist_name netlists.TooManyStates = codes "TooManyStates"
netlist_name netlists.TooManyInputs = codes "TooManyInputs"
netlist_name netlists.NoRate = codes "NoRate"
netlist_name netlists.NoSource = codes "NoSource"
netlist_name netlists.NoLoad = codes "NoLoad"
netlist_name netlists.LoadUnknown = codes "LoadUnknown"
netlist_name netlists.LoadNotResistor = codes "LoadNotResistor"
netlist_name netlists.RootUnknown = codes "RootUnknown"
netlist_name netlists.NoBranch = codes "NoBranch"
netlist_name netlists.EmptyBranch = codes "EmptyBranch"

abbrev pub wave_name : WavKind → List ℕ
wave_name waves.NotRiff = codes "NotRiff"
wave_name waves.NotWave = codes "NotWave"
wave_name waves.ShortHead = codes "ShortHead"
wave_name waves.NoData = codes "NoData"
wave_name waves.TooManyChunks = codes "TooManyChunks"
wave_name waves.DataFirst = codes "DataFirst"
wave_name waves.DoubleFmt = codes "DoubleFmt"
wave_name waves.BadFmtSize = codes "BadFmtSize"
wave_name waves.BadTag = codes "BadTag"
wave_name waves.BadChannels = codes "BadChannels"
wave_name waves.BadBits = codes "BadBits"
wave_name waves.BadAlign = codes "BadAlign"
wave_name waves.BadSubformat = codes "BadSubformat"
wave_name waves.UnknownLength = codes "UnknownLength"
