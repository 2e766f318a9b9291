-- The exit status that stands for each answer.
use Rattle.std.specs.Prelude.{ℕ}
use Rattle.wdf_report.specs.declared.status.Status.{Status}
use Rattle.wdf_report.specs.declared.status.Status.TheVariants as answers

abbrev pub code_of : Status → ℕ
code_of answers.Done = 0
code_of (answers.Usage _ _) = 1
code_of (answers.NetText _) = 2
code_of (answers.NotSeriesParallel _ _ _) = 3
code_of (answers.PortRange _ _ _) = 4
code_of (answers.Bound _ _ _ _ _) = 5
code_of (answers.BadWave _ _) = 6
code_of (answers.RateMismatch _ _) = 7
code_of (answers.TooLong _ _) = 8
code_of (answers.Amplitude _ _ _) = 9
code_of (answers.Truncated _) = 10
code_of (answers.Unobservable _ _ _) = 11
code_of (answers.CertText _ _) = 12
code_of (answers.CertWrong _ _) = 13
code_of answers.ReadFault = 14
code_of answers.WriteFault = 15
code_of answers.NoteFault = 16
code_of answers.LoadFault = 17
code_of (answers.Missing _) = 18
code_of (answers.FileTooLarge _) = 19
code_of answers.NoMemory = 20
code_of (answers.ChannelCount _ _) = 23
