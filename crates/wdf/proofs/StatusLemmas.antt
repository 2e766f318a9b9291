-- Cases on the answers.
use Rattle.std.proofs.Common.{◌≡◌, false, inl, inr, refl}
use Rattle.std.specs.Prelude.{◌≢◌, ◌⊎◌}
use Rattle.std.proofs.lemmas.Bool.{true≢false}
use Rattle.wdf_report.specs.declared.status.Status.{Status}
use Rattle.wdf_report.specs.declared.status.Status.TheVariants.{Done, Usage, NetText, NotSeriesParallel, PortRange, Bound, BadWave, RateMismatch, TooLong, Amplitude, Truncated, Unobservable, CertText, CertWrong, ReadFault, WriteFault, NoteFault, LoadFault, Missing, FileTooLarge, NoMemory, ChannelCount}
use Rattle.wdf.specs.AnswerLaws.{rests_on_told}

-- all was done, or not
pub is_done : (s : Status) → (s ≡ Done) ⊎ (s ≢ Done)
is_done Done = inl refl
is_done (Usage word kind) = inr (λ e. cc)
is_done (NetText fault) = inr (λ e. cc)
is_done (NotSeriesParallel side element core) = inr (λ e. cc)
is_done (PortRange side element low) = inr (λ e. cc)
is_done (Bound side element ratio need limit) = inr (λ e. cc)
is_done (BadWave kind at) = inr (λ e. cc)
is_done (RateMismatch netlist wave) = inr (λ e. cc)
is_done (TooLong frames limit) = inr (λ e. cc)
is_done (Amplitude frame channel sample) = inr (λ e. cc)
is_done (Truncated frames) = inr (λ e. cc)
is_done (Unobservable side element kernel) = inr (λ e. cc)
is_done (CertText at range) = inr (λ e. cc)
is_done (CertWrong side fault) = inr (λ e. cc)
is_done ReadFault = inr (λ e. cc)
is_done WriteFault = inr (λ e. cc)
is_done NoteFault = inr (λ e. cc)
is_done LoadFault = inr (λ e. cc)
is_done (Missing word) = inr (λ e. cc)
is_done (FileTooLarge word) = inr (λ e. cc)
is_done NoMemory = inr (λ e. cc)
is_done (ChannelCount have want) = inr (λ e. cc)

-- of the answers that do not rest on what is told, want of memory is the only one that is no fault
pub no_memory : (s : Status) → rests_on_told s ≡ false → s ≢ LoadFault → s ≢ ReadFault → s ≢ WriteFault → s ≢ NoteFault → s ≡ NoMemory
no_memory Done e load read write note = absurd (true≢false e)
no_memory (Usage word kind) e load read write note = absurd (true≢false e)
no_memory (NetText fault) e load read write note = absurd (true≢false e)
no_memory (NotSeriesParallel side element core) e load read write note = absurd (true≢false e)
no_memory (PortRange side element low) e load read write note = absurd (true≢false e)
no_memory (Bound side element ratio need limit) e load read write note = absurd (true≢false e)
no_memory (BadWave kind at) e load read write note = absurd (true≢false e)
no_memory (RateMismatch netlist wave) e load read write note = absurd (true≢false e)
no_memory (TooLong frames limit) e load read write note = absurd (true≢false e)
no_memory (Amplitude frame channel sample) e load read write note = absurd (true≢false e)
no_memory (Truncated frames) e load read write note = absurd (true≢false e)
no_memory (Unobservable side element kernel) e load read write note = absurd (true≢false e)
no_memory (CertText at range) e load read write note = absurd (true≢false e)
no_memory (CertWrong side fault) e load read write note = absurd (true≢false e)
no_memory ReadFault e load read write note = absurd (read refl)
no_memory WriteFault e load read write note = absurd (write refl)
no_memory NoteFault e load read write note = absurd (note refl)
no_memory LoadFault e load read write note = absurd (load refl)
no_memory (Missing word) e load read write note = absurd (true≢false e)
no_memory (FileTooLarge word) e load read write note = absurd (true≢false e)
no_memory NoMemory e load read write note = refl
no_memory (ChannelCount have want) e load read write note = absurd (true≢false e)
