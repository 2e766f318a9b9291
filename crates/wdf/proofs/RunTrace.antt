-- The stages of `run` as a chain.
use Rattle.std.proofs.Common.{◌≡◌, ℕ, List, Option, None, Some, Result, Ok, Err, refl}
use Rattle.std.specs.Prelude.{IsTrue}
use Rattle.wdf_io.specs.Files.{Files}
use Rattle.wdf_netlist.specs.Netlists.{NetlistValue}
use Rattle.wdf_lattice.specs.declared.networks.Networks.{Networks}
use Rattle.wdf_stages.specs.StageLaws.{HasOneNetlist, HasOneDesign}
use Rattle.wdf_report.specs.declared.status.Status.{Status}
use Rattle.wdf_report.specs.declared.status.Status.TheVariants.{Done, Usage, NetText, NotSeriesParallel, PortRange, Bound, BadWave, RateMismatch, TooLong, Amplitude, Truncated, Unobservable, CertText, CertWrong, ReadFault, WriteFault, NoteFault, LoadFault, Missing, FileTooLarge, NoMemory, ChannelCount}
use Rattle.wdf_words.specs.declared.order.Order.{Order}
use Rattle.wdf.specs.declared.designed.Designed.{Designed}
use Rattle.wdf.specs.World.{world}
use Rattle.wdf.specs.AnswerLaws.{rests_on_told}
use Rattle.wdf.proofs.Chains.{HasOne, Chain, one_chain, one_value, stopped, passed}
use Rattle.wdf.proofs.HeadLemmas.{headed_format}
use Rattle.wdf.proofs.EndLemmas.{ends_whole, ends_over, ends_short}
use Rattle.wdf.proofs.NetworksTrace.{NetworksTrace, one_trace, behind_networks, networks_trace, no}
use Rattle.std.specs.Prelude.{◌++◌}
use Rattle.std.proofs.Common.{ℤ, [], ap, sym, ◌∙◌, subst}
use Rattle.std.proofs.lemmas.List.{append_cancel_left}
use Rattle.wdf_wav.specs.declared.head.Head.{Head}
use Rattle.wdf_wav.specs.Header.{IsFrameFormat}
use Rattle.wdf_wav.specs.HeadLaws.{HasHead, IsOneHead}
use Rattle.wdf_wav.specs.WaveHead.{TakesHead}
use Rattle.wdf_stages.specs.declared.open_stop.OpenStop.{OpenStop}
use Rattle.wdf_stages.specs.declared.open_stop.OpenStop.TheVariants as opens
use Rattle.wdf_stages.specs.declared.bound_stop.BoundStop.{BoundStop}
use Rattle.wdf_stages.specs.declared.bound_stop.BoundStop.TheVariants as bounds
use Rattle.wdf_stages.specs.declared.plan_bounds.PlanBounds.{PlanBounds}
use Rattle.wdf_stages.specs.Opening.{Terms, terms_of, Opens}
use Rattle.wdf_stages.specs.Bounding.{AreBounded}
use Rattle.wdf_stages.specs.StageLaws.{IsOpenAnswer, IsBoundAnswer, HasOneOpening, HasOneBound}
use Rattle.wdf_frames.specs.declared.frame_stop.FrameStop.{FrameStop}
use Rattle.wdf_frames.specs.declared.frame_stop.FrameStop.TheVariants as frames_
use Rattle.wdf_frames.specs.Setting.{setting}
use Rattle.wdf_frames.specs.WaveRuns.{WritesWave}
use Rattle.wdf_frames.specs.Stops.{StopsOver, StopsShort}
use Rattle.wdf_frames.specs.Ends.{IsEndAnswer, EndsWhole, HasOneEnd}
use Rattle.wdf.specs.Statuses.{status_of_open, status_of_bound, status_of_frame}
use Rattle.wdf.specs.NetworksAnswer.{HasNetworks}
use Rattle.wdf.specs.RunAnswer.{Opened, Prepared, DoneRun, AtOpen, AtBounds, AtFrames, RefusesRun, terms_for, plan_in, setting_for}

-- ---- the head of the wave, and what is left behind it

abbrev IsOpening : Terms → (bytes : List ℕ) → Result (Head × List ℕ) OpenStop → Type 0
IsOpening t bytes (Ok (head, rest)) = Opens t (Some bytes) (Some rest) head
IsOpening t bytes (Err stop) = (left : Option (List ℕ)) × IsOpenAnswer t bytes left (Err stop)

abbrev head_answer : Result (Head × List ℕ) OpenStop → Result Head OpenStop
head_answer (Ok (head, rest)) = Ok head
head_answer (Err stop) = Err stop

abbrev lift : Result Head OpenStop → Result (Head × List ℕ) OpenStop
lift (Ok head) = Ok (head, [])
lift (Err stop) = Err stop

begins : (bytes rest : List ℕ) (head : Head) (h : TakesHead (Some bytes) (Some rest) head) → HasHead bytes head h.bytes
begins bytes rest head h = record { headed = h.headed; rest = rest; parts = h.input }

one_opening_with : HasOneOpening → IsOneHead → (t : Terms) (bytes : List ℕ) → HasOne (IsOpening t bytes)
one_opening_with one_opening one_head t bytes (Ok (head, rest)) (Ok (head', rest')) h k =
    let same = one_head bytes h.takes.bytes k.takes.bytes head head' (begins bytes rest head h.takes) (begins bytes rest' head' k.takes) in
    let text : h.takes.bytes ++ rest ≡ h.takes.bytes ++ rest' = sym h.takes.input ∙ (k.takes.input ∙ ap (λ (l : List ℕ). l ++ rest') same.1) in
    let behind : rest ≡ rest' = append_cancel_left h.takes.bytes rest rest' text in
    λ i. Ok (sym same.0 i, behind i)
one_opening_with one_opening one_head t bytes (Ok (head, rest)) (Err stop) h k =
    let same = one_opening t bytes (Some rest) k.0 (Ok head) (Err stop) h k.1 in absurd (cc)
one_opening_with one_opening one_head t bytes (Err stop) (Ok (head, rest)) h k =
    let same = one_opening t bytes h.0 (Some rest) (Err stop) (Ok head) h.1 k in absurd (cc)
one_opening_with one_opening one_head t bytes (Err stop) (Err stop') h k = ap lift (one_opening t bytes h.0 k.0 (Err stop) (Err stop') h.1 k.1)

opened_format : (t : Terms) (bytes : List ℕ) (p : Head × List ℕ) → IsOpening t bytes (Ok p) → IsFrameFormat p.0.channels p.0.bits
opened_format t bytes (head, rest) h = headed_format h.takes.bytes head h.takes.headed

-- ---- the chain

abbrev FramesTrace : Order → NetlistValue → Networks → Head → List ℕ → PlanBounds → Status → Type 0
FramesTrace o n ns head rest b = Chain (IsEndAnswer (setting ns (plan_in o head) head) rest) (λ u s. s ≡ Done) status_of_frame

abbrev BoundsTrace : Order → NetlistValue → Networks → Head × List ℕ → Status → Type 0
BoundsTrace o n ns p = Chain (IsBoundAnswer n.form ns (plan_in o p.0)) (FramesTrace o n ns p.0 p.1) status_of_bound

abbrev RunLater : (bytes : List ℕ) → Order → NetlistValue → Networks → Status → Type 0
RunLater bytes o n ns = Chain (IsOpening (terms_of n o.frames) bytes) (BoundsTrace o n ns) status_of_open

abbrev pub RunTrace : Files → List (List ℕ) → (bytes : List ℕ) → Order → Status → Type 0
RunTrace fs words bytes o = NetworksTrace fs words o (RunLater bytes o)

pub one_run : HasOneNetlist → HasOneDesign → HasOneOpening → IsOneHead → HasOneBound → HasOneEnd → (fs : Files) (words : List (List ℕ)) (bytes : List ℕ) (o : Order)
    → HasOne (RunTrace fs words bytes o)
one_run one_netlist one_design one_opening one_head one_bound one_end fs words bytes o =
    one_trace one_netlist one_design fs words o (RunLater bytes o)
    (λ n ns. one_chain (IsOpening (terms_of n o.frames) bytes) (BoundsTrace o n ns) status_of_open (one_opening_with one_opening one_head (terms_of n o.frames) bytes)
    (λ p opened. one_chain (IsBoundAnswer n.form ns (plan_in o p.0)) (FramesTrace o n ns p.0 p.1) status_of_bound (one_bound n.form ns (plan_in o p.0))
    (λ b bounded. one_chain (IsEndAnswer (setting ns (plan_in o p.0) p.0) p.1) (λ u s. s ≡ Done) status_of_frame
    (λ x y. one_end (setting ns (plan_in o p.0) p.0) p.1 x y (opened_format (terms_of n o.frames) bytes p opened))
    (λ a allowed. one_value Done))))

-- ---- from what was passed, and from where it stopped

behind_opened : (fs : Files) (words : List (List ℕ)) (bytes : List ℕ) (left' written written' noted noted' : Option (List ℕ)) (o : Order) (between : Option (List ℕ)) (h : Opened (world words (Some fs) (Some bytes) left' written written' noted noted') o between) (s : Status)
    → ((rest : List ℕ) → between ≡ Some rest → BoundsTrace o h.design.netlist h.design.networks (h.head, rest) s) → RunTrace fs words bytes o s
behind_opened fs words bytes left' written written' noted noted' o None h s next = absurd h.opens.takes.input
behind_opened fs words bytes left' written written' noted noted' o (Some rest) h s next =
    behind_networks fs words o (RunLater bytes o) s h.design h.networks
    (passed (IsOpening (terms_for o h.design) bytes) (BoundsTrace o h.design.netlist h.design.networks) status_of_open (h.head, rest) s h.opens (next rest refl))

behind_bounds : (fs : Files) (words : List (List ℕ)) (bytes : List ℕ) (left' written written' noted noted' : Option (List ℕ)) (o : Order) (between : Option (List ℕ)) (h : Prepared (world words (Some fs) (Some bytes) left' written written' noted noted') o between) (s : Status)
    → ((rest : List ℕ) → between ≡ Some rest → FramesTrace o h.opened.design.netlist h.opened.design.networks h.opened.head rest h.bounds s)
    → RunTrace fs words bytes o s
behind_bounds fs words bytes left' written written' noted noted' o between h s next =
    behind_opened fs words bytes left' written written' noted noted' o between h.opened s
    (λ rest told. passed (IsBoundAnswer h.opened.design.netlist.form h.opened.design.networks (plan_in o h.opened.head))
    (FramesTrace o h.opened.design.netlist h.opened.design.networks h.opened.head rest) status_of_bound h.bounds s h.bounded (next rest told))

at_open : (fs : Files) (words : List (List ℕ)) (bytes : List ℕ) (left' written written' noted noted' : Option (List ℕ)) (o : Order) (stop : OpenStop) (h : AtOpen (world words (Some fs) (Some bytes) left' written written' noted noted') o stop)
    → IsOpenAnswer (terms_for o h.design) bytes left' (Err stop) → RunTrace fs words bytes o (status_of_open stop)
at_open fs words bytes left' written written' noted noted' o stop h allowed =
    behind_networks fs words o (RunLater bytes o) (status_of_open stop) h.design h.networks
    (stopped (IsOpening (terms_for o h.design) bytes) (BoundsTrace o h.design.netlist h.design.networks) status_of_open stop (left', allowed))

at_bounds : (fs : Files) (words : List (List ℕ)) (bytes : List ℕ) (left' written written' noted noted' : Option (List ℕ)) (o : Order) (stop : BoundStop) (h : AtBounds (world words (Some fs) (Some bytes) left' written written' noted noted') o stop)
    → IsBoundAnswer h.opened.design.netlist.form h.opened.design.networks (plan_in o h.opened.head) (Err stop) → RunTrace fs words bytes o (status_of_bound stop)
at_bounds fs words bytes left' written written' noted noted' o stop h allowed =
    behind_opened fs words bytes left' written written' noted noted' o left' h.opened (status_of_bound stop)
    (λ rest told. stopped (IsBoundAnswer h.opened.design.netlist.form h.opened.design.networks (plan_in o h.opened.head))
    (FramesTrace o h.opened.design.netlist h.opened.design.networks h.opened.head rest) status_of_bound stop allowed)

at_frames : (fs : Files) (words : List (List ℕ)) (bytes : List ℕ) (left' written written' noted noted' : Option (List ℕ)) (o : Order) (stop : FrameStop) (h : AtFrames (world words (Some fs) (Some bytes) left' written written' noted noted') o stop)
    → ((rest : List ℕ) → h.between ≡ Some rest → IsEndAnswer (setting_for o h.prepared.opened.design h.prepared.opened.head) rest (Err stop))
    → RunTrace fs words bytes o (status_of_frame stop)
at_frames fs words bytes left' written written' noted noted' o stop h end =
    behind_bounds fs words bytes left' written written' noted noted' o h.between h.prepared (status_of_frame stop)
    (λ rest told. stopped (IsEndAnswer (setting_for o h.prepared.opened.design h.prepared.opened.head) rest) (λ u s. s ≡ Done) status_of_frame stop (end rest told))

at_over : (fs : Files) (words : List (List ℕ)) (bytes : List ℕ) (left' written written' noted noted' : Option (List ℕ)) (o : Order) (frame channel : ℕ) (sample : ℤ)
    → AtFrames (world words (Some fs) (Some bytes) left' written written' noted noted') o (frames_.Amplitude frame channel sample) → RunTrace fs words bytes o (Amplitude frame channel sample)
at_over fs words bytes left' written written' noted noted' o frame channel sample h =
    let s = setting_for o h.prepared.opened.design h.prepared.opened.head in
    at_frames fs words bytes left' written written' noted noted' o (frames_.Amplitude frame channel sample) h
    (λ rest told. ends_over s rest left' written written' frame channel sample
    (subst (λ l. StopsOver s frame channel sample l left' written written') told h.stopped))

at_short : (fs : Files) (words : List (List ℕ)) (bytes : List ℕ) (left' written written' noted noted' : Option (List ℕ)) (o : Order) (count : ℕ)
    → AtFrames (world words (Some fs) (Some bytes) left' written written' noted noted') o (frames_.Truncated count) → RunTrace fs words bytes o (Truncated count)
at_short fs words bytes left' written written' noted noted' o count h =
    let s = setting_for o h.prepared.opened.design h.prepared.opened.head in
    at_frames fs words bytes left' written written' noted noted' o (frames_.Truncated count) h
    (λ rest told. ends_short s rest left' written written' count (subst (λ l. StopsShort s count l left' written written') told h.stopped))

pub run_done : (fs : Files) (words : List (List ℕ)) (bytes : List ℕ) (left' written written' noted noted' : Option (List ℕ)) (o : Order) → DoneRun (world words (Some fs) (Some bytes) left' written written' noted noted') o → RunTrace fs words bytes o Done
run_done fs words bytes left' written written' noted noted' o h =
    let s = setting_for o h.filtered.prepared.opened.design h.filtered.prepared.opened.head in
    behind_bounds fs words bytes left' written written' noted noted' o h.filtered.between h.filtered.prepared Done
    (λ rest told. passed (IsEndAnswer s rest) (λ u s. s ≡ Done) status_of_frame tt Done
    (ends_whole s rest left' written written' (subst (λ l. WritesWave s l left' written written') told h.filtered.writes)) refl)

-- all is there for a run
pub filtered : (fs : Files) (words : List (List ℕ)) (bytes rest : List ℕ) (o : Order) (d : Designed) (head : Head) (b : PlanBounds) → HasNetworks (Some fs) words o d
    → Opens (terms_for o d) (Some bytes) (Some rest) head → AreBounded d.networks (plan_in o head) b → EndsWhole (setting_for o d head) rest
    → RunTrace fs words bytes o Done
filtered fs words bytes rest o d head b networks opened bounded ends =
    behind_networks fs words o (RunLater bytes o) Done d networks
    (passed (IsOpening (terms_for o d) bytes) (BoundsTrace o d.netlist d.networks) status_of_open (head, rest) Done opened
    (passed (IsBoundAnswer d.netlist.form d.networks (plan_in o head)) (FramesTrace o d.netlist d.networks head rest) status_of_bound b Done bounded
    (passed (IsEndAnswer (setting_for o d head) rest) (λ u s. s ≡ Done) status_of_frame tt Done ends refl)))

pub run_trace : (fs : Files) (words : List (List ℕ)) (bytes : List ℕ) (left' written written' noted noted' : Option (List ℕ)) (o : Order) (s : Status) → IsTrue (rests_on_told s) → RefusesRun (world words (Some fs) (Some bytes) left' written written' noted noted') o s → RunTrace fs words bytes o s
run_trace fs words bytes left' written written' noted noted' o Done r h = networks_trace fs words (Some bytes) left' written written' noted noted' o (RunLater bytes o) Done r h
run_trace fs words bytes left' written written' noted noted' o (Usage word kind) r h = networks_trace fs words (Some bytes) left' written written' noted noted' o (RunLater bytes o) (Usage word kind) r h
run_trace fs words bytes left' written written' noted noted' o (NetText fault) r h = networks_trace fs words (Some bytes) left' written written' noted noted' o (RunLater bytes o) (NetText fault) r h
run_trace fs words bytes left' written written' noted noted' o (NotSeriesParallel side element core) r h = networks_trace fs words (Some bytes) left' written written' noted noted' o (RunLater bytes o) (NotSeriesParallel side element core) r h
run_trace fs words bytes left' written written' noted noted' o (PortRange side element low) r h = networks_trace fs words (Some bytes) left' written written' noted noted' o (RunLater bytes o) (PortRange side element low) r h
run_trace fs words bytes left' written written' noted noted' o (Bound side element ratio need limit) r h = at_bounds fs words bytes left' written written' noted noted' o (bounds.Bound side element ratio need limit) h (refl, h.refuses)
run_trace fs words bytes left' written written' noted noted' o (BadWave kind at) r h = at_open fs words bytes left' written written' noted noted' o (opens.BadWave kind at) h (refl, h.refuses)
run_trace fs words bytes left' written written' noted noted' o (RateMismatch netlist wave) r h = at_open fs words bytes left' written written' noted noted' o (opens.RateMismatch netlist wave) h (refl, h.refuses)
run_trace fs words bytes left' written written' noted noted' o (TooLong frames limit) r h = at_open fs words bytes left' written written' noted noted' o (opens.TooLong frames limit) h (refl, h.refuses)
run_trace fs words bytes left' written written' noted noted' o (Amplitude frame channel sample) r h = at_over fs words bytes left' written written' noted noted' o frame channel sample h
run_trace fs words bytes left' written written' noted noted' o (Truncated frames) r h = at_short fs words bytes left' written written' noted noted' o frames h
run_trace fs words bytes left' written written' noted noted' o (Unobservable side element kernel) r h = networks_trace fs words (Some bytes) left' written written' noted noted' o (RunLater bytes o) (Unobservable side element kernel) r h
run_trace fs words bytes left' written written' noted noted' o (CertText at range) r h = networks_trace fs words (Some bytes) left' written written' noted noted' o (RunLater bytes o) (CertText at range) r h
run_trace fs words bytes left' written written' noted noted' o (CertWrong side fault) r h = networks_trace fs words (Some bytes) left' written written' noted noted' o (RunLater bytes o) (CertWrong side fault) r h
run_trace fs words bytes left' written written' noted noted' o ReadFault r h = absurd (no r)
run_trace fs words bytes left' written written' noted noted' o WriteFault r h = absurd (no r)
run_trace fs words bytes left' written written' noted noted' o NoteFault r h = absurd (no r)
run_trace fs words bytes left' written written' noted noted' o LoadFault r h = absurd (no r)
run_trace fs words bytes left' written written' noted noted' o (Missing word) r h = networks_trace fs words (Some bytes) left' written written' noted noted' o (RunLater bytes o) (Missing word) r h
run_trace fs words bytes left' written written' noted noted' o (FileTooLarge word) r h = networks_trace fs words (Some bytes) left' written written' noted noted' o (RunLater bytes o) (FileTooLarge word) r h
run_trace fs words bytes left' written written' noted noted' o NoMemory r h = absurd (no r)
run_trace fs words bytes left' written written' noted noted' o (ChannelCount have want) r h = at_open fs words bytes left' written written' noted noted' o (opens.ChannelCount have want) h (refl, h.refuses)
