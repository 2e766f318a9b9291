-- What is told leaves the program one answer, and where all is there, nothing but a fault or want of memory is in its way.
use Rattle.std.proofs.Common.{◌≡◌, ℕ, Bool, true, false, List, Option, Some, Result, Ok, Err, inl, inr, refl, sym, subst}
use Rattle.std.specs.Prelude.{◌≢◌, ◌⊎◌, IsTrue}
use Rattle.wdf_io.specs.Files.{Files}
use Rattle.wdf_wav.specs.HeadLaws.{IsOneHead}
use Rattle.wdf_stages.specs.StageLaws.{HasOneNetlist, HasOneDesign, HasOneOpening, HasOneBound}
use Rattle.wdf_certificates.specs.CertLaws.{HasOneCertifying, HasOneLoading, HasOneChecking}
use Rattle.wdf_frames.specs.Ends.{HasOneEnd}
use Rattle.wdf_report.specs.declared.status.Status.{Status}
use Rattle.wdf_report.specs.declared.status.Status.TheVariants.{Done, LoadFault, ReadFault, WriteFault, NoteFault, NoMemory}
use Rattle.wdf_words.specs.declared.command.Command.{Command}
use Rattle.wdf_words.specs.declared.command.Command.TheVariants.{Run, Report, Certify, Check, Soak}
use Rattle.wdf_words.specs.declared.order.Order.{Order}
use Rattle.wdf_words.specs.declared.usage_fault.UsageFault.{UsageFault}
use Rattle.wdf_words.specs.Orders.{order_of}
use Rattle.wdf.specs.World.{World, world}
use Rattle.wdf.specs.Statuses.{status_of_usage}
use Rattle.wdf.specs.CertifyAnswer.{RefusesCertify}
use Rattle.wdf.specs.CheckAnswer.{RefusesCheck}
use Rattle.wdf.specs.ReportAnswer.{RefusesReport}
use Rattle.wdf.specs.RunAnswer.{RefusesRun}
use Rattle.wdf.specs.SoakAnswer.{RefusesSoak}
use Rattle.wdf.specs.Answer.{DoesOrder, DoesWords, RefusesOrder, RefusesWords}
use Rattle.wdf.specs.AnswerLaws.{HasOneAnswer, rests_on_told}
use Rattle.wdf.specs.Complete.{CanRun, CanReport, CanCertify, CanCheck, CanSoak, CanDo, CanDoWords}
use Rattle.wdf.proofs.Chains.{HasOne, one_value}
use Rattle.wdf.proofs.StatusLemmas.{is_done, no_memory}
use Rattle.wdf.proofs.CertifyTrace.{CertifyTrace, one_certify, certified, certify_done, certify_trace}
use Rattle.wdf.proofs.CheckTrace.{CheckTrace, one_check, accepted, check_done, check_trace}
use Rattle.wdf.proofs.ReportTrace.{ReportTrace, one_report, reported, report_done, report_trace}
use Rattle.wdf.proofs.RunTrace.{RunTrace, one_run, filtered, run_done, run_trace}
use Rattle.wdf.proofs.SoakTrace.{SoakTrace, one_soak, soaked, soak_done, soak_trace}

-- ---- the chain of stages that words ask for

abbrev OrderTrace : Command → Files → List (List ℕ) → (bytes : List ℕ) → Order → Status → Type 0
OrderTrace Run fs words bytes o s = RunTrace fs words bytes o s
OrderTrace Certify fs words bytes o s = CertifyTrace fs words o s
OrderTrace Check fs words bytes o s = CheckTrace fs words o s
OrderTrace Report fs words bytes o s = ReportTrace fs words o s
OrderTrace Soak fs words bytes o s = SoakTrace o s

abbrev WordsTrace : Result Order UsageFault → Files → List (List ℕ) → (bytes : List ℕ) → Status → Type 0
WordsTrace (Ok o) fs words bytes s = OrderTrace o.command fs words bytes o s
WordsTrace (Err fault) fs words bytes s = s ≡ status_of_usage fault

one_order : HasOneNetlist → HasOneDesign → HasOneCertifying → HasOneLoading → HasOneChecking → HasOneOpening → IsOneHead → HasOneBound → HasOneEnd
    → (c : Command) (fs : Files) (words : List (List ℕ)) (bytes : List ℕ) (o : Order) → HasOne (OrderTrace c fs words bytes o)
one_order one_netlist one_design one_certifying one_loading one_checking one_opening one_head one_bound one_end Run fs words bytes o = one_run one_netlist one_design one_opening one_head one_bound one_end fs words bytes o
one_order one_netlist one_design one_certifying one_loading one_checking one_opening one_head one_bound one_end Certify fs words bytes o = one_certify one_netlist one_design one_certifying fs words o
one_order one_netlist one_design one_certifying one_loading one_checking one_opening one_head one_bound one_end Check fs words bytes o = one_check one_netlist one_design one_loading one_checking fs words o
one_order one_netlist one_design one_certifying one_loading one_checking one_opening one_head one_bound one_end Report fs words bytes o = one_report one_netlist one_design one_bound fs words o
one_order one_netlist one_design one_certifying one_loading one_checking one_opening one_head one_bound one_end Soak fs words bytes o = one_soak one_design one_bound o

one_words : HasOneNetlist → HasOneDesign → HasOneCertifying → HasOneLoading → HasOneChecking → HasOneOpening → IsOneHead → HasOneBound → HasOneEnd
    → (m : Result Order UsageFault) (fs : Files) (words : List (List ℕ)) (bytes : List ℕ) → HasOne (WordsTrace m fs words bytes)
one_words one_netlist one_design one_certifying one_loading one_checking one_opening one_head one_bound one_end (Ok o) fs words bytes = one_order one_netlist one_design one_certifying one_loading one_checking one_opening one_head one_bound one_end o.command fs words bytes o
one_words one_netlist one_design one_certifying one_loading one_checking one_opening one_head one_bound one_end (Err fault) fs words bytes = one_value (status_of_usage fault)

order_done : (c : Command) (fs : Files) (words : List (List ℕ)) (bytes : List ℕ) (left' written written' noted noted' : Option (List ℕ)) (o : Order)
    → DoesOrder c (world words (Some fs) (Some bytes) left' written written' noted noted') o → OrderTrace c fs words bytes o Done
order_done Run fs words bytes left' written written' noted noted' o h = run_done fs words bytes left' written written' noted noted' o h
order_done Certify fs words bytes left' written written' noted noted' o h = certify_done fs words (Some bytes) left' written written' noted noted' o h
order_done Check fs words bytes left' written written' noted noted' o h = check_done fs words (Some bytes) left' written written' noted noted' o h
order_done Report fs words bytes left' written written' noted noted' o h = report_done fs words (Some bytes) left' written written' noted noted' o h
order_done Soak fs words bytes left' written written' noted noted' o h = soak_done (world words (Some fs) (Some bytes) left' written written' noted noted') o h

order_refused : (c : Command) (fs : Files) (words : List (List ℕ)) (bytes : List ℕ) (left' written written' noted noted' : Option (List ℕ)) (o : Order) (s : Status)
    → IsTrue (rests_on_told s) → RefusesOrder c (world words (Some fs) (Some bytes) left' written written' noted noted') o s → OrderTrace c fs words bytes o s
order_refused Run fs words bytes left' written written' noted noted' o s r h = run_trace fs words bytes left' written written' noted noted' o s r h
order_refused Certify fs words bytes left' written written' noted noted' o s r h = certify_trace fs words (Some bytes) left' written written' noted noted' o s r h
order_refused Check fs words bytes left' written written' noted noted' o s r h = check_trace fs words (Some bytes) left' written written' noted noted' o s r h
order_refused Report fs words bytes left' written written' noted noted' o s r h = report_trace fs words (Some bytes) left' written written' noted noted' o s r h
order_refused Soak fs words bytes left' written written' noted noted' o s r h = soak_trace (world words (Some fs) (Some bytes) left' written written' noted noted') o s r h

words_trace : (m : Result Order UsageFault) (fs : Files) (words : List (List ℕ)) (bytes : List ℕ) (left' written written' noted noted' : Option (List ℕ)) (s : Status)
    → IsTrue (rests_on_told s) → (s ≡ Done → DoesWords m (world words (Some fs) (Some bytes) left' written written' noted noted'))
    → (s ≢ Done → RefusesWords m (world words (Some fs) (Some bytes) left' written written' noted noted') s)
    → (s ≡ Done) ⊎ (s ≢ Done) → WordsTrace m fs words bytes s
words_trace (Ok o) fs words bytes left' written written' noted noted' s r done refused (inl e) =
    subst (OrderTrace o.command fs words bytes o) (sym e) (order_done o.command fs words bytes left' written written' noted noted' o (done e))
words_trace (Ok o) fs words bytes left' written written' noted noted' s r done refused (inr n) =
    order_refused o.command fs words bytes left' written written' noted noted' o s r (refused n)
words_trace (Err fault) fs words bytes left' written written' noted noted' s r done refused (inl e) = absurd (done e)
words_trace (Err fault) fs words bytes left' written written' noted noted' s r done refused (inr n) = (refused n).is

pub one_answer : HasOneNetlist → HasOneDesign → HasOneCertifying → HasOneLoading → HasOneChecking → HasOneOpening → IsOneHead → HasOneBound → HasOneEnd → HasOneAnswer
one_answer one_netlist one_design one_certifying one_loading one_checking one_opening one_head one_bound one_end words fs bytes left left' gained gained' written written' told told' noted noted' s t r q h k =
    one_words one_netlist one_design one_certifying one_loading one_checking one_opening one_head one_bound one_end (order_of words) fs words bytes s t
    (words_trace (order_of words) fs words bytes left gained gained' told told' s r h.done h.refused (is_done s))
    (words_trace (order_of words) fs words bytes left' written written' noted noted' t q k.done k.refused (is_done t))

-- ---- completeness

-- where an answer that rests on what is told can only be `Done`
only_memory : (s : Status) (b : Bool) → rests_on_told s ≡ b → (IsTrue (rests_on_told s) → s ≡ Done) → s ≢ Done → s ≢ LoadFault → s ≢ ReadFault → s ≢ WriteFault
    → s ≢ NoteFault → s ≡ NoMemory
only_memory s true e f n load read write note = absurd (n (f e))
only_memory s false e f n load read write note = no_memory s e load read write note

run_complete : HasOneNetlist → HasOneDesign → HasOneCertifying → HasOneLoading → HasOneChecking → HasOneOpening → IsOneHead → HasOneBound → HasOneEnd → (w : World) (o : Order) (s : Status) → CanRun w.words w.files w.left o → RefusesRun w o s
    → s ≢ Done → s ≢ LoadFault → s ≢ ReadFault → s ≢ WriteFault → s ≢ NoteFault → s ≡ NoMemory
run_complete one_netlist one_design one_certifying one_loading one_checking one_opening one_head one_bound one_end w o s can refused n load read write note =
    let fs = can.finds.files in
    let told = subst (λ f. RefusesRun (world w.words f w.left w.left' w.written w.written' w.noted w.noted') o s) can.finds.tells refused in
    let both = subst (λ l. RefusesRun (world w.words (Some fs) l w.left' w.written w.written' w.noted w.noted') o s) can.input told in
    let all = filtered fs w.words can.bytes can.rest o can.finds.design can.head can.bounds can.finds.networks can.opens can.bounded can.ends in
    only_memory s (rests_on_told s) refl
    (λ r. one_run one_netlist one_design one_opening one_head one_bound one_end fs w.words can.bytes o s Done
    (run_trace fs w.words can.bytes w.left' w.written w.written' w.noted w.noted' o s r both) all)
    n load read write note

report_complete : HasOneNetlist → HasOneDesign → HasOneCertifying → HasOneLoading → HasOneChecking → HasOneOpening → IsOneHead → HasOneBound → HasOneEnd → (w : World) (o : Order) (s : Status) → CanReport w.words w.files o → RefusesReport w o s
    → s ≢ Done → s ≢ LoadFault → s ≢ ReadFault → s ≢ WriteFault → s ≢ NoteFault → s ≡ NoMemory
report_complete one_netlist one_design one_certifying one_loading one_checking one_opening one_head one_bound one_end w o s can refused n load read write note =
    let fs = can.finds.files in
    let told = subst (λ f. RefusesReport (world w.words f w.left w.left' w.written w.written' w.noted w.noted') o s) can.finds.tells refused in
    let all = reported fs w.words o can.finds.design can.bounds can.finds.networks can.bounded in
    only_memory s (rests_on_told s) refl
    (λ r. one_report one_netlist one_design one_bound fs w.words o s Done (report_trace fs w.words w.left w.left' w.written w.written' w.noted w.noted' o s r told) all)
    n load read write note

certify_complete : HasOneNetlist → HasOneDesign → HasOneCertifying → HasOneLoading → HasOneChecking → HasOneOpening → IsOneHead → HasOneBound → HasOneEnd → (w : World) (o : Order) (s : Status) → CanCertify w.words w.files o → RefusesCertify w o s
    → s ≢ Done → s ≢ LoadFault → s ≢ ReadFault → s ≢ WriteFault → s ≢ NoteFault → s ≡ NoMemory
certify_complete one_netlist one_design one_certifying one_loading one_checking one_opening one_head one_bound one_end w o s can refused n load read write note =
    let fs = can.finds.files in
    let told = subst (λ f. RefusesCertify (world w.words f w.left w.left' w.written w.written' w.noted w.noted') o s) can.finds.tells refused in
    let all = certified fs w.words o can.finds.design can.text can.finds.networks can.certified in
    only_memory s (rests_on_told s) refl
    (λ r. one_certify one_netlist one_design one_certifying fs w.words o s Done (certify_trace fs w.words w.left w.left' w.written w.written' w.noted w.noted' o s r told) all)
    n load read write note

check_complete : HasOneNetlist → HasOneDesign → HasOneCertifying → HasOneLoading → HasOneChecking → HasOneOpening → IsOneHead → HasOneBound → HasOneEnd → (w : World) (o : Order) (s : Status) → CanCheck w.words w.files o → RefusesCheck w o s
    → s ≢ Done → s ≢ LoadFault → s ≢ ReadFault → s ≢ WriteFault → s ≢ NoteFault → s ≡ NoMemory
check_complete one_netlist one_design one_certifying one_loading one_checking one_opening one_head one_bound one_end w o s can refused n load read write note =
    let fs = can.finds.files in
    let told = subst (λ f. RefusesCheck (world w.words f w.left w.left' w.written w.written' w.noted w.noted') o s) can.finds.tells refused in
    let all = accepted fs w.words o can.finds.design can.certs can.finds.networks can.loads can.certified in
    only_memory s (rests_on_told s) refl
    (λ r. one_check one_netlist one_design one_loading one_checking fs w.words o s Done (check_trace fs w.words w.left w.left' w.written w.written' w.noted w.noted' o s r told) all)
    n load read write note

soak_complete : HasOneDesign → HasOneBound → (w : World) (o : Order) (s : Status) → CanSoak o → RefusesSoak w o s
    → s ≢ Done → s ≢ LoadFault → s ≢ ReadFault → s ≢ WriteFault → s ≢ NoteFault → s ≡ NoMemory
soak_complete one_design one_bound w o s can refused n load read write note =
    only_memory s (rests_on_told s) refl
    (λ r. one_soak one_design one_bound o s Done (soak_trace w o s r refused) (soaked o can.networks can.bounds can.designed can.bounded))
    n load read write note

order_complete : HasOneNetlist → HasOneDesign → HasOneCertifying → HasOneLoading → HasOneChecking → HasOneOpening → IsOneHead → HasOneBound → HasOneEnd → (c : Command) (w : World) (o : Order) (s : Status) → CanDo c w.words w.files w.left o → RefusesOrder c w o s
    → s ≢ Done → s ≢ LoadFault → s ≢ ReadFault → s ≢ WriteFault → s ≢ NoteFault → s ≡ NoMemory
order_complete one_netlist one_design one_certifying one_loading one_checking one_opening one_head one_bound one_end Run w o s can refused n load read write note = run_complete one_netlist one_design one_certifying one_loading one_checking one_opening one_head one_bound one_end w o s can refused n load read write note
order_complete one_netlist one_design one_certifying one_loading one_checking one_opening one_head one_bound one_end Certify w o s can refused n load read write note = certify_complete one_netlist one_design one_certifying one_loading one_checking one_opening one_head one_bound one_end w o s can refused n load read write note
order_complete one_netlist one_design one_certifying one_loading one_checking one_opening one_head one_bound one_end Check w o s can refused n load read write note = check_complete one_netlist one_design one_certifying one_loading one_checking one_opening one_head one_bound one_end w o s can refused n load read write note
order_complete one_netlist one_design one_certifying one_loading one_checking one_opening one_head one_bound one_end Report w o s can refused n load read write note = report_complete one_netlist one_design one_certifying one_loading one_checking one_opening one_head one_bound one_end w o s can refused n load read write note
order_complete one_netlist one_design one_certifying one_loading one_checking one_opening one_head one_bound one_end Soak w o s can refused n load read write note = soak_complete one_design one_bound w o s can refused n load read write note

pub complete : HasOneNetlist → HasOneDesign → HasOneCertifying → HasOneLoading → HasOneChecking → HasOneOpening → IsOneHead → HasOneBound → HasOneEnd → (m : Result Order UsageFault) (w : World) (s : Status) → CanDoWords m w.words w.files w.left → RefusesWords m w s
    → s ≢ Done → s ≢ LoadFault → s ≢ ReadFault → s ≢ WriteFault → s ≢ NoteFault → s ≡ NoMemory
complete one_netlist one_design one_certifying one_loading one_checking one_opening one_head one_bound one_end (Ok o) w s can refused n load read write note = order_complete one_netlist one_design one_certifying one_loading one_checking one_opening one_head one_bound one_end o.command w o s can refused n load read write note
complete one_netlist one_design one_certifying one_loading one_checking one_opening one_head one_bound one_end (Err fault) w s can refused n load read write note = absurd can
