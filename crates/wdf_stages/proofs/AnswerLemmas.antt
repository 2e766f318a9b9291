-- What is told leaves each stage one answer: each answer that its contract allows is the one computed here.
use Rattle.std.proofs.Common.{◌≡◌, ℕ, ◌^◌, ◌<◌, ◌≤◌, Bool, true, false, if◌then◌else◌, List, length, Option, None, Some, Result, Ok, Err, refl, sym, ap, ◌∙◌, subst}
use Rattle.std.specs.Prelude.{nat_le, nat_lt, ◌==◌, ◌⊎◌}
use Rattle.std.specs.Option.{option_or}
use Rattle.std.proofs.lemmas.Bool.{le-leb, lt-leb, lt-ltb, le-ltb, eq-eqb, ne_eqb, cases_lt}
use mathlib.Core.Logic.{inl, inr}
use Rattle.wdf_law.specs.declared.side.Side.{Side}
use Rattle.wdf_law.specs.declared.side.Side.TheVariants.{Whole, A, B}
use Rattle.wdf_law.specs.Network.{Network}
use Rattle.wdf_io.specs.Files.{Files, file_of, IsLarger}
use Rattle.wdf_netlist.specs.declared.form.Form.{Form}
use Rattle.wdf_netlist.specs.declared.net_fault.NetFault.{NetFault}
use Rattle.wdf_netlist.specs.Netlists.{NetlistValue}
use Rattle.wdf_netlist.specs.NetlistText.{meaning}
use Rattle.wdf_quant.specs.PortBound.{walk, wide_of}
use Rattle.wdf_bounds.specs.Plans.{PlanOf}
use Rattle.wdf_bounds.specs.WordBound.{bounds_of, first_over, word_limit}
use Rattle.wdf_lattice.specs.declared.networks.Networks.{Networks}
use Rattle.wdf_lattice.specs.declared.networks.Networks.TheVariants.{Ladder, Lattice}
use Rattle.wdf_design.specs.declared.design_fault.DesignFault.{DesignFault}
use Rattle.wdf_design.specs.declared.design_fault.DesignFault.TheVariants as faults
use Rattle.wdf_design.specs.Designs.{design_of}
use Rattle.wdf_sp.specs.declared.edges.Edges.{Edges}
use Rattle.wdf_wav.specs.declared.head.Head.{Head}
use Rattle.wdf_wav.specs.declared.wav_error.WavKind.{WavKind}
use Rattle.wdf_wav.specs.HeadLaws.{HasHead, IsOneHead, IsOneFault, IsEither}
use Rattle.wdf_wav.specs.WaveHead.{IsWaveFault, TakesHead}
use Rattle.wdf_stages.specs.declared.files.TheConstants.{MAX_FILE}
use Rattle.wdf_stages.specs.declared.file_stop.FileStop.{FileStop}
use Rattle.wdf_stages.specs.declared.file_stop.FileStop.TheVariants as files_
use Rattle.wdf_stages.specs.declared.netlist_stop.NetlistStop.{NetlistStop}
use Rattle.wdf_stages.specs.declared.netlist_stop.NetlistStop.TheVariants as netlists
use Rattle.wdf_stages.specs.declared.design_stop.DesignStop.{DesignStop}
use Rattle.wdf_stages.specs.declared.design_stop.DesignStop.TheVariants as designs
use Rattle.wdf_stages.specs.declared.bound_stop.BoundStop.{BoundStop}
use Rattle.wdf_stages.specs.declared.bound_stop.BoundStop.TheVariants as stops
use Rattle.wdf_stages.specs.declared.network_bounds.NetworkBounds.{NetworkBounds}
use Rattle.wdf_stages.specs.declared.plan_bounds.PlanBounds.{PlanBounds}
use Rattle.wdf_stages.specs.declared.plan_bounds.PlanBounds.TheVariants as bounds
use Rattle.wdf_stages.specs.declared.open_stop.OpenStop.{OpenStop}
use Rattle.wdf_stages.specs.declared.open_stop.OpenStop.TheVariants as openings
use Rattle.wdf_stages.specs.ElementNames.{name_at}
use Rattle.wdf_stages.specs.NetlistLoading.{netlist_stop_of}
use Rattle.wdf_stages.specs.Bounding.{Excess, IsBounded, IsExcessAt, on_side, first_wide_port, first_wide_word}
use Rattle.wdf_stages.specs.Opening.{Terms, DrivesSources}
use Rattle.wdf_stages.specs.StageLaws.{IsFileAnswer, HasOneFile, IsNetlistAnswer, HasOneNetlist, IsDesignAnswer, HasOneDesign, IsBoundAnswer, HasOneBound, IsOpenAnswer, HasOneOpening}

no : false ≡ true → ⊥
no h = absurd (cc)

-- ---- files

abbrev file_answer : Option (List ℕ) → ℕ → Result (List ℕ) FileStop
file_answer None word = Err (files_.Missing word)
file_answer (Some bytes) word = if nat_le (length bytes) MAX_FILE then Ok bytes else Err (files_.FileTooLarge word)

larger_answer : (file : Option (List ℕ)) (word at : ℕ) → at ≡ word → IsLarger file MAX_FILE → Err (files_.FileTooLarge at) ≡ file_answer file word
larger_answer None word at same h = absurd h
larger_answer (Some bytes) word at same h =
    ap (λ w. Err (files_.FileTooLarge w)) same
    ∙ sym (ap (λ (b : Bool). if b then Ok bytes else Err (files_.FileTooLarge word)) (lt-leb (length bytes) MAX_FILE h))

file_only : (fs : Files) (word : ℕ) (name : List ℕ) (x : Result (List ℕ) FileStop) → IsFileAnswer fs word name x → x ≡ file_answer (file_of fs name) word
file_only fs word name (Ok bytes) h =
    sym (ap (λ file. file_answer file word) h.found
    ∙ ap (λ (b : Bool). if b then Ok bytes else Err (files_.FileTooLarge word)) (le-leb (length bytes) MAX_FILE h.small))
file_only fs word name (Err (files_.Missing at)) h = ap (λ w. Err (files_.Missing w)) h.1.0 ∙ sym (ap (λ file. file_answer file word) h.1.1)
file_only fs word name (Err (files_.FileTooLarge at)) h = larger_answer (file_of fs name) word at h.1.0 h.1.1
file_only fs word name (Err files_.LoadFault) h = absurd (no h.0)
file_only fs word name (Err files_.NoMemory) h = absurd (no h.0)

pub one_file : HasOneFile
one_file fs word name x y h k = file_only fs word name x h ∙ sym (file_only fs word name y k)

-- ---- netlists

abbrev reading_answer : Result NetlistValue NetFault → Result NetlistValue NetlistStop
reading_answer (Ok n) = Ok n
reading_answer (Err fault) = Err (netlists.NetText fault)

abbrev text_answer : Result (List ℕ) FileStop → Result NetlistValue NetlistStop
text_answer (Ok text) = reading_answer (meaning text)
text_answer (Err stop) = Err (netlist_stop_of stop)

netlist_only : (fs : Files) (word : ℕ) (name : List ℕ) (x : Result NetlistValue NetlistStop) → IsNetlistAnswer fs word name x
    → x ≡ text_answer (file_answer (file_of fs name) word)
netlist_only fs word name (Ok n) h = sym (ap reading_answer h.stands) ∙ ap text_answer (file_only fs word name (Ok h.text) h.file)
netlist_only fs word name (Err (netlists.Missing at)) h = ap text_answer (file_only fs word name (Err (files_.Missing at)) h)
netlist_only fs word name (Err (netlists.FileTooLarge at)) h = ap text_answer (file_only fs word name (Err (files_.FileTooLarge at)) h)
netlist_only fs word name (Err (netlists.NetText fault)) h =
    sym (ap reading_answer h.1.faulty) ∙ ap text_answer (file_only fs word name (Ok h.1.text) h.1.file)
netlist_only fs word name (Err netlists.LoadFault) h = absurd (no h.0)
netlist_only fs word name (Err netlists.NoMemory) h = absurd (no h.0)

pub one_netlist : HasOneNetlist
one_netlist fs word name x y h k = netlist_only fs word name x h ∙ sym (netlist_only fs word name y k)

-- ---- designs

abbrev core_answer : Side → Edges → Option (List ℕ) → Result Networks DesignStop
core_answer side core None = Err designs.NoMemory
core_answer side core (Some name) = Err (designs.NotSeriesParallel side name core)

abbrev range_answer : Side → Bool → Option (List ℕ) → Result Networks DesignStop
range_answer side low None = Err designs.NoMemory
range_answer side low (Some name) = Err (designs.PortRange side name low)

abbrev design_answer : Form → Result Networks DesignFault → Result Networks DesignStop
design_answer form (Ok ns) = Ok ns
design_answer form (Err (faults.Core side element core)) = core_answer side core (name_at form side element)
design_answer form (Err (faults.Range side element low)) = range_answer side low (name_at form side element)
design_answer form (Err faults.NoMemory) = Err designs.NoMemory

design_only : (n : NetlistValue) (k : ℕ) (x : Result Networks DesignStop) → IsDesignAnswer n k x → x ≡ design_answer n.form (design_of n k)
design_only n k (Ok ns) h = sym (ap (design_answer n.form) h)
design_only n k (Err (designs.NotSeriesParallel side name core)) h =
    sym (ap (design_answer n.form) h.1.design ∙ ap (core_answer side core) h.1.named)
design_only n k (Err (designs.PortRange side name low)) h =
    sym (ap (design_answer n.form) h.1.design ∙ ap (range_answer side low) h.1.named)
design_only n k (Err designs.NoMemory) h = absurd (no h.0)

pub one_design : HasOneDesign
one_design n k x y h l = design_only n k x h ∙ sym (design_only n k y l)

-- ---- bounds

abbrev named_answer : Excess → (ratio : Bool) → (limit : ℕ) → Option (List ℕ) → Result PlanBounds BoundStop
named_answer e ratio limit None = Err stops.NoMemory
named_answer e ratio limit (Some name) = Err (stops.Bound e.side name ratio e.need limit)

-- the answer to the first excess, where there is one
abbrev excess_answer : Form → (ratio : Bool) → (limit : ℕ) → Option Excess → Result PlanBounds BoundStop → Result PlanBounds BoundStop
excess_answer form ratio limit None other = other
excess_answer form ratio limit (Some e) other = named_answer e ratio limit (name_at form e.side e.element)

abbrev bounds_for : Network → PlanOf → NetworkBounds
bounds_for n plan = record { ratios = walk n; words = bounds_of plan (walk n) }

abbrev all_bounds : Networks → PlanOf → PlanBounds
all_bounds (Ladder n) plan = bounds.Ladder (bounds_for n plan)
all_bounds (Lattice a b) plan = bounds.Lattice (bounds_for a plan) (bounds_for b plan)

abbrev bound_answer : Form → Networks → PlanOf → Result PlanBounds BoundStop
bound_answer form ns plan =
    excess_answer form true (2 ^ 62) (first_wide_port ns) (excess_answer form false (word_limit plan) (first_wide_word plan ns) (Ok (all_bounds ns plan)))

same_bounds : (n : Network) (plan : PlanOf) (b : NetworkBounds) → IsBounded n plan b → b ≡ bounds_for n plan
same_bounds n plan b h = λ i. record { ratios = h.ratios.0 i; words = h.words.0 i }

-- where there is no excess
no_excess : (form : Form) (ns : Networks) (plan : PlanOf) → first_wide_port ns ≡ None → first_wide_word plan ns ≡ None
    → bound_answer form ns plan ≡ Ok (all_bounds ns plan)
no_excess form ns plan narrow within =
    ap (λ first. excess_answer form true (2 ^ 62) first (excess_answer form false (word_limit plan) (first_wide_word plan ns) (Ok (all_bounds ns plan)))) narrow
    ∙ ap (λ first. excess_answer form false (word_limit plan) first (Ok (all_bounds ns plan))) within

named_excess : (form : Form) (ratio : Bool) (limit other : ℕ) (first : Option Excess) (side : Side) (name : List ℕ) (need : ℕ) (rest : Result PlanBounds BoundStop)
    → other ≡ limit → IsExcessAt form first side name need → Err (stops.Bound side name ratio need other) ≡ excess_answer form ratio limit first rest
named_excess form ratio limit other first side name need rest same h =
    ap (λ l. Err (stops.Bound side name ratio need l)) same
    ∙ sym (ap (λ f. excess_answer form ratio limit f rest) h.excess
    ∙ ap (named_answer (record { side = side; element = h.element; need = need }) ratio limit) h.named)

no_two : (a b : Option (ℕ × ℕ)) → a ≡ None → b ≡ None → (first : Option (ℕ × ℕ) → Option (ℕ × ℕ) → Option Excess) → first a b ≡ first None None
no_two a b p q first = ap (λ x. first x b) p ∙ ap (first None) q

bound_only : (form : Form) (ns : Networks) (plan : PlanOf) (x : Result PlanBounds BoundStop) → IsBoundAnswer form ns plan x → x ≡ bound_answer form ns plan
bound_only form (Ladder n) plan (Ok (bounds.Ladder b)) h =
    ap (λ c. Ok (bounds.Ladder c)) (same_bounds n plan b h)
    ∙ sym (no_excess form (Ladder n) plan (ap (on_side Whole) h.ratios.1) (ap (on_side Whole) h.words.1))
bound_only form (Ladder n) plan (Ok (bounds.Lattice b c)) h = absurd h
bound_only form (Lattice m n) plan (Ok (bounds.Ladder b)) h = absurd h
bound_only form (Lattice m n) plan (Ok (bounds.Lattice b c)) h =
    let first = same_bounds m plan b h.0 in
    let second = same_bounds n plan c h.1 in
    (λ i. Ok (bounds.Lattice (first i) (second i)))
    ∙ sym (no_excess form (Lattice m n) plan
    (no_two (wide_of m) (wide_of n) h.0.ratios.1 h.1.ratios.1 (λ p q. either p q))
    (no_two (first_over plan (walk m)) (first_over plan (walk n)) h.0.words.1 h.1.words.1 (λ p q. either p q)))
  where
    either : Option (ℕ × ℕ) → Option (ℕ × ℕ) → Option Excess
    either p q = option_or (on_side A p) (on_side B q)
bound_only form ns plan (Err (stops.Bound side name true need limit)) h =
    named_excess form true (2 ^ 62) limit (first_wide_port ns) side name need
    (excess_answer form false (word_limit plan) (first_wide_word plan ns) (Ok (all_bounds ns plan))) h.1.1 h.1.0
bound_only form ns plan (Err (stops.Bound side name false need limit)) h =
    named_excess form false (word_limit plan) limit (first_wide_word plan ns) side name need (Ok (all_bounds ns plan)) h.1.2 h.1.1
    ∙ sym (ap (λ first. excess_answer form true (2 ^ 62) first (excess_answer form false (word_limit plan) (first_wide_word plan ns) (Ok (all_bounds ns plan)))) h.1.0)
bound_only form ns plan (Err stops.NoMemory) h = absurd (no h.0)

pub one_bound : HasOneBound
one_bound form ns plan x y h k = bound_only form ns plan x h ∙ sym (bound_only form ns plan y k)

-- ---- openings

-- the answer to a head
abbrev length_answer : Terms → Head → Result Head OpenStop
length_answer t head = if nat_le head.frames t.limit then Ok head else Err (openings.TooLong head.frames t.limit)

abbrev channels_answer : Terms → Head → (several agree : Bool) → Result Head OpenStop
channels_answer t head false agree = length_answer t head
channels_answer t head true true = length_answer t head
channels_answer t head true false = Err (openings.ChannelCount head.channels t.sources)

abbrev opening_answer : Terms → Head → Result Head OpenStop
opening_answer t head =
    if head.rate == t.rate then channels_answer t head (nat_lt 1 t.sources) (head.channels == t.sources) else Err (openings.RateMismatch t.rate head.rate)

same_rate : (t : Terms) (head : Head) → head.rate ≡ t.rate
    → opening_answer t head ≡ channels_answer t head (nat_lt 1 t.sources) (head.channels == t.sources)
same_rate t head h =
    ap (λ (b : Bool). if b then channels_answer t head (nat_lt 1 t.sources) (head.channels == t.sources) else Err (openings.RateMismatch t.rate head.rate))
    (eq-eqb head.rate t.rate h)

same_channels : (t : Terms) (head : Head) → DrivesSources t.sources head.channels
    → channels_answer t head (nat_lt 1 t.sources) (head.channels == t.sources) ≡ length_answer t head
same_channels t head h = by (cases_lt 1 t.sources)
  where
    by : (1 < t.sources) ⊎ (t.sources ≤ 1) → channels_answer t head (nat_lt 1 t.sources) (head.channels == t.sources) ≡ length_answer t head
    by (inl several) =
        ap (λ b. channels_answer t head b (head.channels == t.sources)) (lt-ltb 1 t.sources several)
        ∙ ap (channels_answer t head true) (eq-eqb head.channels t.sources (h several))
    by (inr one) = ap (λ b. channels_answer t head b (head.channels == t.sources)) (le-ltb 1 t.sources one)

-- an answer is the first fault of the bytes, or that to a head with which they begin
data Origin (t : Terms) (bytes : List ℕ) (x : Result Head OpenStop) : Type 0 where
  faulty : (kind : WavKind) (at : ℕ) → IsWaveFault bytes kind at → x ≡ Err (openings.BadWave kind at) → Origin t bytes x
  headed : (head : Head) (text : List ℕ) → HasHead bytes head text → x ≡ opening_answer t head → Origin t bytes x

begins : (bytes : List ℕ) (left' : Option (List ℕ)) (head : Head) (h : TakesHead (Some bytes) left' head) → HasHead bytes head h.bytes
begins bytes None head h = absurd h.input
begins bytes (Some rest) head h = record { headed = h.headed; rest = rest; parts = h.input }

origin : (t : Terms) (bytes : List ℕ) (left' : Option (List ℕ)) (x : Result Head OpenStop) → IsOpenAnswer t bytes left' x → Origin t bytes x
origin t bytes left' (Ok head) h =
    headed head h.takes.bytes (begins bytes left' head h.takes)
    (sym (same_rate t head h.rate ∙ (same_channels t head h.channels
    ∙ ap (λ (b : Bool). if b then Ok head else Err (openings.TooLong head.frames t.limit)) (le-leb head.frames t.limit h.length))))
origin t bytes left' (Err (openings.BadWave kind at)) h = faulty kind at h.1 refl
origin t bytes left' (Err (openings.RateMismatch netlist wave)) h =
    let head = h.1.head in
    let other : head.rate ≡ t.rate → ⊥ = λ same. h.1.differ (h.1.ours ∙ (sym same ∙ sym h.1.theirs)) in
    headed head h.1.takes.bytes (begins bytes left' head h.1.takes)
    ((λ i. Err (openings.RateMismatch (h.1.ours i) (h.1.theirs i)))
    ∙ sym (ap (λ (b : Bool). if b then channels_answer t head (nat_lt 1 t.sources) (head.channels == t.sources) else Err (openings.RateMismatch t.rate head.rate))
    (ne_eqb head.rate t.rate other)))
origin t bytes left' (Err (openings.ChannelCount have want)) h =
    let head = h.1.head in
    let other : head.channels ≡ t.sources → ⊥ = λ same. h.1.differ (h.1.theirs ∙ (same ∙ sym h.1.ours)) in
    headed head h.1.takes.bytes (begins bytes left' head h.1.takes)
    ((λ i. Err (openings.ChannelCount (h.1.theirs i) (h.1.ours i)))
    ∙ sym (same_rate t head h.1.rate
    ∙ (ap (λ b. channels_answer t head b (head.channels == t.sources)) (lt-ltb 1 t.sources (subst (λ n. 1 < n) h.1.ours h.1.several))
    ∙ ap (channels_answer t head true) (ne_eqb head.channels t.sources other))))
origin t bytes left' (Err (openings.TooLong frames limit)) h =
    let head = h.1.head in
    let over : t.limit < head.frames = subst (λ n. t.limit < n) h.1.theirs (subst (λ n. n < frames) h.1.ours h.1.over) in
    headed head h.1.takes.bytes (begins bytes left' head h.1.takes)
    ((λ i. Err (openings.TooLong (h.1.theirs i) (h.1.ours i)))
    ∙ sym (same_rate t head h.1.rate ∙ (same_channels t head h.1.channels
    ∙ ap (λ (b : Bool). if b then Ok head else Err (openings.TooLong head.frames t.limit)) (lt-leb head.frames t.limit over))))
origin t bytes left' (Err openings.ReadFault) h = absurd (no h.0)

one_origin : IsOneHead → IsOneFault → IsEither → (t : Terms) (bytes : List ℕ) (x y : Result Head OpenStop) → Origin t bytes x → Origin t bytes y → x ≡ y
one_origin one fault either t bytes x y (faulty kind at h p) (faulty kind' at' k q) =
    let same = fault bytes kind kind' at at' h k in
    p ∙ sym (q ∙ λ i. Err (openings.BadWave (same.0 i) (same.1 i)))
one_origin one fault either t bytes x y (faulty kind at h p) (headed head text k q) = absurd (either bytes text head kind at k h)
one_origin one fault either t bytes x y (headed head text h p) (faulty kind at k q) = absurd (either bytes text head kind at h k)
one_origin one fault either t bytes x y (headed head text h p) (headed head' text' k q) =
    p ∙ sym (q ∙ ap (opening_answer t) (one bytes text text' head head' h k).0)

pub one_opening : IsOneHead → IsOneFault → IsEither → HasOneOpening
one_opening one fault either t bytes l m x y h k = one_origin one fault either t bytes x y (origin t bytes l x h) (origin t bytes m y k)
