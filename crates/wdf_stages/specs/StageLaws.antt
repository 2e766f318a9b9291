-- What is told leaves each stage one answer.
use Rattle.std.specs.Prelude.{◌≡◌, ℕ, Bool, true, false, List, Option, Some, Result, Ok, Err, IsTrue}
use Rattle.wdf_io.specs.Files.{Files}
use Rattle.wdf_netlist.specs.Netlists.{NetlistValue}
use Rattle.wdf_netlist.specs.declared.form.Form.{Form}
use Rattle.wdf_wav.specs.declared.head.Head.{Head}
use Rattle.wdf_bounds.specs.Plans.{PlanOf}
use Rattle.wdf_lattice.specs.declared.networks.Networks.{Networks}
use Rattle.wdf_design.specs.Designs.{IsDesigned}
use Rattle.wdf_stages.specs.declared.file_stop.FileStop.{FileStop}
use Rattle.wdf_stages.specs.declared.file_stop.FileStop.TheVariants as files_
use Rattle.wdf_stages.specs.declared.netlist_stop.NetlistStop.{NetlistStop}
use Rattle.wdf_stages.specs.declared.netlist_stop.NetlistStop.TheVariants as netlists
use Rattle.wdf_stages.specs.declared.design_stop.DesignStop.{DesignStop}
use Rattle.wdf_stages.specs.declared.design_stop.DesignStop.TheVariants as designs
use Rattle.wdf_stages.specs.declared.bound_stop.BoundStop.{BoundStop}
use Rattle.wdf_stages.specs.declared.bound_stop.BoundStop.TheVariants as bounds
use Rattle.wdf_stages.specs.declared.plan_bounds.PlanBounds.{PlanBounds}
use Rattle.wdf_stages.specs.declared.open_stop.OpenStop.{OpenStop}
use Rattle.wdf_stages.specs.declared.open_stop.OpenStop.TheVariants as openings
use Rattle.wdf_stages.specs.FileLoading.{IsFile, FileRefuses}
use Rattle.wdf_stages.specs.NetlistLoading.{Loads, NetlistRefuses}
use Rattle.wdf_stages.specs.Designing.{DesignRefuses}
use Rattle.wdf_stages.specs.Bounding.{AreBounded, BoundRefuses}
use Rattle.wdf_stages.specs.Opening.{Terms, Opens, OpenRefuses}

-- a contract allows the answer, which rests on what is told alone: it is neither a fault nor want of memory
abbrev pub IsAllowed : {X E : Type 0} → (gives : X → Type 0) → (refuses : E → Type 0) → (rests : E → Bool) → Result X E → Type 0
IsAllowed gives refuses rests (Ok x) = gives x
IsAllowed gives refuses rests (Err stop) = IsTrue (rests stop) × refuses stop

-- ---- files

abbrev pub rests_on_files : FileStop → Bool
rests_on_files (files_.Missing at) = true
rests_on_files (files_.FileTooLarge at) = true
rests_on_files files_.LoadFault = false
rests_on_files files_.NoMemory = false

abbrev pub IsFileAnswer : Files → (word : ℕ) → (name : List ℕ) → Result (List ℕ) FileStop → Type 0
IsFileAnswer fs word name answer = IsAllowed (IsFile (Some fs) name) (FileRefuses (Some fs) word name) rests_on_files answer

abbrev pub HasOneFile : Type 0
HasOneFile = (fs : Files) (word : ℕ) (name : List ℕ) (x y : Result (List ℕ) FileStop) → IsFileAnswer fs word name x → IsFileAnswer fs word name y → x ≡ y

-- ---- netlists

abbrev pub rests_on_text : NetlistStop → Bool
rests_on_text (netlists.Missing at) = true
rests_on_text (netlists.FileTooLarge at) = true
rests_on_text (netlists.NetText fault) = true
rests_on_text netlists.LoadFault = false
rests_on_text netlists.NoMemory = false

abbrev pub IsNetlistAnswer : Files → (word : ℕ) → (name : List ℕ) → Result NetlistValue NetlistStop → Type 0
IsNetlistAnswer fs word name answer = IsAllowed (Loads (Some fs) name) (NetlistRefuses (Some fs) word name) rests_on_text answer

abbrev pub HasOneNetlist : Type 0
HasOneNetlist = (fs : Files) (word : ℕ) (name : List ℕ) (x y : Result NetlistValue NetlistStop) → IsNetlistAnswer fs word name x → IsNetlistAnswer fs word name y → x ≡ y

-- ---- designs

abbrev pub rests_on_netlist : DesignStop → Bool
rests_on_netlist (designs.NotSeriesParallel side element core) = true
rests_on_netlist (designs.PortRange side element low) = true
rests_on_netlist designs.NoMemory = false

abbrev pub IsDesignAnswer : NetlistValue → (k : ℕ) → Result Networks DesignStop → Type 0
IsDesignAnswer n k answer = IsAllowed (IsDesigned n k) (DesignRefuses n k) rests_on_netlist answer

abbrev pub HasOneDesign : Type 0
HasOneDesign = (n : NetlistValue) (k : ℕ) (x y : Result Networks DesignStop) → IsDesignAnswer n k x → IsDesignAnswer n k y → x ≡ y

-- ---- bounds

abbrev pub rests_on_plan : BoundStop → Bool
rests_on_plan (bounds.Bound side element ratio need limit) = true
rests_on_plan bounds.NoMemory = false

abbrev pub IsBoundAnswer : Form → Networks → PlanOf → Result PlanBounds BoundStop → Type 0
IsBoundAnswer form ns plan answer = IsAllowed (AreBounded ns plan) (BoundRefuses form ns plan) rests_on_plan answer

abbrev pub HasOneBound : Type 0
HasOneBound = (form : Form) (ns : Networks) (plan : PlanOf) (x y : Result PlanBounds BoundStop) → IsBoundAnswer form ns plan x → IsBoundAnswer form ns plan y → x ≡ y

-- ---- openings

abbrev pub rests_on_input : OpenStop → Bool
rests_on_input (openings.BadWave kind at) = true
rests_on_input (openings.RateMismatch netlist wave) = true
rests_on_input (openings.ChannelCount have want) = true
rests_on_input (openings.TooLong frames limit) = true
rests_on_input openings.ReadFault = false

-- whatever is left of the input then
abbrev pub IsOpenAnswer : Terms → (bytes : List ℕ) → (left' : Option (List ℕ)) → Result Head OpenStop → Type 0
IsOpenAnswer t bytes left' answer = IsAllowed (Opens t (Some bytes) left') (OpenRefuses t (Some bytes) left') rests_on_input answer

abbrev pub HasOneOpening : Type 0
HasOneOpening = (t : Terms) (bytes : List ℕ) (l m : Option (List ℕ)) (x y : Result Head OpenStop) → IsOpenAnswer t bytes l x → IsOpenAnswer t bytes m y → x ≡ y
