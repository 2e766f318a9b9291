-- The texts of the worked note, computed.
use Rattle.std.proofs.Common.{◌≡◌, ℕ, ◌*◌, true, List, [], ◌∷◌, ◌++◌, refl, ap, ◌∙◌, arith}
use Rattle.std.specs.Prelude.{codes, decimal, max}
use Rattle.std.specs.Fmt.{digits}
use Rattle.std.specs.Int.{div_ceil}
use Rattle.wdf_law.specs.declared.side.Side.TheVariants.{Whole}
use Rattle.wdf_quant.specs.declared.port_ratio.PortRatio.{PortRatio}
use Rattle.wdf_quant.specs.PortBound.{number_at, walk}
use Rattle.wdf_bounds.specs.WordBound.{bound, bounds_of, greatest_of, root_up, word_limit}
use Rattle.wdf_reporting.specs.CountLines.{count_text}
use Rattle.wdf_reporting.specs.Notes.{ledger_texts}
use Rattle.wdf_reporting.specs.ReportText.{circuit_lines, element_line, element_lines, head_lines, largest_line, lines_text, report_text}
use Rattle.wdf_reporting.specs.WorkedNotes.{AreWorkedNotes, divider, divider_elements, divider_network, divider_networks, divider_totals, usual_plan}
use Rattle.wdf_reporting.proofs.Roots.{root_is}

-- ---- the bounds

-- the bound of a port under the usual plan, by the root of its number
bound_is : (p root : ℕ) → root_up p ≡ root → bound usual_plan p ≡ div_ceil (524288 * 8192 * root) 1048576
bound_is p root same =
    let frames : root_up 67108864 ≡ 8192 = root_is 67108864 8191 (omega arith) (omega arith) in
    ap (λ (a : ℕ). div_ceil (524288 * a * root_up p) 1048576) frames ∙ ap (λ (b : ℕ). div_ceil (524288 * 8192 * b) 1048576) same

source_bound : bound usual_plan 1099511627776 ≡ 4294967296
source_bound = bound_is 1099511627776 1048576 (root_is 1099511627776 1048575 (omega arith) (omega arith))

load_bound : bound usual_plan 137401205888 ≡ 1518292992
load_bound = bound_is 137401205888 370677 (root_is 137401205888 370676 (omega arith) (omega arith))

largest_bound : max (bound usual_plan 1099511627776) (max (bound usual_plan 137401205888) 0) ≡ 4294967296
largest_bound = ap (λ (a : ℕ). max a (max (bound usual_plan 137401205888) 0)) source_bound ∙ ap (λ (b : ℕ). max 4294967296 (max b 0)) load_bound ∙ omega arith

-- ---- the numbers of the ports

source_number : number_at divider_network 0 ≡ 1099511627776
source_number = refl

load_number : number_at divider_network 1 ≡ 137401205888
load_number = refl

ports_are : walk divider_network ≡ record { elem = 0; leaf = true; ratio = 1099511627776 } ∷ record { elem = 1; leaf = true; ratio = 137401205888 } ∷ []
ports_are = refl

-- ---- the lines

source_with : (words : ℕ) → element_line 48000 divider_elements 0 words ≡ codes "element S source ratio 1099511627776 bound " ++ decimal words
unfolding digits
source_with words = refl

load_with : (words : ℕ) → element_line 48000 divider_elements 1 words ≡ codes "element L r ratio 137438953472 bound " ++ decimal words
unfolding digits
load_with words = refl

source_line : element_line 48000 divider_elements 0 (bound usual_plan (number_at divider_network 0)) ≡ codes "element S source ratio 1099511627776 bound 4294967296"
unfolding digits
source_line = ap (element_line 48000 divider_elements 0) (ap (bound usual_plan) source_number ∙ source_bound) ∙ source_with 4294967296

load_line : element_line 48000 divider_elements 1 (bound usual_plan (number_at divider_network 1)) ≡ codes "element L r ratio 137438953472 bound 1518292992"
unfolding digits
load_line = ap (element_line 48000 divider_elements 1) (ap (bound usual_plan) load_number ∙ load_bound) ∙ load_with 1518292992

lines_are : element_lines 48000 usual_plan divider_elements divider_network
    ≡ codes "element S source ratio 1099511627776 bound 4294967296" ∷ codes "element L r ratio 137438953472 bound 1518292992" ∷ []
lines_are =
    ap (λ (line : List ℕ). line ∷ element_line 48000 divider_elements 1 (bound usual_plan (number_at divider_network 1)) ∷ []) source_line
    ∙ ap (λ (line : List ℕ). codes "element S source ratio 1099511627776 bound 4294967296" ∷ line ∷ []) load_line

largest_is : largest_line usual_plan divider_network ≡ codes "largest 4294967296 limit 70368744177664"
unfolding digits
largest_is =
    ap (λ (ports : List PortRatio). codes "largest " ++ decimal (greatest_of (bounds_of usual_plan ports)) ++ codes " limit " ++ decimal (word_limit usual_plan)) ports_are
    ∙ ap (λ (words : ℕ). codes "largest " ++ decimal words ++ codes " limit " ++ decimal (word_limit usual_plan)) largest_bound

-- those of a circuit with these lines of elements and of the largest bound
abbrev circuit_with : List (List ℕ) → List ℕ → List (List ℕ)
circuit_with lines largest = codes "root S" ∷ lines ++ codes "junction root 1820" ∷ largest ∷ codes "states 0 certified yes" ∷ []

circuit_is : circuit_lines Whole 48000 usual_plan divider_elements divider_network true
    ≡ circuit_with (element_lines 48000 usual_plan divider_elements divider_network) (largest_line usual_plan divider_network)
unfolding digits
circuit_is = refl

-- ---- the texts

abbrev divider_report : List ℕ
divider_report = lines_text
    (codes "wdf report 1"
    ∷ codes "form ladder"
    ∷ codes "rate 48000"
    ∷ codes "plan k 14 guard 4 shift 0 frames 67108864 amp 32768 bits 16"
    ∷ circuit_with (codes "element S source ratio 1099511627776 bound 4294967296" ∷ codes "element L r ratio 137438953472 bound 1518292992" ∷ [])
    (codes "largest 4294967296 limit 70368744177664"))

report_worked : report_text divider divider_networks usual_plan (λ _. true) ≡ divider_report
unfolding digits
report_worked =
    ap (λ (ls : List (List ℕ)). lines_text (head_lines divider usual_plan ++ ls))
    (circuit_is
    ∙ ap (λ (ls : List (List ℕ)). circuit_with ls (largest_line usual_plan divider_network)) lines_are
    ∙ ap (circuit_with (codes "element S source ratio 1099511627776 bound 4294967296" ∷ codes "element L r ratio 137438953472 bound 1518292992" ∷ [])) largest_is)

pub worked : AreWorkedNotes
unfolding digits
worked = record {
  designed = refl;
  note = ap (λ (text : List ℕ). text ++ count_text 1200 0 ++ ledger_texts divider_networks 1 (λ _ _. divider_totals)) report_worked;
  ledger = refl;
}
