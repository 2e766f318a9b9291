-- Lines that say the same, since they differ in the words of values alone, and these have the same value.
use Rattle.std.proofs.Common.{◌≡◌, ℕ, ◌+◌, List, [], ◌∷◌, ◌++◌, length, Option, Some, None, refl}
use Rattle.std.specs.Prelude.{codes}
use Rattle.wdf_text.specs.DecimalNumber.{DecimalNumber}
use Rattle.wdf_law.specs.declared.kind.Kind.{Kind}
use Rattle.wdf_law.specs.declared.kind.Kind.TheVariants.{Ind, Cap}
use Rattle.wdf_netlist.specs.declared.keyword.Keyword.TheVariants as keywords
use Rattle.wdf_netlist.specs.declared.net_kind.NetKind.{NetKind}
use Rattle.wdf_netlist.specs.Canonical.{Words}
use Rattle.wdf_netlist.specs.Lines.{LineWord}
use Rattle.wdf_netlist.specs.LineRules.{◌>>=◌, element_line, keyword_fault, line_said, new_name, node as node_field, other_node, unless, word_fault}
use Rattle.wdf_netlist.specs.NetlistText.{all_said}
use Rattle.wdf_netlist.specs.Statements.{Statement}
use Rattle.wdf_netlist.proofs.LineBackLemmas.{line_at, lines_at, words_at}
use Rattle.wdf_netlist.proofs.ValueBackLemmas.{IsValueText}
use Rattle.wdf_made.specs.LadderText.{element_words}

-- whatever stands before them, and wherever they stand
abbrev pub IsAlike : Words → Words → Type 0
IsAlike l m = (before : List Statement) (line : ℕ) → line_said before (line_at l line) ≡ line_said before (line_at m line)

abbrev pub AreAlike : List Words → List Words → Type 0
AreAlike [] [] = Unit {0}
AreAlike [] (m ∷ ms) = ⊥
AreAlike (l ∷ ls) [] = ⊥
AreAlike (l ∷ ls) (m ∷ ms) = IsAlike l m × AreAlike ls ms

pub all_alike : (before : List Statement) (ls ms : List Words) (line : ℕ) → AreAlike ls ms → all_said before (lines_at ls line) ≡ all_said before (lines_at ms line)
all_alike before [] [] line alike = refl
all_alike before [] (m ∷ ms) line alike = absurd alike
all_alike before (l ∷ ls) [] line alike = absurd alike
all_alike before (l ∷ ls) (m ∷ ms) line (here, rest) = λ i. here before line i >>= λ (s : Statement). all_alike (before ++ s ∷ []) ls ms (line + 1) rest i

-- ---- the line of an element

words_alike : (before : List Statement) (kind : Kind) (first : LineWord) (line column : ℕ) (name from to text other : List ℕ) (v : DecimalNumber) → IsValueText text v → IsValueText other v
    → element_line before kind first (record { previous = first; name = None; words = words_at (name ∷ from ∷ to ∷ text ∷ []) line column })
    ≡ element_line before kind first (record { previous = first; name = None; words = words_at (name ∷ from ∷ to ∷ other ∷ []) line column })
words_alike before kind first line column name from to text other v a b = by (word_fault before first new_name name) (word_fault before first node_field from) (word_fault before source other_node to) refl refl refl
  where
    source : LineWord
    source = record { bytes = from; line = line; column = column + length name + 1 }

    by : (f g h : Option NetKind) → word_fault before first new_name name ≡ f → word_fault before first node_field from ≡ g → word_fault before source other_node to ≡ h
        → element_line before kind first (record { previous = first; name = None; words = words_at (name ∷ from ∷ to ∷ text ∷ []) line column })
        ≡ element_line before kind first (record { previous = first; name = None; words = words_at (name ∷ from ∷ to ∷ other ∷ []) line column })
    by (Some k) g h e1 e2 e3 = rw e1 refl
    by None (Some k) h e1 e2 e3 = rw (e1, e2) refl
    by None None (Some k) e1 e2 e3 = rw (e1, e2, e3) refl
    by None None None e1 e2 e3 = rw (e1, e2, e3, a.good, b.good, a.value, b.value) refl

pub capacitors_alike : (name from to text other : List ℕ) (v : DecimalNumber) → IsValueText text v → IsValueText other v → IsAlike (element_words (codes "c") name from to text) (element_words (codes "c") name from to other)
capacitors_alike name from to text other v a b before line =
    let first : LineWord = record { bytes = codes "c"; line = line; column = 1 } in
    λ i. unless (keyword_fault before keywords.Capacitor) first None >>= λ (_ : Unit {0}). words_alike before Cap first line 3 name from to text other v a b i

pub inductors_alike : (name from to text other : List ℕ) (v : DecimalNumber) → IsValueText text v → IsValueText other v → IsAlike (element_words (codes "l") name from to text) (element_words (codes "l") name from to other)
inductors_alike name from to text other v a b before line =
    let first : LineWord = record { bytes = codes "l"; line = line; column = 1 } in
    λ i. unless (keyword_fault before keywords.Inductor) first None >>= λ (_ : Unit {0}). words_alike before Ind first line 3 name from to text other v a b i
