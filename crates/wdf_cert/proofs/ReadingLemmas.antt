-- The parts of a certificate's text, read one after the other, and where each may fail.
use Rattle.std.proofs.Common.{◌≡◌, ℕ, zero, suc, ◌+◌, ◌-◌, ◌*◌, ◌<◌, ◌≤◌, List, [], ◌∷◌, ◌++◌, length, take, drop, refl, sym, ap, ◌∙◌, subst, arith}
use Rattle.std.specs.Prelude.{All, decimal, codes}
use Rattle.std.proofs.lemmas.List.{take_all, nil_from_length, take-append-le, drop-append-le, length-drop}
use Rattle.std.proofs.lemmas.List.Elements.{All-cons}
use Rattle.wdf_residue.specs.Residue.{prime, AreResidues}
use Rattle.wdf_cert.specs.declared.cert_text_fault.CertTextFault.{CertTextFault}
use Rattle.wdf_cert.specs.Format.{Format, token, word, mark, number, Misses, HasFault}
use Rattle.wdf_cert.specs.CertText.{line, spaced, number_line, number_lines}
use Rattle.wdf_cert.specs.CertFormat.{word_mark, spaced_numbers, counted_numbers, residue_line, residue_lines, head_format, inverse_format}
use Rattle.wdf_cert.specs.Scanning.{Takes, Fails, plain_part, Reads, ReadsSpaced, ReadsCounted, ReadsLine, ReadsLines, ReadsHead, ReadsInverse}
use Rattle.wdf_cert.proofs.Parts.{token-leads, fails-behind, misses-behind}

-- ---- a word and the byte behind it

pub word_fails_first : (text want : List ℕ) (byte at : ℕ) (e : CertTextFault) → Misses (word want) (drop at text) at e → Fails (plain_part (word_mark want byte)) text at e
word_fails_first text want byte at e h = misses-behind (word want) (plain_part (word_mark want byte)) (λ rest _. token (mark byte) (λ _. rest 0)) text at at e (λ rest fault f. f) h

pub word_fails_second : (text want : List ℕ) (byte at mid : ℕ) (e : CertTextFault) → Takes (word want) 0 text at mid → Misses (mark byte) (drop mid text) mid e
    → Fails (plain_part (word_mark want byte)) text at e
word_fails_second text want byte at mid e t h =
    misses-behind (mark byte) (plain_part (word_mark want byte)) (λ rest _. rest 0) text at mid e
    (λ rest fault f. token-leads (word want) 0 text at mid t (λ _. token (mark byte) (λ _. rest 0)) fault f) h

pub word_reads : (text want : List ℕ) (byte at mid next : ℕ) → Takes (word want) 0 text at mid → Takes (mark byte) 0 text mid next
    → Reads (plain_part (word_mark want byte)) 0 (λ rest. want ++ byte ∷ rest) text at next
word_reads text want byte at mid next t m = record {
  spelled = t.meets.begins.1 ∙ ap (λ (rest : List ℕ). want ++ rest) m.meets.begins.1;
  within = m.within;
  leads = λ rest fault f.
      token-leads (word want) 0 text at mid t (λ _. token (mark byte) (λ _. rest 0)) fault (token-leads (mark byte) 0 text mid next m (λ _. rest 0) fault f);
}

pub ruleset word_reading = (word_fails_first, word_fails_second, word_reads)

-- ---- numbers with a space before each

-- what is wrong behind a place is what is wrong with all
abbrev pub Carries : (ℕ → Format → Format) → ℕ → ℕ → List ℕ → ℕ → ℕ → Type 0
Carries part count i text at place = (rest : ℕ → Format) (fault : CertTextFault) → HasFault (part (count - i) (rest 0)) (drop place text) place fault
    → HasFault (part count (rest 0)) (drop at text) at fault

-- one more is read
spaced-step : (count low high i : ℕ) (text : List ℕ) (at place : ℕ) → i < count
    → Carries (λ c. spaced_numbers c low high) count i text at place
    → (rest : ℕ → Format) (fault : CertTextFault) → HasFault (token (mark 32) (λ _. token (number low high) (λ _. spaced_numbers (count - (i + 1)) low high (rest 0)))) (drop place text) place fault
    → HasFault (spaced_numbers count low high (rest 0)) (drop at text) at fault
spaced-step count low high i text at place less carries rest fault f =
    let next : suc (count - (i + 1)) ≡ count - i = omega arith in
    carries rest fault (subst (λ (c : ℕ). HasFault (spaced_numbers c low high (rest 0)) (drop place text) place fault) next f)

pub spaced_fails_blank : (count low high i : ℕ) (text : List ℕ) (at place : ℕ) (e : CertTextFault) → i < count
    → Carries (λ c. spaced_numbers c low high) count i text at place → Misses (mark 32) (drop place text) place e
    → Fails (plain_part (spaced_numbers count low high)) text at e
spaced_fails_blank count low high i text at place e less carries h =
    misses-behind (mark 32) (plain_part (spaced_numbers count low high)) (λ rest _. token (number low high) (λ _. spaced_numbers (count - (i + 1)) low high (rest 0))) text at place e
    (spaced-step count low high i text at place less carries) h

pub spaced_fails_number : (count low high i : ℕ) (text : List ℕ) (at place mid : ℕ) (e : CertTextFault) → i < count
    → Carries (λ c. spaced_numbers c low high) count i text at place → Takes (mark 32) 0 text place mid → Misses (number low high) (drop mid text) mid e
    → Fails (plain_part (spaced_numbers count low high)) text at e
spaced_fails_number count low high i text at place mid e less carries t h =
    misses-behind (number low high) (plain_part (spaced_numbers count low high)) (λ rest _. spaced_numbers (count - (i + 1)) low high (rest 0)) text at mid e
    (λ rest fault f. spaced-step count low high i text at place less carries rest fault
    (token-leads (mark 32) 0 text place mid t (λ _. token (number low high) (λ _. spaced_numbers (count - (i + 1)) low high (rest 0))) fault f)) h

pub spaced_carries : (count low high i : ℕ) (text : List ℕ) (at place mid next v : ℕ) → i < count
    → Carries (λ c. spaced_numbers c low high) count i text at place → Takes (mark 32) 0 text place mid → Takes (number low high) v text mid next
    → Carries (λ c. spaced_numbers c low high) count (i + 1) text at next
spaced_carries count low high i text at place mid next v less carries t m rest fault f =
    spaced-step count low high i text at place less carries rest fault
    (token-leads (mark 32) 0 text place mid t (λ _. token (number low high) (λ _. spaced_numbers (count - (i + 1)) low high (rest 0))) fault
    (token-leads (number low high) v text mid next m (λ _. spaced_numbers (count - (i + 1)) low high (rest 0)) fault f))

spaced-push : (ns : List ℕ) (v : ℕ) (rest : List ℕ) → spaced (ns ++ v ∷ []) rest ≡ spaced ns (32 ∷ (decimal v ++ rest))
spaced-push [] v rest = refl
spaced-push (n ∷ ns) v rest = ap (λ (xs : List ℕ). 32 ∷ (decimal n ++ xs)) (spaced-push ns v rest)

pub spaced_spelled : (low high : ℕ) (text ns : List ℕ) (at place mid next v : ℕ) → drop at text ≡ spaced ns (drop place text)
    → Takes (mark 32) 0 text place mid → Takes (number low high) v text mid next → drop at text ≡ spaced (ns ++ v ∷ []) (drop next text)
spaced_spelled low high text ns at place mid next v e t m =
    e ∙ (ap (spaced ns) (t.meets.begins.1 ∙ ap (λ (rest : List ℕ). 32 ∷ rest) m.meets.begins.1) ∙ sym (spaced-push ns v (drop next text)))

pub ruleset spaced_reading = (spaced_fails_blank, spaced_fails_number, spaced_carries, spaced_spelled)

-- ---- a line of a word, a count and so many numbers

pub counted_fails_word : (text want : List ℕ) (least most low high at : ℕ) (e : CertTextFault) → Fails (plain_part (word_mark want 32)) text at e
    → Fails (counted_numbers want least most low high) text at e
counted_fails_word text want least most low high at e h =
    fails-behind (plain_part (word_mark want 32)) (counted_numbers want least most low high)
    (λ rest _. token (number least most) (λ count. spaced_numbers count low high (token (mark 10) (λ _. rest count)))) text at at e (λ rest fault f. f) h

-- what a line is behind its word
counted-word : (text want : List ℕ) (least most low high at mid : ℕ) → Reads (plain_part (word_mark want 32)) 0 (λ rest. want ++ 32 ∷ rest) text at mid
    → (rest : ℕ → Format) (fault : CertTextFault)
    → HasFault (token (number least most) (λ count. spaced_numbers count low high (token (mark 10) (λ _. rest count)))) (drop mid text) mid fault
    → HasFault (counted_numbers want least most low high rest) (drop at text) at fault
counted-word text want least most low high at mid w rest fault f =
    w.leads (λ _. token (number least most) (λ count. spaced_numbers count low high (token (mark 10) (λ _. rest count)))) fault f

pub counted_fails_count : (text want : List ℕ) (least most low high at mid : ℕ) (e : CertTextFault) → Reads (plain_part (word_mark want 32)) 0 (λ rest. want ++ 32 ∷ rest) text at mid
    → Misses (number least most) (drop mid text) mid e → Fails (counted_numbers want least most low high) text at e
counted_fails_count text want least most low high at mid e w h =
    misses-behind (number least most) (counted_numbers want least most low high) (λ rest count. spaced_numbers count low high (token (mark 10) (λ _. rest count))) text at mid e
    (counted-word text want least most low high at mid w) h

-- and behind its count
counted-count : (text want : List ℕ) (least most low high at mid behind v : ℕ) → Reads (plain_part (word_mark want 32)) 0 (λ rest. want ++ 32 ∷ rest) text at mid
    → Takes (number least most) v text mid behind → (rest : ℕ → Format) (fault : CertTextFault)
    → HasFault (spaced_numbers v low high (token (mark 10) (λ _. rest v))) (drop behind text) behind fault → HasFault (counted_numbers want least most low high rest) (drop at text) at fault
counted-count text want least most low high at mid behind v w t rest fault f =
    counted-word text want least most low high at mid w rest fault
    (token-leads (number least most) v text mid behind t (λ count. spaced_numbers count low high (token (mark 10) (λ _. rest count))) fault f)

pub counted_fails_numbers : (text want : List ℕ) (least most low high at mid behind v : ℕ) (e : CertTextFault)
    → Reads (plain_part (word_mark want 32)) 0 (λ rest. want ++ 32 ∷ rest) text at mid → Takes (number least most) v text mid behind
    → Fails (plain_part (spaced_numbers v low high)) text behind e → Fails (counted_numbers want least most low high) text at e
counted_fails_numbers text want least most low high at mid behind v e w t h =
    fails-behind (plain_part (spaced_numbers v low high)) (counted_numbers want least most low high) (λ rest _. token (mark 10) (λ _. rest v)) text at behind e
    (counted-count text want least most low high at mid behind v w t) h

pub counted_fails_end : (text want numbers : List ℕ) (least most low high at mid behind last v : ℕ) (e : CertTextFault)
    → Reads (plain_part (word_mark want 32)) 0 (λ rest. want ++ 32 ∷ rest) text at mid → Takes (number least most) v text mid behind
    → ReadsSpaced v low high numbers text behind last → Misses (mark 10) (drop last text) last e → Fails (counted_numbers want least most low high) text at e
counted_fails_end text want numbers least most low high at mid behind last v e w t s h =
    misses-behind (mark 10) (counted_numbers want least most low high) (λ rest _. rest v) text at last e
    (λ rest fault f. counted-count text want least most low high at mid behind v w t rest fault (s.reads.leads (λ _. token (mark 10) (λ _. rest v)) fault f)) h

pub counted_reads : (text want numbers : List ℕ) (least most low high at mid behind last next v : ℕ)
    → Reads (plain_part (word_mark want 32)) 0 (λ rest. want ++ 32 ∷ rest) text at mid → Takes (number least most) v text mid behind
    → ReadsSpaced v low high numbers text behind last → Takes (mark 10) 0 text last next → ReadsCounted want least most low high numbers text at next
counted_reads text want numbers least most low high at mid behind last next v w t s m = record {
  reads = record {
    spelled = w.spelled ∙ ap (λ (rest : List ℕ). want ++ 32 ∷ rest)
        (t.meets.begins.1 ∙ (ap (λ (n : ℕ). decimal n ++ drop behind text) (sym s.count) ∙ ap (λ (rest : List ℕ). decimal (length numbers) ++ rest) (s.reads.spelled ∙ ap (spaced numbers) m.meets.begins.1)));
    within = m.within;
    leads = λ rest fault f. counted-count text want least most low high at mid behind v w t rest fault
        (s.reads.leads (λ _. token (mark 10) (λ _. rest v)) fault
        (token-leads (mark 10) 0 text last next m (λ _. rest v) fault (subst (λ (n : ℕ). HasFault (rest n) (drop next text) next fault) s.count f)));
  };
  count = (let c = s.count in let r = t.meets.range.0 in omega arith, let c = s.count in let r = t.meets.range.1 in omega arith);
  range = s.range;
}

pub ruleset counted_reading = (counted_fails_word, counted_fails_count, counted_fails_numbers, counted_fails_end, counted_reads)

-- ---- a line of residues

abbrev top : ℕ
top = prime - 1

line-first : (n : ℕ) (text : List ℕ) (at : ℕ) → 1 ≤ n → (rest : ℕ → Format) (fault : CertTextFault)
    → HasFault (token (number 0 (prime - 1)) (λ _. spaced_numbers (n - 1) 0 (prime - 1) (token (mark 10) (λ _. rest 0)))) (drop at text) at fault
    → HasFault (residue_line n (rest 0)) (drop at text) at fault
line-first n text at some rest fault f =
    let whole : suc (n - 1) ≡ n = omega arith in
    subst (λ (m : ℕ). HasFault (residue_line m (rest 0)) (drop at text) at fault) whole f

pub line_fails_first : (n : ℕ) (text : List ℕ) (at : ℕ) (e : CertTextFault) → 1 ≤ n → Misses (number 0 (prime - 1)) (drop at text) at e → Fails (plain_part (residue_line n)) text at e
line_fails_first n text at e some h =
    misses-behind (number 0 (prime - 1)) (plain_part (residue_line n)) (λ rest _. spaced_numbers (n - 1) 0 (prime - 1) (token (mark 10) (λ _. rest 0))) text at at e
    (line-first n text at some) h

line-others : (n : ℕ) (text : List ℕ) (at mid v : ℕ) → 1 ≤ n → Takes (number 0 (prime - 1)) v text at mid → (rest : ℕ → Format) (fault : CertTextFault)
    → HasFault (spaced_numbers (n - 1) 0 (prime - 1) (token (mark 10) (λ _. rest 0))) (drop mid text) mid fault → HasFault (residue_line n (rest 0)) (drop at text) at fault
line-others n text at mid v some t rest fault f =
    line-first n text at some rest fault (token-leads (number 0 (prime - 1)) v text at mid t (λ _. spaced_numbers (n - 1) 0 (prime - 1) (token (mark 10) (λ _. rest 0))) fault f)

pub line_fails_others : (n : ℕ) (text : List ℕ) (at mid v : ℕ) (e : CertTextFault) → 1 ≤ n → Takes (number 0 (prime - 1)) v text at mid
    → Fails (plain_part (spaced_numbers (n - 1) 0 (prime - 1))) text mid e → Fails (plain_part (residue_line n)) text at e
line_fails_others n text at mid v e some t h =
    fails-behind (plain_part (spaced_numbers (n - 1) 0 (prime - 1))) (plain_part (residue_line n)) (λ rest _. token (mark 10) (λ _. rest 0)) text at mid e
    (line-others n text at mid v some t) h

pub line_fails_end : (n : ℕ) (text others : List ℕ) (at mid last v : ℕ) (e : CertTextFault) → 1 ≤ n → Takes (number 0 (prime - 1)) v text at mid
    → ReadsSpaced (n - 1) 0 (prime - 1) others text mid last → Misses (mark 10) (drop last text) last e → Fails (plain_part (residue_line n)) text at e
line_fails_end n text others at mid last v e some t s h =
    misses-behind (mark 10) (plain_part (residue_line n)) (λ rest _. rest 0) text at last e
    (λ rest fault f. line-others n text at mid v some t rest fault (s.reads.leads (λ _. token (mark 10) (λ _. rest 0)) fault f)) h

below-top : (others : List ℕ) → All (λ (x : ℕ). (0 ≤ x) × (x ≤ prime - 1)) others → AreResidues others
below-top others h k d less = let r = (h k d less).1 in omega arith

pub line_reads : (n : ℕ) (text others : List ℕ) (at mid last next v : ℕ) → 1 ≤ n → Takes (number 0 (prime - 1)) v text at mid
    → ReadsSpaced (n - 1) 0 (prime - 1) others text mid last → Takes (mark 10) 0 text last next → ReadsLine n (v ∷ others) text at next
line_reads n text others at mid last next v some t s m = record {
  reads = record {
    spelled = t.meets.begins.1 ∙ ap (λ (rest : List ℕ). decimal v ++ rest) (s.reads.spelled ∙ ap (spaced others) m.meets.begins.1);
    within = m.within;
    leads = λ rest fault f. line-others n text at mid v some t rest fault
        (s.reads.leads (λ _. token (mark 10) (λ _. rest 0)) fault (token-leads (mark 10) 0 text last next m (λ _. rest 0) fault f));
  };
  count = (let c = s.count in omega arith);
  residues = All-cons (λ (x : ℕ). x < prime) v others (let r = t.meets.range.1 in omega arith) (below-top others s.range);
}

pub ruleset line_reading = (line_fails_first, line_fails_others, line_fails_end, line_reads)

-- ---- lines of residues

lines-step : (n i : ℕ) (text : List ℕ) (at place : ℕ) → i < n → Carries (λ c. residue_lines c n) n i text at place
    → (rest : ℕ → Format) (fault : CertTextFault) → HasFault (residue_line n (residue_lines (n - (i + 1)) n (rest 0))) (drop place text) place fault
    → HasFault (residue_lines n n (rest 0)) (drop at text) at fault
lines-step n i text at place less carries rest fault f =
    let next : suc (n - (i + 1)) ≡ n - i = omega arith in
    carries rest fault (subst (λ (c : ℕ). HasFault (residue_lines c n (rest 0)) (drop place text) place fault) next f)

pub lines_fails : (n i : ℕ) (text : List ℕ) (at place : ℕ) (e : CertTextFault) → i < n → Carries (λ c. residue_lines c n) n i text at place
    → Fails (plain_part (residue_line n)) text place e → Fails (plain_part (residue_lines n n)) text at e
lines_fails n i text at place e less carries h =
    fails-behind (plain_part (residue_line n)) (plain_part (residue_lines n n)) (λ rest _. residue_lines (n - (i + 1)) n (rest 0)) text at place e
    (lines-step n i text at place less carries) h

pub lines_carries : (n i : ℕ) (text line : List ℕ) (at place next : ℕ) → i < n → Carries (λ c. residue_lines c n) n i text at place → ReadsLine n line text place next
    → Carries (λ c. residue_lines c n) n (i + 1) text at next
lines_carries n i text line at place next less carries r rest fault f =
    lines-step n i text at place less carries rest fault (r.reads.leads (λ _. residue_lines (n - (i + 1)) n (rest 0)) fault f)

-- a line more, at the end
lines-more : (lines n : ℕ) (entries last rest : List ℕ) → length entries ≡ lines * n → length last ≡ n
    → number_lines (suc lines) n (entries ++ last) rest ≡ number_lines lines n entries (number_line last rest)
lines-more zero n entries last rest h k =
    let none : entries ≡ [] = nil_from_length entries (h ∙ omega arith) in
    let same : entries ++ last ≡ last = ap (λ (xs : List ℕ). xs ++ last) none in
    ap (λ (xs : List ℕ). number_line (take n xs) rest) same ∙ ap (λ (xs : List ℕ). number_line xs rest) (take_all n last (omega arith))
lines-more (suc lines) n entries last rest h k =
    let more : suc lines * n ≡ n + lines * n = omega arith in
    let long : n ≤ length entries = omega arith in
    let first : take n (entries ++ last) ≡ take n entries = take-append-le n entries last long in
    let others : drop n (entries ++ last) ≡ drop n entries ++ last = drop-append-le n entries last long in
    let left : length (drop n entries) ≡ lines * n = length-drop n entries ∙ omega arith in
    ap (λ (xs : List ℕ). number_line xs (number_lines (suc lines) n (drop n (entries ++ last)) rest)) first
    ∙ ap (number_line (take n entries))
    (ap (λ (xs : List ℕ). number_lines (suc lines) n xs rest) others ∙ lines-more lines n (drop n entries) last rest left k)

pub lines_spelled : (n i : ℕ) (text entries line : List ℕ) (at place next : ℕ) → length entries ≡ i * n → drop at text ≡ number_lines i n entries (drop place text)
    → ReadsLine n line text place next → drop at text ≡ number_lines (i + 1) n (entries ++ line) (drop next text)
lines_spelled n i text entries line at place next h e r =
    let step : suc i ≡ i + 1 = omega arith in
    e ∙ (ap (number_lines i n entries) r.reads.spelled
    ∙ (sym (lines-more i n entries line (drop next text) h r.count) ∙ ap (λ (c : ℕ). number_lines c n (entries ++ line) (drop next text)) step))

pub ruleset lines_reading = (lines_fails, lines_carries, lines_spelled)

-- ---- the head

-- what is wrong behind a word and its byte
word-leads : (text want : List ℕ) (byte at next : ℕ) → Reads (plain_part (word_mark want byte)) 0 (λ rest. want ++ byte ∷ rest) text at next
    → (rest : Format) (fault : CertTextFault) → HasFault rest (drop next text) next fault → HasFault (word_mark want byte rest) (drop at text) at fault
word-leads text want byte at next w rest fault f = w.leads (λ _. rest) fault f

abbrev pub ReadsWord : List ℕ → List ℕ → ℕ → ℕ → ℕ → Type 0
ReadsWord text want byte at next = Reads (plain_part (word_mark want byte)) 0 (λ rest. want ++ byte ∷ rest) text at next

-- the head behind its first, its second and its third word
abbrev width_part : (ℕ → Format) → Format
width_part rest = token (number 1 20) (λ k. token (mark 10) (λ _. rest k))

abbrev third_part : (ℕ → Format) → Format
third_part rest = word_mark (codes "k") 32 (width_part rest)

abbrev second_part : (ℕ → Format) → Format
second_part rest = word_mark (codes "1") 10 (third_part rest)

pub head_fails_first : (text : List ℕ) (at : ℕ) (e : CertTextFault) → Fails (plain_part (word_mark (codes "wdfcert") 32)) text at e → Fails head_format text at e
head_fails_first text at e h = fails-behind (plain_part (word_mark (codes "wdfcert") 32)) head_format (λ rest _. second_part rest) text at at e (λ rest fault f. f) h

pub head_fails_second : (text : List ℕ) (at a : ℕ) (e : CertTextFault) → ReadsWord text (codes "wdfcert") 32 at a → Fails (plain_part (word_mark (codes "1") 10)) text a e
    → Fails head_format text at e
head_fails_second text at a e w h =
    fails-behind (plain_part (word_mark (codes "1") 10)) head_format (λ rest _. third_part rest) text at a e
    (λ rest fault f. word-leads text (codes "wdfcert") 32 at a w (second_part rest) fault f) h

pub head_fails_third : (text : List ℕ) (at a b : ℕ) (e : CertTextFault) → ReadsWord text (codes "wdfcert") 32 at a → ReadsWord text (codes "1") 10 a b
    → Fails (plain_part (word_mark (codes "k") 32)) text b e → Fails head_format text at e
head_fails_third text at a b e w x h =
    fails-behind (plain_part (word_mark (codes "k") 32)) head_format (λ rest _. width_part rest) text at b e
    (λ rest fault f. word-leads text (codes "wdfcert") 32 at a w (second_part rest) fault (word-leads text (codes "1") 10 a b x (third_part rest) fault f)) h

head-width : (text : List ℕ) (at a b c : ℕ) → ReadsWord text (codes "wdfcert") 32 at a → ReadsWord text (codes "1") 10 a b → ReadsWord text (codes "k") 32 b c
    → (rest : ℕ → Format) (fault : CertTextFault) → HasFault (width_part rest) (drop c text) c fault → HasFault (head_format rest) (drop at text) at fault
head-width text at a b c w x y rest fault f =
    word-leads text (codes "wdfcert") 32 at a w (second_part rest) fault
    (word-leads text (codes "1") 10 a b x (third_part rest) fault (word-leads text (codes "k") 32 b c y (width_part rest) fault f))

pub head_fails_width : (text : List ℕ) (at a b c : ℕ) (e : CertTextFault) → ReadsWord text (codes "wdfcert") 32 at a → ReadsWord text (codes "1") 10 a b → ReadsWord text (codes "k") 32 b c
    → Misses (number 1 20) (drop c text) c e → Fails head_format text at e
head_fails_width text at a b c e w x y h =
    misses-behind (number 1 20) head_format (λ rest k. token (mark 10) (λ _. rest k)) text at c e (head-width text at a b c w x y) h

pub head_fails_end : (text : List ℕ) (at a b c d k : ℕ) (e : CertTextFault) → ReadsWord text (codes "wdfcert") 32 at a → ReadsWord text (codes "1") 10 a b → ReadsWord text (codes "k") 32 b c
    → Takes (number 1 20) k text c d → Misses (mark 10) (drop d text) d e → Fails head_format text at e
head_fails_end text at a b c d k e w x y t h =
    misses-behind (mark 10) head_format (λ rest _. rest k) text at d e
    (λ rest fault f. head-width text at a b c w x y rest fault (token-leads (number 1 20) k text c d t (λ k. token (mark 10) (λ _. rest k)) fault f)) h

pub head_reads : (text : List ℕ) (at a b c d next k : ℕ) → ReadsWord text (codes "wdfcert") 32 at a → ReadsWord text (codes "1") 10 a b → ReadsWord text (codes "k") 32 b c
    → Takes (number 1 20) k text c d → Takes (mark 10) 0 text d next → ReadsHead k text at next
head_reads text at a b c d next k w x y t m = record {
  reads = record {
    spelled = w.spelled ∙ ap (λ (rest : List ℕ). codes "wdfcert" ++ 32 ∷ rest) (x.spelled ∙ ap (λ (rest : List ℕ). codes "1" ++ 10 ∷ rest)
        (y.spelled ∙ ap (λ (rest : List ℕ). codes "k" ++ 32 ∷ rest) (t.meets.begins.1 ∙ ap (λ (rest : List ℕ). decimal k ++ rest) m.meets.begins.1)));
    within = m.within;
    leads = λ rest fault f. head-width text at a b c w x y rest fault
        (token-leads (number 1 20) k text c d t (λ k. token (mark 10) (λ _. rest k)) fault (token-leads (mark 10) 0 text d next m (λ _. rest k) fault f));
  };
  range = t.meets.range;
}

pub ruleset head_reading = (head_fails_first, head_fails_second, head_fails_third, head_fails_width, head_fails_end, head_reads)

-- ---- the inverse and the end

pub inverse_fails_word : (text : List ℕ) (n at : ℕ) (e : CertTextFault) → Fails (plain_part (word_mark (codes "inverse") 10)) text at e → Fails (plain_part (inverse_format n)) text at e
inverse_fails_word text n at e h =
    fails-behind (plain_part (word_mark (codes "inverse") 10)) (plain_part (inverse_format n)) (λ rest _. residue_lines n n (word_mark (codes "end") 10 (rest 0))) text at at e (λ rest fault f. f) h

pub inverse_fails_lines : (text : List ℕ) (n at a : ℕ) (e : CertTextFault) → ReadsWord text (codes "inverse") 10 at a → Fails (plain_part (residue_lines n n)) text a e
    → Fails (plain_part (inverse_format n)) text at e
inverse_fails_lines text n at a e w h =
    fails-behind (plain_part (residue_lines n n)) (plain_part (inverse_format n)) (λ rest _. word_mark (codes "end") 10 (rest 0)) text at a e
    (λ rest fault f. word-leads text (codes "inverse") 10 at a w (residue_lines n n (word_mark (codes "end") 10 (rest 0))) fault f) h

pub inverse_fails_end : (text numbers : List ℕ) (n at a b : ℕ) (e : CertTextFault) → ReadsWord text (codes "inverse") 10 at a → ReadsLines n n numbers text a b
    → Fails (plain_part (word_mark (codes "end") 10)) text b e → Fails (plain_part (inverse_format n)) text at e
inverse_fails_end text numbers n at a b e w r h =
    fails-behind (plain_part (word_mark (codes "end") 10)) (plain_part (inverse_format n)) (λ rest _. rest 0) text at b e
    (λ rest fault f. word-leads text (codes "inverse") 10 at a w (residue_lines n n (word_mark (codes "end") 10 (rest 0))) fault
    (r.reads.leads (λ _. word_mark (codes "end") 10 (rest 0)) fault f)) h

pub inverse_reads : (text numbers : List ℕ) (n at a b next : ℕ) → ReadsWord text (codes "inverse") 10 at a → ReadsLines n n numbers text a b → ReadsWord text (codes "end") 10 b next
    → ReadsInverse n numbers text at next
inverse_reads text numbers n at a b next w r x = record {
  reads = record {
    spelled = w.spelled ∙ ap (λ (rest : List ℕ). codes "inverse" ++ 10 ∷ rest) (r.reads.spelled ∙ ap (number_lines n n numbers) x.spelled);
    within = x.within;
    leads = λ rest fault f. word-leads text (codes "inverse") 10 at a w (residue_lines n n (word_mark (codes "end") 10 (rest 0))) fault
        (r.reads.leads (λ _. word_mark (codes "end") 10 (rest 0)) fault (word-leads text (codes "end") 10 b next x (rest 0) fault f));
  };
  count = r.count;
  residues = r.residues;
}

pub ruleset inverse_reading = (inverse_fails_word, inverse_fails_lines, inverse_fails_end, inverse_reads)
