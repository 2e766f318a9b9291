-- A text is that of one list of certificates, and has no fault.
use Rattle.std.proofs.Common.{◌≡◌, ℕ, zero, suc, ◌+◌, ◌-◌, ◌*◌, ◌^◌, ◌<◌, ◌≤◌, true, List, [], ◌∷◌, ◌++◌, length, take, drop, refl, sym, ap, ◌∙◌, subst, arith}
use Rattle.std.specs.Prelude.{All, decimal, codes, None, Some}
use Rattle.std.proofs.lemmas.List.{append_cancel_left, take-append-drop, length-take-le, length-drop}
use Rattle.std.proofs.lemmas.List.Elements.{All-head, All-tail, All-take, All-drop}
use Rattle.std.proofs.Math.Nat.{pow-le-pow_right}
use mathlib.Core.Logic.{inl, inr}
use Rattle.wdf_residue.specs.Residue.{prime, AreResidues}
use Rattle.wdf_check.specs.Certificate.{Certificate, HasSquareInverse}
use Rattle.wdf_cert.specs.declared.cert_text_fault.CertTextFault.{CertTextFault}
use Rattle.wdf_cert.specs.Format.{Format, finish, finish_or, token, Slot, word, mark, number, ends_word, spelled, Begins, IsInSlot, Meets, HasFault}
use Rattle.wdf_cert.specs.CertText.{line, spaced, counted, number_line, number_lines, cert_text, cert_text_before, IsInRange}
use Rattle.wdf_cert.specs.CertFormat.{word_mark, spaced_numbers, counted_numbers, residue_line, residue_lines, inverse_format, cert_format, file_format}
use Rattle.wdf_cert.specs.Laws.{IsOneFile, IsAccepted, IsOneFault}
use Rattle.wdf_cert.proofs.OneToken.{one-token, past}

-- ---- no word runs into what stands behind it

spaced-ends : (ns rest : List ℕ) → ends_word rest ≡ true → ends_word (spaced ns rest) ≡ true
spaced-ends [] rest h = h
spaced-ends (n ∷ ns) rest h = refl

-- ---- a text is written in one way

number-one : (m n : ℕ) (r s : List ℕ) → m < 10 ^ 20 → n < 10 ^ 20 → ends_word r ≡ true → ends_word s ≡ true → decimal m ++ r ≡ decimal n ++ s → (m ≡ n) × (r ≡ s)
number-one m n r s small small' er es e = one-token (number 0 0) m n (decimal m ++ r) r s (small, refl, er) (small', e, es)

abbrev Small : ℕ → Type 0
Small n = n < 10 ^ 20

tail-same : (a b : ℕ) (r s : List ℕ) → a ∷ r ≡ b ∷ s → r ≡ s
tail-same a b r s e = cc

spaced-one : (ns ms r s : List ℕ) → length ns ≡ length ms → All Small ns → All Small ms → ends_word r ≡ true → ends_word s ≡ true → spaced ns r ≡ spaced ms s → (ns ≡ ms) × (r ≡ s)
spaced-one [] [] r s same small small' er es e = (refl, e)
spaced-one [] (m ∷ ms) r s same small small' er es e = absurd (omega arith)
spaced-one (n ∷ ns) [] r s same small small' er es e = absurd (omega arith)
spaced-one (n ∷ ns) (m ∷ ms) r s same small small' er es e =
    let first = number-one n m (spaced ns r) (spaced ms s) (All-head Small n ns small) (All-head Small m ms small') (spaced-ends ns r er) (spaced-ends ms s es)
    (tail-same 32 32 (decimal n ++ spaced ns r) (decimal m ++ spaced ms s) e) in
    let others = spaced-one ns ms r s (omega arith) (All-tail Small n ns small) (All-tail Small m ms small') er es first.1 in
    ((λ i. first.0 i ∷ others.0 i), others.1)

counted-one : (want ns ms r s : List ℕ) → length ns < 10 ^ 20 → length ms < 10 ^ 20 → All Small ns → All Small ms → counted want ns r ≡ counted want ms s → (ns ≡ ms) × (r ≡ s)
counted-one want ns ms r s few few' small small' e =
    let behind = append_cancel_left want (32 ∷ (decimal (length ns) ++ spaced ns (10 ∷ r))) (32 ∷ (decimal (length ms) ++ spaced ms (10 ∷ s))) e in
    let count = number-one (length ns) (length ms) (spaced ns (10 ∷ r)) (spaced ms (10 ∷ s)) few few' (spaced-ends ns (10 ∷ r) refl) (spaced-ends ms (10 ∷ s) refl)
    (tail-same 32 32 (decimal (length ns) ++ spaced ns (10 ∷ r)) (decimal (length ms) ++ spaced ms (10 ∷ s)) behind) in
    let numbers = spaced-one ns ms (10 ∷ r) (10 ∷ s) count.0 small small' refl refl count.1 in
    (numbers.0, tail-same 10 10 r s numbers.1)

line-one : (ns ms r s : List ℕ) → length ns ≡ length ms → All Small ns → All Small ms → number_line ns r ≡ number_line ms s → (ns ≡ ms) × (r ≡ s)
line-one [] [] r s same small small' e = (refl, tail-same 10 10 r s e)
line-one [] (m ∷ ms) r s same small small' e = absurd (omega arith)
line-one (n ∷ ns) [] r s same small small' e = absurd (omega arith)
line-one (n ∷ ns) (m ∷ ms) r s same small small' e =
    let first = number-one n m (spaced ns (10 ∷ r)) (spaced ms (10 ∷ s)) (All-head Small n ns small) (All-head Small m ms small') (spaced-ends ns (10 ∷ r) refl) (spaced-ends ms (10 ∷ s) refl) e in
    let others = spaced-one ns ms (10 ∷ r) (10 ∷ s) (omega arith) (All-tail Small n ns small) (All-tail Small m ms small') refl refl first.1 in
    ((λ i. first.0 i ∷ others.0 i), tail-same 10 10 r s others.1)

lines-one : (lines n : ℕ) (ns ms r s : List ℕ) → length ns ≡ lines * n → length ms ≡ lines * n → All Small ns → All Small ms → number_lines lines n ns r ≡ number_lines lines n ms s
    → (ns ≡ ms) × (r ≡ s)
lines-one zero n [] [] r s h k small small' e = (refl, e)
lines-one zero n [] (m ∷ ms) r s h k small small' e = absurd (omega arith)
lines-one zero n (x ∷ ns) ms r s h k small small' e = absurd (omega arith)
lines-one (suc lines) n ns ms r s h k small small' e =
    let more : suc lines * n ≡ n + lines * n = omega arith in
    let long = length-take-le n ns (omega arith) in
    let long' = length-take-le n ms (omega arith) in
    let left = length-drop n ns in
    let left' = length-drop n ms in
    let first = line-one (take n ns) (take n ms) (number_lines lines n (drop n ns) r) (number_lines lines n (drop n ms) s) (long ∙ sym long')
    (All-take Small n ns small) (All-take Small n ms small') e in
    let others = lines-one lines n (drop n ns) (drop n ms) r s (omega arith) (omega arith) (All-drop Small n ns small) (All-drop Small n ms small') first.1 in
    (sym (take-append-drop n ns) ∙ ((λ i. first.0 i ++ others.0 i) ∙ take-append-drop n ms), others.1)

-- the numbers of a certificate have fewer than 21 digits
multipliers-small : (c : Certificate) → IsInRange c → All Small c.multipliers
multipliers-small c h i d less =
    let range = h.width.1 in
    let two : 0 < 2 = omega arith in
    let power : 2 ^ c.k ≤ 2 ^ 20 = pow-le-pow_right two range in
    let most = (h.multipliers i d less).1 in
    omega arith

rows-small : (c : Certificate) → IsInRange c → All Small c.rows
rows-small c h i d less = let most = h.rows i d less in omega arith

residues-small : (ns : List ℕ) → AreResidues ns → All Small ns
residues-small ns h i d less = let most = h i d less in omega arith

few-small : (n : ℕ) → n ≤ 127 → n < 10 ^ 20
few-small n h = omega arith

pub cert-one : (c d : Certificate) (r s : List ℕ) → IsInRange c → IsInRange d → HasSquareInverse c → HasSquareInverse d → cert_text_before c r ≡ cert_text_before d s
    → (c ≡ d) × (r ≡ s)
cert-one c d r s in-c in-d square-c square-d e =
    let after-c = λ (rows : List ℕ). number_lines (length rows) (length rows) c.inverse (line (codes "end") r) in
    let few-c = in-c.few_rows in
    let few-d = in-d.few_rows in
    let small-c = in-c.width.1 in
    let small-d = in-d.width.1 in
    let head = append_cancel_left (codes "wdfcert 1" ++ 10 ∷ codes "k ")
    (decimal c.k ++ 10 ∷ counted (codes "multipliers") c.multipliers (counted (codes "rows") c.rows (line (codes "inverse") (after-c c.rows))))
    (decimal d.k ++ 10 ∷ counted (codes "multipliers") d.multipliers (counted (codes "rows") d.rows (line (codes "inverse")
    (number_lines (length d.rows) (length d.rows) d.inverse (line (codes "end") s))))) e in
    let width = number-one c.k d.k
    (10 ∷ counted (codes "multipliers") c.multipliers (counted (codes "rows") c.rows (line (codes "inverse") (after-c c.rows))))
    (10 ∷ counted (codes "multipliers") d.multipliers (counted (codes "rows") d.rows (line (codes "inverse")
    (number_lines (length d.rows) (length d.rows) d.inverse (line (codes "end") s)))))
    (omega arith) (omega arith) refl refl head in
    let multipliers = counted-one (codes "multipliers") c.multipliers d.multipliers
    (counted (codes "rows") c.rows (line (codes "inverse") (after-c c.rows)))
    (counted (codes "rows") d.rows (line (codes "inverse") (number_lines (length d.rows) (length d.rows) d.inverse (line (codes "end") s))))
    (few-small (length c.multipliers) in-c.few_multipliers) (few-small (length d.multipliers) in-d.few_multipliers) (multipliers-small c in-c) (multipliers-small d in-d)
    (tail-same 10 10 (counted (codes "multipliers") c.multipliers (counted (codes "rows") c.rows (line (codes "inverse") (after-c c.rows))))
    (counted (codes "multipliers") d.multipliers (counted (codes "rows") d.rows (line (codes "inverse")
    (number_lines (length d.rows) (length d.rows) d.inverse (line (codes "end") s))))) width.1) in
    let rows = counted-one (codes "rows") c.rows d.rows (line (codes "inverse") (after-c c.rows))
    (line (codes "inverse") (number_lines (length d.rows) (length d.rows) d.inverse (line (codes "end") s)))
    (few-small (length c.rows) (omega arith)) (few-small (length d.rows) (omega arith)) (rows-small c in-c) (rows-small d in-d) multipliers.1 in
    let count : length c.rows ≡ length d.rows = ap length rows.0 in
    let behind = append_cancel_left (codes "inverse" ++ 10 ∷ []) (after-c c.rows)
    (number_lines (length d.rows) (length d.rows) d.inverse (line (codes "end") s)) rows.1 in
    let same-rows : after-c d.rows ≡ after-c c.rows = ap after-c (sym rows.0) in
    let inverse = lines-one (length d.rows) (length d.rows) c.inverse d.inverse (line (codes "end") r) (line (codes "end") s)
    (square-c.count ∙ ap (λ (n : ℕ). n * n) count) square-d.count (residues-small c.inverse square-c.residues) (residues-small d.inverse square-d.residues)
    (same-rows ∙ behind) in (
      (λ i. record { k = width.0 i; multipliers = multipliers.0 i; rows = rows.0 i; inverse = inverse.0 i }),
      append_cancel_left (codes "end" ++ 10 ∷ []) r s inverse.1,
    )

none-empty : (b : ℕ) (r : List ℕ) → [] ≡ b ∷ r → ⊥
none-empty b r e = absurd (cc)

pub one-file : IsOneFile
one-file first first' None None in-f in-f' square square' e = ((cert-one first first' [] [] in-f in-f' square square' e).0, refl)
one-file first first' None (Some second') in-f in-f' square square' e =
    let rest = (cert-one first first' [] (cert_text second') in-f in-f'.0 square square'.0 e).1 in
    absurd (none-empty 119 (drop 1 (cert_text second')) rest)
one-file first first' (Some second) None in-f in-f' square square' e =
    let rest = (cert-one first first' (cert_text second) [] in-f.0 in-f' square.0 square' e).1 in
    absurd (none-empty 119 (drop 1 (cert_text second)) (sym rest))
one-file first first' (Some second) (Some second') in-f in-f' square square' e =
    let one = cert-one first first' (cert_text second) (cert_text second') in-f.0 in-f'.0 square.0 square'.0 e in
    let two = cert-one second second' [] [] in-f.1 in-f'.1 square.1 square'.1 one.1 in
    (one.0, ap (λ (x : Certificate). Some x) two.0)

-- ---- a text has no fault

-- where a token is there, what is wrong is wrong behind it
token-past : (slot : Slot) (rest : ℕ → Format) (v : ℕ) (text behind : List ℕ) (at : ℕ) (fault : CertTextFault) → Meets slot v text behind → HasFault (token slot rest) text at fault
    → (p : ℕ) × HasFault (rest v) behind p fault
token-past slot rest v text behind at fault meets h = (at + length (spelled slot v), past slot rest v text behind at fault meets h)

word-past : (bytes : List ℕ) (byte : ℕ) (rest : Format) (behind : List ℕ) (at : ℕ) (fault : CertTextFault) → ends_word (byte ∷ behind) ≡ true
    → HasFault (word_mark bytes byte rest) (bytes ++ byte ∷ behind) at fault → (p : ℕ) × HasFault rest behind p fault
word-past bytes byte rest behind at fault ends h =
    let first = token-past (word bytes) (λ _. token (mark byte) (λ _. rest)) 0 (bytes ++ byte ∷ behind) (byte ∷ behind) at fault
    (record { begins = (refl, refl, ends); range = tt }) h in
    token-past (mark byte) (λ _. rest) 0 (byte ∷ behind) behind first.0 fault (record { begins = (refl, refl); range = tt }) first.1

mark-past : (byte : ℕ) (rest : Format) (behind : List ℕ) (at : ℕ) (fault : CertTextFault) → HasFault (token (mark byte) (λ _. rest)) (byte ∷ behind) at fault
    → (p : ℕ) × HasFault rest behind p fault
mark-past byte rest behind at fault h = token-past (mark byte) (λ _. rest) 0 (byte ∷ behind) behind at fault (record { begins = (refl, refl); range = tt }) h

number-past : (low high v : ℕ) (rest : ℕ → Format) (behind : List ℕ) (at : ℕ) (fault : CertTextFault) → v < 10 ^ 20 → (low ≤ v) × (v ≤ high) → ends_word behind ≡ true
    → HasFault (token (number low high) rest) (decimal v ++ behind) at fault → (p : ℕ) × HasFault (rest v) behind p fault
number-past low high v rest behind at fault small range ends h =
    token-past (number low high) rest v (decimal v ++ behind) behind at fault (record { begins = (small, refl, ends); range = range }) h

spaced-past : (low high : ℕ) (ns : List ℕ) (rest : Format) (behind : List ℕ) (at : ℕ) (fault : CertTextFault) → All Small ns → All (λ (n : ℕ). (low ≤ n) × (n ≤ high)) ns
    → ends_word behind ≡ true → HasFault (spaced_numbers (length ns) low high rest) (spaced ns behind) at fault → (p : ℕ) × HasFault rest behind p fault
spaced-past low high [] rest behind at fault small range ends h = (at, h)
spaced-past low high (n ∷ ns) rest behind at fault small range ends h =
    let blank = mark-past 32 (token (number low high) (λ _. spaced_numbers (length ns) low high rest)) (decimal n ++ spaced ns behind) at fault h in
    let one = number-past low high n (λ _. spaced_numbers (length ns) low high rest) (spaced ns behind) blank.0 fault (All-head Small n ns small)
    (All-head (λ (n : ℕ). (low ≤ n) × (n ≤ high)) n ns range) (spaced-ends ns behind ends) blank.1 in
    spaced-past low high ns rest behind one.0 fault (All-tail Small n ns small) (All-tail (λ (n : ℕ). (low ≤ n) × (n ≤ high)) n ns range) ends one.1

counted-past : (want : List ℕ) (least most low high : ℕ) (ns : List ℕ) (rest : ℕ → Format) (behind : List ℕ) (at : ℕ) (fault : CertTextFault)
    → length ns < 10 ^ 20 → (least ≤ length ns) × (length ns ≤ most) → All Small ns → All (λ (n : ℕ). (low ≤ n) × (n ≤ high)) ns
    → HasFault (counted_numbers want least most low high rest) (counted want ns behind) at fault → (p : ℕ) × HasFault (rest (length ns)) behind p fault
counted-past want least most low high ns rest behind at fault few count small range h =
    let first = word-past want 32 (token (number least most) (λ count. spaced_numbers count low high (token (mark 10) (λ _. rest count))))
    (decimal (length ns) ++ spaced ns (10 ∷ behind)) at fault refl h in
    let second = number-past least most (length ns) (λ count. spaced_numbers count low high (token (mark 10) (λ _. rest count))) (spaced ns (10 ∷ behind)) first.0 fault few count
    (spaced-ends ns (10 ∷ behind) refl) first.1 in
    let third = spaced-past low high ns (token (mark 10) (λ _. rest (length ns))) (10 ∷ behind) second.0 fault small range refl second.1 in
    mark-past 10 (rest (length ns)) behind third.0 fault third.1

in-residues : (ns : List ℕ) → AreResidues ns → All (λ (n : ℕ). (0 ≤ n) × (n ≤ prime - 1)) ns
in-residues ns h i d less = let most = h i d less in (omega arith, omega arith)

line-past : (ns : List ℕ) (rest : Format) (behind : List ℕ) (at : ℕ) (fault : CertTextFault) → AreResidues ns → HasFault (residue_line (length ns) rest) (number_line ns behind) at fault
    → (p : ℕ) × HasFault rest behind p fault
line-past [] rest behind at fault residues h = mark-past 10 rest behind at fault h
line-past (n ∷ ns) rest behind at fault residues h =
    let small = residues-small (n ∷ ns) residues in
    let range = in-residues (n ∷ ns) residues in
    let first = number-past 0 (prime - 1) n (λ _. spaced_numbers (length ns) 0 (prime - 1) (token (mark 10) (λ _. rest))) (spaced ns (10 ∷ behind)) at fault
    (All-head Small n ns small) (All-head (λ (n : ℕ). (0 ≤ n) × (n ≤ prime - 1)) n ns range) (spaced-ends ns (10 ∷ behind) refl) h in
    let others = spaced-past 0 (prime - 1) ns (token (mark 10) (λ _. rest)) (10 ∷ behind) first.0 fault (All-tail Small n ns small)
    (All-tail (λ (n : ℕ). (0 ≤ n) × (n ≤ prime - 1)) n ns range) refl first.1 in
    mark-past 10 rest behind others.0 fault others.1

lines-past : (lines n : ℕ) (ns : List ℕ) (rest : Format) (behind : List ℕ) (at : ℕ) (fault : CertTextFault) → length ns ≡ lines * n → AreResidues ns
    → HasFault (residue_lines lines n rest) (number_lines lines n ns behind) at fault → (p : ℕ) × HasFault rest behind p fault
lines-past zero n ns rest behind at fault count residues h = (at, h)
lines-past (suc lines) n ns rest behind at fault count residues h =
    let more : suc lines * n ≡ n + lines * n = omega arith in
    let long = length-take-le n ns (omega arith) in
    let left = length-drop n ns in
    let first = line-past (take n ns) (residue_lines lines n rest) (number_lines lines n (drop n ns) behind) at fault (All-take (λ (x : ℕ). x < prime) n ns residues)
    (subst (λ (m : ℕ). HasFault (residue_line m (residue_lines lines n rest)) (number_lines (suc lines) n ns behind) at fault) (sym long) h) in
    lines-past lines n (drop n ns) rest behind first.0 fault (omega arith) (All-drop (λ (x : ℕ). x < prime) n ns residues) first.1

pub cert-past : (c : Certificate) (rest : Format) (behind : List ℕ) (at : ℕ) (fault : CertTextFault) → IsInRange c → HasSquareInverse c
    → HasFault (cert_format rest) (cert_text_before c behind) at fault → (p : ℕ) × HasFault rest behind p fault
cert-past c rest behind at fault in-c square h =
    let few = in-c.few_rows in
    let width = in-c.width.1 in
    let inverse = line (codes "inverse") (number_lines (length c.rows) (length c.rows) c.inverse (line (codes "end") behind)) in
    let rows = counted (codes "rows") c.rows inverse in
    let multipliers = counted (codes "multipliers") c.multipliers rows in
    let after-rows = λ (n : ℕ). inverse_format n rest in
    let after-multipliers = λ (_ : ℕ). counted_numbers (codes "rows") 0 64 0 8191 after-rows in
    let after-head = λ (k : ℕ). counted_numbers (codes "multipliers") 1 127 1 (2 ^ k - 1) after-multipliers in
    let width-part = token (number 1 20) (λ k. token (mark 10) (λ _. after-head k)) in
    let a = word-past (codes "wdfcert") 32 (word_mark (codes "1") 10 (word_mark (codes "k") 32 width-part)) (line (codes "1") (line (codes "k " ++ decimal c.k) multipliers)) at fault refl h in
    let b = word-past (codes "1") 10 (word_mark (codes "k") 32 width-part) (line (codes "k " ++ decimal c.k) multipliers) a.0 fault refl a.1 in
    let d = word-past (codes "k") 32 width-part (decimal c.k ++ 10 ∷ multipliers) b.0 fault refl b.1 in
    let e = number-past 1 20 c.k (λ k. token (mark 10) (λ _. after-head k)) (10 ∷ multipliers) d.0 fault (omega arith) in-c.width refl d.1 in
    let f = mark-past 10 (after-head c.k) multipliers e.0 fault e.1 in
    let g = counted-past (codes "multipliers") 1 127 1 (2 ^ c.k - 1) c.multipliers after-multipliers rows f.0 fault (few-small (length c.multipliers) in-c.few_multipliers)
    (in-c.some_multipliers, in-c.few_multipliers) (multipliers-small c in-c) in-c.multipliers f.1 in
    let l = counted-past (codes "rows") 0 64 0 8191 c.rows after-rows inverse g.0 fault (few-small (length c.rows) (omega arith))
    (omega arith, few) (rows-small c in-c) (λ i d less. (omega arith, in-c.rows i d less)) g.1 in
    let m = word-past (codes "inverse") 10 (residue_lines (length c.rows) (length c.rows) (word_mark (codes "end") 10 rest))
    (number_lines (length c.rows) (length c.rows) c.inverse (line (codes "end") behind)) l.0 fault refl l.1 in
    let n = lines-past (length c.rows) (length c.rows) c.inverse (word_mark (codes "end") 10 rest) (line (codes "end") behind) m.0 fault square.count square.residues m.1 in
    word-past (codes "end") 10 rest behind n.0 fault refl n.1

pub accepted : IsAccepted
accepted first None in-f square at fault h =
    let behind = cert-past first (finish_or (cert_format finish)) [] at fault in-f square h in
    behind.1.0 refl
accepted first (Some second) in-f square at fault h =
    let behind = cert-past first (finish_or (cert_format finish)) (cert_text second) at fault in-f.0 square.0 h in
    let end = cert-past second finish [] behind.0 fault in-f.1 square.1 behind.1.1 in
    end.1.0 refl

pub ruleset text_laws = (one-file, accepted)

-- ---- a text has one fault at most

-- the number of a token that is there is in its range
in-range : (slot : Slot) (v w : ℕ) (text behind rest : List ℕ) → Meets slot v text behind → Begins slot w text rest → IsInSlot slot w
in-range slot v w text behind rest meets begins = subst (IsInSlot slot) (one-token slot v w text behind rest meets.begins begins).0 meets.range

one-fault : (format : Format) (text : List ℕ) (at : ℕ) (f g : CertTextFault) → HasFault format text at f → HasFault format text at g → f ≡ g
one-fault finish text at f g p q = p.1 ∙ sym q.1
one-fault (finish_or more) text at f g p q = one-fault more text at f g p.1 q.1
one-fault (token slot rest) text at f g (inl (inl none)) (inl (inl other)) = none.1 ∙ sym other.1
one-fault (token slot rest) text at f g (inl (inl none)) (inl (inr out)) = absurd (none.0 out.0 out.1 out.2)
one-fault (token slot rest) text at f g (inl (inl none)) (inr found) = absurd (none.0 found.0 found.1 found.2.begins)
one-fault (token slot rest) text at f g (inl (inr out)) (inl (inl none)) = absurd (none.0 out.0 out.1 out.2)
one-fault (token slot rest) text at f g (inl (inr out)) (inl (inr other)) = out.4 ∙ sym other.4
one-fault (token slot rest) text at f g (inl (inr out)) (inr found) = absurd (out.3 (in-range slot found.0 out.0 text found.1 out.1 found.2 out.2))
one-fault (token slot rest) text at f g (inr found) (inl (inl none)) = absurd (none.0 found.0 found.1 found.2.begins)
one-fault (token slot rest) text at f g (inr found) (inl (inr out)) = absurd (out.3 (in-range slot found.0 out.0 text found.1 out.1 found.2 out.2))
one-fault (token slot rest) text at f g (inr found) (inr other) =
    one-fault (rest found.0) found.1 (at + length (spelled slot found.0)) f g found.3 (past slot rest found.0 text found.1 at g found.2 (inr other))

pub one_fault : IsOneFault
one_fault text fault other = one-fault file_format text 0 fault other
