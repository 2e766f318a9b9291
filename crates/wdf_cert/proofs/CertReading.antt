-- A certificate and a file of certificates, read part by part, and where each may fail.
use Rattle.std.proofs.Common.{◌≡◌, ℕ, ◌-◌, ◌^◌, ◌<◌, ◌≤◌, List, [], ◌++◌, length, drop, refl, ap, ◌∙◌, subst, arith}
use Rattle.std.specs.Prelude.{All, decimal, codes, Ok, Err, Option, None, Some}
use Rattle.std.proofs.lemmas.List.{drop_all, length-drop}
use Rattle.std.proofs.Math.Nat.{pow-le-pow_right}
use Rattle.wdf_residue.specs.Matrix.{IsSquare}
use Rattle.wdf_check.specs.Certificate.{Certificate}
use Rattle.wdf_cert.specs.declared.cert_text_fault.CertTextFault.{CertTextFault}
use Rattle.wdf_cert.specs.declared.cert_text_fault.CertTextFault.TheVariants.{Syntax, Range, NoMemory}
use Rattle.wdf_cert.specs.Format.{Format, finish, finish_or, HasFault}
use Rattle.wdf_cert.specs.CertText.{line, counted, cert_text_before, file_text}
use Rattle.wdf_cert.specs.CertFormat.{counted_numbers, head_format, inverse_format, cert_format, file_format, ReadsFile}
use Rattle.wdf_cert.specs.Scanning.{Fails, plain_part, ReadsCounted, ReadsHead, ReadsInverse, ReadsCert}
use Rattle.wdf_cert.proofs.Parts.{fails-behind}

-- ---- a certificate

-- what is expected behind the rows, behind the multipliers, and behind the head
abbrev behind_rows : (ℕ → Format) → ℕ → Format
behind_rows rest n = inverse_format n (rest 0)

abbrev behind_multipliers : (ℕ → Format) → ℕ → Format
behind_multipliers rest _ = counted_numbers (codes "rows") 0 64 0 8191 (behind_rows rest)

abbrev behind_head : (ℕ → Format) → ℕ → Format
behind_head rest k = counted_numbers (codes "multipliers") 1 127 1 (2 ^ k - 1) (behind_multipliers rest)

-- the multipliers of a certificate up to a greatest, and its rows
abbrev pub ReadsMultipliers : ℕ → List ℕ → List ℕ → ℕ → ℕ → Type 0
ReadsMultipliers most ms text at next = ReadsCounted (codes "multipliers") 1 127 1 most ms text at next

abbrev pub ReadsRows : List ℕ → List ℕ → ℕ → ℕ → Type 0
ReadsRows rs text at next = ReadsCounted (codes "rows") 0 64 0 8191 rs text at next

pub cert_fails_head : (text : List ℕ) (at : ℕ) (e : CertTextFault) → Fails head_format text at e → Fails (plain_part cert_format) text at e
cert_fails_head text at e h = fails-behind head_format (plain_part cert_format) behind_head text at at e (λ rest fault f. f) h

-- what is wrong with the multipliers is wrong with all
multipliers-lead : (text : List ℕ) (at a k most : ℕ) → most ≡ 2 ^ k - 1 → ReadsHead k text at a → (rest : ℕ → Format) (fault : CertTextFault)
    → HasFault (counted_numbers (codes "multipliers") 1 127 1 most (behind_multipliers rest)) (drop a text) a fault → HasFault (cert_format (rest 0)) (drop at text) at fault
multipliers-lead text at a k most is x rest fault f =
    x.reads.leads (behind_head rest) fault
    (subst (λ (high : ℕ). HasFault (counted_numbers (codes "multipliers") 1 127 1 high (behind_multipliers rest)) (drop a text) a fault) is f)

pub cert_fails_multipliers : (text : List ℕ) (at a k most : ℕ) (e : CertTextFault) → most ≡ 2 ^ k - 1 → ReadsHead k text at a
    → Fails (counted_numbers (codes "multipliers") 1 127 1 most) text a e → Fails (plain_part cert_format) text at e
cert_fails_multipliers text at a k most e is x h =
    fails-behind (counted_numbers (codes "multipliers") 1 127 1 most) (plain_part cert_format) behind_multipliers text at a e (multipliers-lead text at a k most is x) h

pub cert_fails_rows : (text ms : List ℕ) (at a b k most : ℕ) (e : CertTextFault) → most ≡ 2 ^ k - 1 → ReadsHead k text at a → ReadsMultipliers most ms text a b
    → Fails (counted_numbers (codes "rows") 0 64 0 8191) text b e → Fails (plain_part cert_format) text at e
cert_fails_rows text ms at a b k most e is x y h =
    fails-behind (counted_numbers (codes "rows") 0 64 0 8191) (plain_part cert_format) behind_rows text at b e
    (λ rest fault f. multipliers-lead text at a k most is x rest fault (y.reads.leads (behind_multipliers rest) fault f)) h

pub cert_fails_inverse : (text ms rs : List ℕ) (at a b c k most : ℕ) (e : CertTextFault) → most ≡ 2 ^ k - 1 → ReadsHead k text at a → ReadsMultipliers most ms text a b → ReadsRows rs text b c
    → Fails (plain_part (inverse_format (length rs))) text c e → Fails (plain_part cert_format) text at e
cert_fails_inverse text ms rs at a b c k most e is x y z h =
    fails-behind (plain_part (inverse_format (length rs))) (plain_part cert_format) (λ rest _. rest 0) text at c e
    (λ rest fault f. multipliers-lead text at a k most is x rest fault (y.reads.leads (behind_multipliers rest) fault (z.reads.leads (behind_rows rest) fault f))) h

pub cert_reads : (text ms rs es : List ℕ) (at a b c next k most : ℕ) → most ≡ 2 ^ k - 1 → ReadsHead k text at a → ReadsMultipliers most ms text a b → ReadsRows rs text b c
    → ReadsInverse (length rs) es text c next → ReadsCert (record { k = k; multipliers = ms; rows = rs; inverse = es }) text at next
cert_reads text ms rs es at a b c next k most is x y z w = record {
  reads = record {
    spelled = x.reads.spelled ∙ ap (λ (rest : List ℕ). line (codes "wdfcert 1") (line (codes "k " ++ decimal k) rest))
        (y.reads.spelled ∙ ap (counted (codes "multipliers") ms) (z.reads.spelled ∙ ap (counted (codes "rows") rs) w.reads.spelled));
    within = w.reads.within;
    leads = λ rest fault f. multipliers-lead text at a k most is x rest fault
        (y.reads.leads (behind_multipliers rest) fault (z.reads.leads (behind_rows rest) fault (w.reads.leads rest fault f)));
  };
  range = record {
    width = x.range;
    some_multipliers = y.count.0;
    few_multipliers = y.count.1;
    multipliers = λ i d less. let range = y.range i d less in (range.0, let high = range.1 in omega arith);
    few_rows = z.count.1;
    rows = λ i d less. (z.range i d less).1;
  };
}

-- its multipliers and its rows are words of 32 bits, and its inverse is square
pub multipliers_narrow : (text ms : List ℕ) (at next k most : ℕ) → most ≡ 2 ^ k - 1 → k ≤ 20 → ReadsMultipliers most ms text at next → All (λ (n : ℕ). n < 2 ^ 32) ms
multipliers_narrow text ms at next k most is few x i d less =
    let two : 0 < 2 = omega arith in
    let power : 2 ^ k ≤ 2 ^ 20 = pow-le-pow_right two few in
    let high = (x.range i d less).1 in
    omega arith

pub rows_narrow : (text rs : List ℕ) (at next : ℕ) → ReadsRows rs text at next → All (λ (n : ℕ). n < 2 ^ 32) rs
rows_narrow text rs at next x i d less = let most = (x.range i d less).1 in omega arith

pub inverse_square : (text rs es : List ℕ) (at next : ℕ) → ReadsInverse (length rs) es text at next → IsSquare (length rs) es
inverse_square text rs es at next x = record { count = x.count; residues = x.residues }

pub ruleset cert_reading = (cert_fails_head, cert_fails_multipliers, cert_fails_rows, cert_fails_inverse, cert_reads, multipliers_narrow, rows_narrow, inverse_square)

-- ---- a file

behind-some : (text : List ℕ) (at : ℕ) → at ≤ length text → (at ≡ length text → ⊥) → drop at text ≡ [] → ⊥
behind-some text at within other none =
    let left = length-drop at text in
    let zero-left = ap length none in
    other (omega arith)

pub file_fails_first : (text : List ℕ) (e : CertTextFault) → Fails (plain_part cert_format) text 0 e → ReadsFile text (Err e)
file_fails_first text (Syntax at) h = h (λ _. finish_or (cert_format finish))
file_fails_first text (Range at) h = h (λ _. finish_or (cert_format finish))
file_fails_first text NoMemory h = tt

pub file_fails_second : (text : List ℕ) (c : Certificate) (a : ℕ) (e : CertTextFault) → ReadsCert c text 0 a → (a ≡ length text → ⊥)
    → Fails (plain_part cert_format) text a e → ReadsFile text (Err e)
file_fails_second text c a (Syntax at) x other h =
    x.reads.leads (λ _. finish_or (cert_format finish)) (Syntax at) (behind-some text a x.reads.within other, h (λ _. finish))
file_fails_second text c a (Range at) x other h =
    x.reads.leads (λ _. finish_or (cert_format finish)) (Range at) (behind-some text a x.reads.within other, h (λ _. finish))
file_fails_second text c a NoMemory x other h = tt

pub file_fails_end : (text : List ℕ) (c d : Certificate) (a b : ℕ) → ReadsCert c text 0 a → (a ≡ length text → ⊥) → ReadsCert d text a b → (b ≡ length text → ⊥)
    → ReadsFile text (Err (Syntax b))
file_fails_end text c d a b x other y more =
    x.reads.leads (λ _. finish_or (cert_format finish)) (Syntax b)
    (behind-some text a x.reads.within other, y.reads.leads (λ _. finish) (Syntax b) (behind-some text b y.reads.within more, refl))

pub file_reads_one : (text : List ℕ) (c : Certificate) (a : ℕ) → ReadsCert c text 0 a → a ≡ length text → ReadsFile text (Ok (record { first = c; second = None }))
file_reads_one text c a x end = (x.reads.spelled ∙ ap (cert_text_before c) (drop_all a text (omega arith)), x.range)

pub file_reads_two : (text : List ℕ) (c d : Certificate) (a b : ℕ) → ReadsCert c text 0 a → ReadsCert d text a b → b ≡ length text
    → ReadsFile text (Ok (record { first = c; second = Some d }))
file_reads_two text c d a b x y end =
    (x.reads.spelled ∙ ap (cert_text_before c) (y.reads.spelled ∙ ap (cert_text_before d) (drop_all b text (omega arith))), (x.range, y.range))

pub ruleset file_reading = (file_fails_first, file_fails_second, file_fails_end, file_reads_one, file_reads_two)

-- where a text has no fault, what is read of it is no fault but want of memory
pub accepted_reads : (text : List ℕ) (first : Certificate) (second : Option Certificate) (e : CertTextFault) → ((at : ℕ) (fault : CertTextFault) → HasFault file_format (file_text first second) at fault → ⊥)
    → text ≡ file_text first second → ReadsFile text (Err e) → e ≡ NoMemory
accepted_reads text first second (Syntax at) none same h = absurd (none 0 (Syntax at) (subst (λ (t : List ℕ). HasFault file_format t 0 (Syntax at)) same h))
accepted_reads text first second (Range at) none same h = absurd (none 0 (Range at) (subst (λ (t : List ℕ). HasFault file_format t 0 (Range at)) same h))
accepted_reads text first second NoMemory none same h = refl
