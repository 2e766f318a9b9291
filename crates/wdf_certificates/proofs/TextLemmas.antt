-- The text of a certificate before another text is that text with the other behind it.
use Rattle.std.proofs.Common.{◌≡◌, ℕ, zero, suc, List, [], ◌∷◌, ◌++◌, length, take, drop, refl, sym, ap, ◌∙◌, append_assoc}
use Rattle.std.specs.Prelude.{codes, decimal}
use Rattle.wdf_check.specs.Certificate.{Certificate}
use Rattle.wdf_cert.specs.CertText.{line, spaced, counted, number_line, number_lines, cert_text, cert_text_before}

-- what is put before a text stands before more of it
abbrev Puts : (List ℕ → List ℕ) → Type 0
Puts f = (rest more : List ℕ) → f (rest ++ more) ≡ f rest ++ more

bytes_put : (bytes : List ℕ) → Puts (λ rest. bytes ++ rest)
bytes_put bytes rest more = sym (append_assoc bytes rest more)

line_put : (bytes : List ℕ) → Puts (line bytes)
line_put bytes rest more = bytes_put bytes (10 ∷ rest) more

spaced_put : (ns : List ℕ) → Puts (spaced ns)
spaced_put [] rest more = refl
spaced_put (n ∷ ns) rest more =
    ap (λ (l : List ℕ). 32 ∷ l) (ap (λ (l : List ℕ). decimal n ++ l) (spaced_put ns rest more) ∙ bytes_put (decimal n) (spaced ns rest) more)

counted_put : (word ns : List ℕ) → Puts (counted word ns)
counted_put word ns rest more =
    ap (λ (l : List ℕ). word ++ 32 ∷ l)
    (ap (λ (l : List ℕ). decimal (length ns) ++ l) (spaced_put ns (10 ∷ rest) more) ∙ bytes_put (decimal (length ns)) (spaced ns (10 ∷ rest)) more)
    ∙ bytes_put word (32 ∷ (decimal (length ns) ++ spaced ns (10 ∷ rest))) more

number_line_put : (ns : List ℕ) → Puts (number_line ns)
number_line_put [] rest more = refl
number_line_put (n ∷ ns) rest more =
    ap (λ (l : List ℕ). decimal n ++ l) (spaced_put ns (10 ∷ rest) more) ∙ bytes_put (decimal n) (spaced ns (10 ∷ rest)) more

number_lines_put : (lines n : ℕ) (ns : List ℕ) → Puts (number_lines lines n ns)
number_lines_put zero n ns rest more = refl
number_lines_put (suc lines) n ns rest more =
    ap (number_line (take n ns)) (number_lines_put lines n (drop n ns) rest more) ∙ number_line_put (take n ns) (number_lines lines n (drop n ns) rest) more

cert_put : (c : Certificate) → Puts (cert_text_before c)
cert_put c rest more =
    let n = length c.rows in
    let end = line (codes "end") rest in
    let lines = number_lines n n c.inverse end in
    let inverse = line (codes "inverse") lines in
    let rows = counted (codes "rows") c.rows inverse in
    let multipliers = counted (codes "multipliers") c.multipliers rows in
    let width = line (codes "k " ++ decimal c.k) multipliers in
    let end_put = line_put (codes "end") rest more in
    let lines_put = ap (number_lines n n c.inverse) end_put ∙ number_lines_put n n c.inverse end more in
    let inverse_put = ap (line (codes "inverse")) lines_put ∙ line_put (codes "inverse") lines more in
    let rows_put = ap (counted (codes "rows") c.rows) inverse_put ∙ counted_put (codes "rows") c.rows inverse more in
    let multipliers_put = ap (counted (codes "multipliers") c.multipliers) rows_put ∙ counted_put (codes "multipliers") c.multipliers rows more in
    let width_put = ap (line (codes "k " ++ decimal c.k)) multipliers_put ∙ line_put (codes "k " ++ decimal c.k) multipliers more in
    ap (line (codes "wdfcert 1")) width_put ∙ line_put (codes "wdfcert 1") width more

pub text_before : (c : Certificate) (rest : List ℕ) → cert_text c ++ rest ≡ cert_text_before c rest
text_before c rest = sym (cert_put c [] rest)
