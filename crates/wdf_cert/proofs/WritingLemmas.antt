-- What the writers have put out so far, and what is left to put out.
use Rattle.std.proofs.Common.{◌≡◌, ℕ, suc, ◌+◌, ◌-◌, ◌*◌, ◌<◌, ◌≤◌, List, [], ◌∷◌, ◌++◌, length, take, drop, get_or, sym, ap, ◌∙◌, arith}
use Rattle.std.specs.Prelude.{decimal, codes}
use Rattle.std.proofs.lemmas.List.{append_assoc, drop_more, drop_all}
use Rattle.wdf_check.specs.Certificate.{Certificate}
use Rattle.wdf_cert.specs.CertText.{line, spaced, counted, number_line, number_lines, cert_text}

-- a number more
spaced-more : (out out' ns rest : List ℕ) (i : ℕ) → i < length ns → out' ≡ out ++ 32 ∷ decimal (get_or ns i 0)
    → out' ++ spaced (drop (i + 1) ns) rest ≡ out ++ spaced (drop i ns) rest
spaced-more out out' ns rest i less e =
    ap (λ (xs : List ℕ). xs ++ spaced (drop (i + 1) ns) rest) e
    ∙ (append_assoc out (32 ∷ decimal (get_or ns i 0)) (spaced (drop (i + 1) ns) rest)
    ∙ ap (λ (xs : List ℕ). out ++ spaced xs rest) (sym (drop_more ns i 0 less)))

-- the end of the line
line-ended : (out out' ns rest : List ℕ) (i : ℕ) → length ns ≤ i → out' ≡ out ++ 10 ∷ [] → out' ++ rest ≡ out ++ spaced (drop i ns) (10 ∷ rest)
line-ended out out' ns rest i past e =
    ap (λ (xs : List ℕ). xs ++ rest) e ∙ (append_assoc out (10 ∷ []) rest ∙ ap (λ (xs : List ℕ). out ++ spaced xs (10 ∷ rest)) (sym (drop_all i ns past)))

-- ---- a line of a word, a count and numbers

abbrev pub CountedSoFar : List ℕ → List ℕ → List ℕ → List ℕ → ℕ → Type 0
CountedSoFar old out word ns i = (rest : List ℕ) → out ++ spaced (drop i ns) (10 ∷ rest) ≡ old ++ counted word ns rest

pub counted_begins : (old named out word ns : List ℕ) → named ≡ old ++ word → out ≡ named ++ 32 ∷ decimal (length ns) → CountedSoFar old out word ns 0
counted_begins old named out word ns e f rest =
    ap (λ (xs : List ℕ). xs ++ spaced ns (10 ∷ rest)) (f ∙ ap (λ (xs : List ℕ). xs ++ 32 ∷ decimal (length ns)) e)
    ∙ (append_assoc (old ++ word) (32 ∷ decimal (length ns)) (spaced ns (10 ∷ rest)) ∙ append_assoc old word (32 ∷ (decimal (length ns) ++ spaced ns (10 ∷ rest))))

pub counted_more : (old out out' word ns : List ℕ) (i : ℕ) → i < length ns → CountedSoFar old out word ns i → out' ≡ out ++ 32 ∷ decimal (get_or ns i 0) → CountedSoFar old out' word ns (i + 1)
counted_more old out out' word ns i less so e rest = spaced-more out out' ns (10 ∷ rest) i less e ∙ so rest

pub counted_ends : (old out out' word ns : List ℕ) (i : ℕ) → length ns ≤ i → CountedSoFar old out word ns i → out' ≡ out ++ 10 ∷ [] → (rest : List ℕ) → out' ++ rest ≡ old ++ counted word ns rest
counted_ends old out out' word ns i past so e rest = line-ended out out' ns rest i past e ∙ so rest

pub ruleset counted_writing = (counted_begins, counted_more, counted_ends)

-- ---- a line of numbers

abbrev pub LineSoFar : List ℕ → List ℕ → List ℕ → ℕ → Type 0
LineSoFar old out ns i = (rest : List ℕ) → out ++ spaced (drop i ns) (10 ∷ rest) ≡ old ++ number_line ns rest

pub line_begins : (old out ns : List ℕ) → 1 ≤ length ns → out ≡ old ++ decimal (get_or ns 0 0) → LineSoFar old out ns 1
line_begins old out [] some e = absurd (omega arith)
line_begins old out (n ∷ ns) some e = λ rest. ap (λ (xs : List ℕ). xs ++ spaced ns (10 ∷ rest)) e ∙ append_assoc old (decimal n) (spaced ns (10 ∷ rest))

pub line_more : (old out out' ns : List ℕ) (i : ℕ) → i < length ns → LineSoFar old out ns i → out' ≡ out ++ 32 ∷ decimal (get_or ns i 0) → LineSoFar old out' ns (i + 1)
line_more old out out' ns i less so e rest = spaced-more out out' ns (10 ∷ rest) i less e ∙ so rest

pub line_ends : (old out out' ns : List ℕ) (i : ℕ) → length ns ≤ i → LineSoFar old out ns i → out' ≡ out ++ 10 ∷ [] → (rest : List ℕ) → out' ++ rest ≡ old ++ number_line ns rest
line_ends old out out' ns i past so e rest = line-ended out out' ns rest i past e ∙ so rest

pub ruleset line_writing = (line_begins, line_more, line_ends)

-- ---- lines of numbers

abbrev pub LinesSoFar : List ℕ → List ℕ → List ℕ → List ℕ → ℕ → ℕ → Type 0
LinesSoFar old out left entries n i = (rest : List ℕ) → out ++ number_lines (n - i) n left rest ≡ old ++ number_lines n n entries rest

pub lines_more : (old out out' left entries : List ℕ) (n i : ℕ) → i < n → LinesSoFar old out left entries n i
    → ((rest : List ℕ) → out' ++ rest ≡ out ++ number_line (take n left) rest) → LinesSoFar old out' (drop n left) entries n (i + 1)
lines_more old out out' left entries n i less so e rest =
    let next : suc (n - (i + 1)) ≡ n - i = omega arith in
    e (number_lines (n - (i + 1)) n (drop n left) rest) ∙ (ap (λ (c : ℕ). out ++ number_lines c n left rest) next ∙ so rest)

-- and one line less is left
pub lines-left : (n i size : ℕ) → i < n → size ≡ (n - i) * n → size - n ≡ (n - (i + 1)) * n
lines-left n i size less is =
    let rest : suc (n - (i + 1)) ≡ n - i = omega arith in
    let product : size ≡ suc (n - (i + 1)) * n = is ∙ ap (λ (c : ℕ). c * n) (sym rest) in
    let more : suc (n - (i + 1)) * n ≡ n + (n - (i + 1)) * n = omega arith in
    omega arith

pub lines_end : (old out left entries : List ℕ) (n : ℕ) → LinesSoFar old out left entries n n → (rest : List ℕ) → out ++ rest ≡ old ++ number_lines n n entries rest
lines_end old out left entries n so rest =
    let none : n - n ≡ 0 = omega arith in
    ap (λ (c : ℕ). out ++ number_lines c n left rest) (sym none) ∙ so rest

pub ruleset lines_writing = (lines_more, lines_end)

-- ---- a certificate

after : (out out' bytes rest : List ℕ) → out' ≡ out ++ bytes → out' ++ rest ≡ out ++ (bytes ++ rest)
after out out' bytes rest e = ap (λ (xs : List ℕ). xs ++ rest) e ∙ append_assoc out bytes rest

after-line : (out out' bytes rest : List ℕ) → out' ≡ out ++ bytes ++ 10 ∷ [] → out' ++ rest ≡ out ++ line bytes rest
after-line out out' bytes rest e = after (out ++ bytes) out' (10 ∷ []) rest e ∙ append_assoc out bytes (10 ∷ rest)

pub whole_written : (c : Certificate) (head key width ended multipliers rows inverse lines out : List ℕ)
    → head ≡ [] ++ codes "wdfcert 1" ++ 10 ∷ [] → key ≡ head ++ 107 ∷ [] → width ≡ key ++ 32 ∷ decimal c.k → ended ≡ width ++ 10 ∷ []
    → ((rest : List ℕ) → multipliers ++ rest ≡ ended ++ counted (codes "multipliers") c.multipliers rest)
    → ((rest : List ℕ) → rows ++ rest ≡ multipliers ++ counted (codes "rows") c.rows rest)
    → inverse ≡ rows ++ codes "inverse" ++ 10 ∷ []
    → ((rest : List ℕ) → lines ++ rest ≡ inverse ++ number_lines (length c.rows) (length c.rows) c.inverse rest)
    → out ≡ lines ++ codes "end" ++ 10 ∷ [] → out ≡ cert_text c
whole_written c head key width ended multipliers rows inverse lines out e1 e2 e3 e4 e5 e6 e7 e8 e9 =
    let end = line (codes "end") [] in
    let matrix = number_lines (length c.rows) (length c.rows) c.inverse end in
    let behind = counted (codes "rows") c.rows (line (codes "inverse") matrix) in
    let all = counted (codes "multipliers") c.multipliers behind in
    e9 ∙ (append_assoc lines (codes "end") (10 ∷ []) ∙ (e8 end ∙ (after-line rows inverse (codes "inverse") matrix e7 ∙ (e6 (line (codes "inverse") matrix) ∙ (e5 behind
    ∙ (after width ended (10 ∷ []) all e4 ∙ (after key width (32 ∷ decimal c.k) (10 ∷ all) e3 ∙ (after head key (107 ∷ []) (32 ∷ (decimal c.k ++ 10 ∷ all)) e2
    ∙ ap (λ (xs : List ℕ). xs ++ 107 ∷ (32 ∷ (decimal c.k ++ 10 ∷ all))) e1))))))))
