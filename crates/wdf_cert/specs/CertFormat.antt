-- The format of a certificate file, with the ranges of its numbers: K in 1..=20, C in 1..=127, each multiplier in
-- 1..=2^K-1, n in 0..=64, each row in 0..=8191, each entry of the inverse below P.
use Rattle.std.specs.Prelude.{◌≡◌, ℕ, zero, suc, ◌-◌, ◌^◌, List, codes, Result, Ok, Err}
use Rattle.wdf_residue.specs.Residue.{prime}
use Rattle.wdf_cert.specs.declared.cert_text_fault.CertTextFault.{CertTextFault}
use Rattle.wdf_cert.specs.declared.cert_text_fault.CertTextFault.TheVariants.{Syntax, Range, NoMemory}
use Rattle.wdf_cert.specs.declared.certs.Certs.{Certs}
use Rattle.wdf_cert.specs.Format.{Format, finish, finish_or, token, word, mark, number, HasFault}
use Rattle.wdf_cert.specs.CertText.{file_text, AreInRange}

-- a word, and a space or the end of a line behind it
abbrev pub word_mark : List ℕ → ℕ → Format → Format
word_mark bytes byte rest = token (word bytes) (λ _. token (mark byte) (λ _. rest))

-- so many numbers in a range, a space before each
abbrev pub spaced_numbers : ℕ → ℕ → ℕ → Format → Format
spaced_numbers zero low high rest = rest
spaced_numbers (suc count) low high rest = token (mark 32) (λ _. token (number low high) (λ _. spaced_numbers count low high rest))

-- a line of a word, a count in a range, and so many numbers in a range
abbrev pub counted_numbers : List ℕ → ℕ → ℕ → ℕ → ℕ → (ℕ → Format) → Format
counted_numbers bytes least most low high rest =
    word_mark bytes 32 (token (number least most) (λ count. spaced_numbers count low high (token (mark 10) (λ _. rest count))))

-- a line of so many residues
abbrev pub residue_line : ℕ → Format → Format
residue_line zero rest = token (mark 10) (λ _. rest)
residue_line (suc others) rest = token (number 0 (prime - 1)) (λ _. spaced_numbers others 0 (prime - 1) (token (mark 10) (λ _. rest)))

abbrev pub residue_lines : ℕ → ℕ → Format → Format
residue_lines zero n rest = rest
residue_lines (suc lines) n rest = residue_line n (residue_lines lines n rest)

-- the head, which ends with the width of the multipliers
abbrev pub head_format : (ℕ → Format) → Format
head_format rest =
    word_mark (codes "wdfcert") 32 (word_mark (codes "1") 10 (word_mark (codes "k") 32 (token (number 1 20) (λ k. token (mark 10) (λ _. rest k)))))

-- the inverse, of n lines, and the end
abbrev pub inverse_format : ℕ → Format → Format
inverse_format n rest = word_mark (codes "inverse") 10 (residue_lines n n (word_mark (codes "end") 10 rest))

-- a certificate, and what stands behind it
abbrev pub cert_format : Format → Format
cert_format rest =
    head_format (λ k.
    counted_numbers (codes "multipliers") 1 127 1 (2 ^ k - 1) (λ _.
    counted_numbers (codes "rows") 0 64 0 8191 (λ n.
    inverse_format n rest)))

-- one certificate, or two directly after each other, and nothing else
abbrev pub file_format : Format
file_format = cert_format (finish_or (cert_format finish))

-- what the reader of a certificate file answers; the cases exclude each other
abbrev pub ReadsFile : List ℕ → Result Certs CertTextFault → Type 0
ReadsFile text (Ok certs) = (text ≡ file_text certs.first certs.second) × AreInRange certs.first certs.second
ReadsFile text (Err (Syntax at)) = HasFault file_format text 0 (Syntax at)
ReadsFile text (Err (Range at)) = HasFault file_format text 0 (Range at)
ReadsFile text (Err NoMemory) = Unit {0}
