-- What reading a part of a text does. An offset stands for the text behind it.
use Rattle.std.specs.Prelude.{◌≡◌, ℕ, ◌+◌, ◌*◌, ◌≤◌, List, ◌++◌, length, drop, All, codes, decimal}
use Rattle.wdf_residue.specs.Residue.{AreResidues}
use Rattle.wdf_check.specs.Certificate.{Certificate}
use Rattle.wdf_cert.specs.declared.cert_text_fault.CertTextFault.{CertTextFault}
use Rattle.wdf_cert.specs.declared.cert_text_fault.CertTextFault.TheVariants.{Syntax, Range, NoMemory}
use Rattle.wdf_cert.specs.Format.{Format, Slot, spelled, Meets, HasFault}
use Rattle.wdf_cert.specs.CertText.{line, spaced, counted, number_line, number_lines, cert_text_before, IsInRange}
use Rattle.wdf_cert.specs.CertFormat.{spaced_numbers, counted_numbers, residue_line, residue_lines, head_format, inverse_format, cert_format}

-- the token of a slot stands between two offsets
pub record Takes (slot : Slot) (v : ℕ) (text : List ℕ) (at end : ℕ) : Type 0 where
  pub meets : Meets slot v (drop at text) (drop end text)
  pub next : at + length (spelled slot v) ≡ end
  pub within : end ≤ length text

-- a part was read between two offsets, its number being v: what is wrong behind it is what is wrong with all
abbrev pub Leads : ((ℕ → Format) → Format) → ℕ → List ℕ → ℕ → ℕ → Type 0
Leads part v text at next = (rest : ℕ → Format) (fault : CertTextFault) → HasFault (rest v) (drop next text) next fault → HasFault (part rest) (drop at text) at fault

-- the part has the fault, whatever stands behind it; want of memory says nothing
abbrev pub Fails : ((ℕ → Format) → Format) → List ℕ → ℕ → CertTextFault → Type 0
Fails part text at NoMemory = Unit {0}
Fails part text at (Syntax place) = (rest : ℕ → Format) → HasFault (part rest) (drop at text) at (Syntax place)
Fails part text at (Range place) = (rest : ℕ → Format) → HasFault (part rest) (drop at text) at (Range place)

-- a part of which nothing depends on a number
abbrev pub plain_part : (Format → Format) → (ℕ → Format) → Format
plain_part part rest = part (rest 0)

-- a part was read, whose bytes `bytes` puts before what stands behind it
pub record Reads (part : (ℕ → Format) → Format) (v : ℕ) (bytes : List ℕ → List ℕ) (text : List ℕ) (at next : ℕ) : Type 0 where
  pub spelled : drop at text ≡ bytes (drop next text)
  pub within : next ≤ length text
  pub leads : Leads part v text at next

-- so many numbers in a range, a space before each
pub record ReadsSpaced (many low high : ℕ) (numbers : List ℕ) (text : List ℕ) (at next : ℕ) : Type 0 where
  pub reads : Reads (plain_part (spaced_numbers many low high)) 0 (spaced numbers) text at next
  pub count : length numbers ≡ many
  pub range : All (λ (n : ℕ). (low ≤ n) × (n ≤ high)) numbers

-- a line of a word, a count and so many numbers
pub record ReadsCounted (word : List ℕ) (least most low high : ℕ) (numbers : List ℕ) (text : List ℕ) (at next : ℕ) : Type 0 where
  pub reads : Reads (counted_numbers word least most low high) (length numbers) (counted word numbers) text at next
  pub count : (least ≤ length numbers) × (length numbers ≤ most)
  pub range : All (λ (n : ℕ). (low ≤ n) × (n ≤ high)) numbers

-- a line of n residues
pub record ReadsLine (n : ℕ) (numbers : List ℕ) (text : List ℕ) (at next : ℕ) : Type 0 where
  pub reads : Reads (plain_part (residue_line n)) 0 (number_line numbers) text at next
  pub count : length numbers ≡ n
  pub residues : AreResidues numbers

-- so many lines of n residues each
pub record ReadsLines (lines n : ℕ) (numbers : List ℕ) (text : List ℕ) (at next : ℕ) : Type 0 where
  pub reads : Reads (plain_part (residue_lines lines n)) 0 (number_lines lines n numbers) text at next
  pub count : length numbers ≡ lines * n
  pub residues : AreResidues numbers

-- the head
pub record ReadsHead (k : ℕ) (text : List ℕ) (at next : ℕ) : Type 0 where
  pub reads : Reads head_format k (λ rest. line (codes "wdfcert 1") (line (codes "k " ++ decimal k) rest)) text at next
  pub range : (1 ≤ k) × (k ≤ 20)

-- the inverse and the end
pub record ReadsInverse (n : ℕ) (numbers : List ℕ) (text : List ℕ) (at next : ℕ) : Type 0 where
  pub reads : Reads (plain_part (inverse_format n)) 0 (λ rest. line (codes "inverse") (number_lines n n numbers (line (codes "end") rest))) text at next
  pub count : length numbers ≡ n * n
  pub residues : AreResidues numbers

-- a certificate
pub record ReadsCert (c : Certificate) (text : List ℕ) (at next : ℕ) : Type 0 where
  pub reads : Reads (plain_part cert_format) 0 (cert_text_before c) text at next
  pub range : IsInRange c
