-- A line with pieces behind it, one by one.
use Rattle.std.proofs.Common.{◌≡◌, refl, ℕ, List, ◌++◌, ap, ◌∙◌, append_assoc}
use Rattle.std.specs.Prelude.{decimal}

-- another piece behind a text
pub piece : (old text more : List ℕ) {mid new : List ℕ} → mid ≡ old ++ text → new ≡ mid ++ more → new ≡ old ++ (text ++ more)
piece old text more so pushed = pushed ∙ (ap (λ (l : List ℕ). l ++ more) so ∙ append_assoc old text more)

-- a label and a number behind a line
pub begins : (old label : List ℕ) {new : List ℕ} {n m : ℕ} → new ≡ old ++ label ++ decimal n → n ≡ m → new ≡ old ++ (label ++ decimal m)
begins old label {new} {n} {m} pushed same = pushed ∙ (ap (λ (x : ℕ). old ++ label ++ decimal x) same ∙ append_assoc old label (decimal m))

-- and behind a text
pub goes_on : (old text label : List ℕ) {mid new : List ℕ} {n m : ℕ} → mid ≡ old ++ text → new ≡ mid ++ label ++ decimal n → n ≡ m
    → new ≡ old ++ (text ++ label ++ decimal m)
goes_on old text label {mid} {new} {n} {m} so pushed same =
    let labelled : mid ++ label ≡ old ++ (text ++ label) = piece old text label so refl in
    piece old (text ++ label) (decimal m) labelled (pushed ∙ ap (λ (x : ℕ). mid ++ label ++ decimal x) same)
