-- The number that digits write, one digit more at a time.
use Rattle.std.proofs.Common.{◌≡◌, ℕ, ◌+◌, ◌-◌, ◌*◌, ◌<◌, List, [], ◌∷◌, length, get_or, take, ap, ◌∙◌}
use Rattle.std.specs.Int.Digits.{number_from_digits}
use Rattle.std.proofs.lemmas.List.{map-append, take_more}
use Rattle.std.proofs.lemmas.Int.Digits.{number_push}
use Rattle.wdf_text.specs.Numbers.{digits_of_bytes, number_of}

pub number_of_more : (text : List ℕ) (i : ℕ) → i < length text → number_of (take (i + 1) text) ≡ number_of (take i text) * 10 + (get_or text i 0 - 48)
number_of_more text i within =
    let f : ℕ → ℕ = λ byte. byte - 48 in
    ap number_of (take_more text i 0 within)
    ∙ ap (number_from_digits 10) (map-append f (take i text) (get_or text i 0 ∷ []))
    ∙ number_push 10 (digits_of_bytes (take i text)) (get_or text i 0 - 48)
