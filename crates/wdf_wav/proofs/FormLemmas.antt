-- The twelve bytes before the chunks.
use Rattle.std.proofs.Common.{◌≡◌, ℕ, ◌<◌, Bool, true, false, not, nat_lt, if◌then◌else◌, List, ◌++◌, length, drop, codes, Option, Some, None, refl, sym, ap, ◌∙◌, subst, arith, length-append}
use Rattle.std.proofs.lemmas.Bool.Decides.{nat_tests}
use Rattle.std.specs.Io.KnownBytes.{Consumes}
use Rattle.std.proofs.KnownBytes.{Consumes-trans}
use Rattle.std.specs.Str.{bytes_eq}
use Rattle.wdf_wav.specs.declared.wav_error.WavError.{WavError}
use Rattle.wdf_wav.specs.declared.wav_error.WavError.TheVariants.{Fault, ReadFault}
use Rattle.wdf_wav.specs.declared.wav_error.WavKind.{WavKind}
use Rattle.wdf_wav.specs.declared.wav_error.WavKind.TheVariants.{NotRiff, NotWave, ShortHead}
use Rattle.wdf_wav.specs.HeadFaults.{first_row, form_rows, has_id}
use Rattle.wdf_wav.specs.HeadReading.{FormStops, PartStops, TakesForm}
use Rattle.wdf_wav.proofs.ChunkTextLemmas.{behind_eight, id_test, length_front}
use Rattle.wdf_wav.proofs.PassLemmas.{same_id}

-- the rows, by what the parts are
pub not_riff_row : (id more : List ℕ) → length id ≡ 4 → bytes_eq id (codes "RIFF") ≡ false → first_row (form_rows (id ++ more)) ≡ Some (NotRiff, 0)
not_riff_row id more named other =
    let long = length-append id more in
    let four : nat_lt (length (id ++ more)) 4 ≡ false = grind (arith, nat_tests) in
    let riff : has_id (codes "RIFF") (id ++ more) ≡ false = id_test (codes "RIFF") id more named ∙ other in
    rw (four, riff) refl

pub short_form_row : (id size more : List ℕ) → length id ≡ 4 → length size ≡ 4 → bytes_eq id (codes "RIFF") ≡ true → length more < 4
    → first_row (form_rows (id ++ (size ++ more))) ≡ Some (ShortHead, length (id ++ (size ++ more)))
short_form_row id size more named sized same short =
    let long = length_front id size more named sized in
    let four : nat_lt (length (id ++ (size ++ more))) 4 ≡ false = grind (arith, nat_tests) in
    let twelve : nat_lt (length (id ++ (size ++ more))) 12 ≡ true = grind (arith, nat_tests) in
    let riff : has_id (codes "RIFF") (id ++ (size ++ more)) ≡ true = id_test (codes "RIFF") id (size ++ more) named ∙ same in
    rw (four, riff, twelve) refl

-- the second word, where all twelve bytes are there
form_row : (id size form more : List ℕ) (is_wave : Bool) → length id ≡ 4 → length size ≡ 4 → length form ≡ 4 → bytes_eq id (codes "RIFF") ≡ true → bytes_eq form (codes "WAVE") ≡ is_wave
    → first_row (form_rows (id ++ (size ++ (form ++ more)))) ≡ (if not is_wave then Some (NotWave, 8) else None)
form_row id size form more is_wave named sized formed same test =
    let text = id ++ (size ++ (form ++ more)) in
    let long = length_front id size (form ++ more) named sized in
    let rest = length-append form more in
    let four : nat_lt (length text) 4 ≡ false = grind (arith, nat_tests) in
    let twelve : nat_lt (length text) 12 ≡ false = grind (arith, nat_tests) in
    let riff : has_id (codes "RIFF") text ≡ true = id_test (codes "RIFF") id (size ++ (form ++ more)) named ∙ same in
    let wave : has_id (codes "WAVE") (drop 8 text) ≡ is_wave = ap (has_id (codes "WAVE")) (behind_eight id size (form ++ more) named sized) ∙ id_test (codes "WAVE") form more formed ∙ test in
    rw (four, riff, twelve, wave) refl

pub not_riff : (id : List ℕ) (a b : Option (List ℕ)) → length id ≡ 4 → bytes_eq id (codes "RIFF") ≡ false → Consumes a b id → FormStops a (Fault NotRiff 0)
not_riff id None b named other taken = tt
not_riff id (Some xs) None named other taken = absurd taken
not_riff id (Some xs) (Some ys) named other taken = subst (λ (l : List ℕ). first_row (form_rows l) ≡ Some (NotRiff, 0)) (sym taken) (not_riff_row id ys named other)

pub short_form : (id size : List ℕ) (a b c : Option (List ℕ)) (e : WavError) → length id ≡ 4 → length size ≡ 4 → bytes_eq id (codes "RIFF") ≡ true
    → Consumes a b id → Consumes b c size → PartStops 4 8 c e → FormStops a e
short_form id size a b c ReadFault named sized same one two stop = tt
short_form id size None b c (Fault kind place) named sized same one two stop = tt
short_form id size (Some xs) None c (Fault kind place) named sized same one two stop = absurd one
short_form id size (Some xs) (Some ys) None (Fault kind place) named sized same one two stop = absurd two
short_form id size (Some xs) (Some ys) (Some more) (Fault kind place) named sized same one two stop =
    let text = id ++ (size ++ more) in
    let whole : xs ≡ text = one ∙ ap (λ (l : List ℕ). id ++ l) two in
    let at : length text ≡ place = length_front id size more named sized ∙ sym stop.1.1 in
    subst (λ (l : List ℕ). first_row (form_rows l) ≡ Some (kind, place)) (sym whole)
    (short_form_row id size more named sized same stop.1.0 ∙ ap (λ (k : WavKind). Some (k, length text)) (sym stop.0) ∙ ap (λ (n : ℕ). Some (kind, n)) at)

pub not_wave : (id size form : List ℕ) (a b c d : Option (List ℕ)) → length id ≡ 4 → length size ≡ 4 → length form ≡ 4 → bytes_eq id (codes "RIFF") ≡ true → bytes_eq form (codes "WAVE") ≡ false
    → Consumes a b id → Consumes b c size → Consumes c d form → FormStops a (Fault NotWave 8)
not_wave id size form None b c d named sized formed same other one two three = tt
not_wave id size form (Some xs) None c d named sized formed same other one two three = absurd one
not_wave id size form (Some xs) (Some ys) None d named sized formed same other one two three = absurd two
not_wave id size form (Some xs) (Some ys) (Some zs) None named sized formed same other one two three = absurd three
not_wave id size form (Some xs) (Some ys) (Some zs) (Some more) named sized formed same other one two three =
    let whole : xs ≡ id ++ (size ++ (form ++ more)) = one ∙ ap (λ (l : List ℕ). id ++ l) (two ∙ ap (λ (l : List ℕ). size ++ l) three) in
    subst (λ (l : List ℕ). first_row (form_rows l) ≡ Some (NotWave, 8)) (sym whole) (form_row id size form more false named sized formed same other)

pub takes_form : (id size form : List ℕ) (a b c d : Option (List ℕ)) → length size ≡ 4 → bytes_eq id (codes "RIFF") ≡ true → bytes_eq form (codes "WAVE") ≡ true
    → Consumes a b id → Consumes b c size → Consumes c d form → TakesForm a d
takes_form id size form a b c d sized riff wave one two three = record {
  form = id ++ (size ++ form);
  riff = record { size = size; sized = sized; parts = λ i. same_id id (codes "RIFF") riff i ++ (size ++ same_id form (codes "WAVE") wave i) };
  input = Consumes-trans a b d id (size ++ form) one (Consumes-trans b c d size form two three);
}

-- no row's test holds of a text that begins so
pub good_form : (size more : List ℕ) → length size ≡ 4 → first_row (form_rows (codes "RIFF" ++ (size ++ (codes "WAVE" ++ more)))) ≡ None
good_form size more sized = form_row (codes "RIFF") size (codes "WAVE") more true refl sized refl refl refl
