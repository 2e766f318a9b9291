-- Where reading stops: from what a part says of what is left to what the table says of the whole chunk.
use Rattle.std.proofs.Common.{◌≡◌, ℕ, ◌+◌, ◌%◌, ◌<◌, ◌≤◌, inl, inr, true, false, ◌||◌, nat_lt, List, [], ◌++◌, length, take, Option, Some, None, is_some, refl, sym, ap, ◌∙◌, subst, arith, append_assoc, length-append, length-take-le, append-nil}
use Rattle.std.specs.Io.KnownBytes.{Consumes, IsAtEnd}
use Rattle.std.specs.Str.{bytes_eq}
use Rattle.std.proofs.lemmas.List.{take_at}
use Rattle.wdf_wav.specs.declared.format.Format.{Format}
use Rattle.wdf_wav.specs.declared.seen.Seen.{Seen}
use Rattle.wdf_wav.specs.declared.wav_error.WavError.{WavError}
use Rattle.wdf_wav.specs.declared.wav_error.WavError.TheVariants.{Fault, ReadFault}
use Rattle.wdf_wav.specs.declared.wav_error.WavKind.{WavKind}
use Rattle.wdf_wav.specs.declared.wav_error.WavKind.TheVariants.{BadFmtSize, ShortHead, TooManyChunks}
use Rattle.wdf_wav.specs.Chunks.{data_id, format_id}
use Rattle.wdf_wav.specs.FormatChunk.{IsFormat, u32_at}
use Rattle.wdf_wav.specs.HeadFaults.{body_of, chunk_rows, first_row, format_rows, size_of}
use Rattle.wdf_wav.specs.HeadReading.{BodyStops, ChunkStops, FieldsStop, IdStops, PartStops}
use Rattle.wdf_wav.proofs.ChunkTextLemmas.{body_taken, id_test, length_front, size_front}
use Rattle.wdf_wav.proofs.FormatLemmas.{good_format}
use Rattle.wdf_wav.proofs.HeadRows.{bad_fields_row, format_size_row, short_body_row, short_chunk_row, short_data_row, short_format_size_row, short_id_row, short_pad_row, short_size_row, too_many_row}

-- what holds behind a part that was taken holds before it
pub stops_back : (seen : Seen) (front part : List ℕ) (left left' : Option (List ℕ)) (e : WavError) → Consumes left left' part
    → ChunkStops seen (front ++ part) left' e → ChunkStops seen front left e
stops_back seen front part left left' ReadFault taken stop = tt
stops_back seen front part None left' (Fault kind place) taken stop = tt
stops_back seen front part (Some xs) None (Fault kind place) taken stop = absurd taken
stops_back seen front part (Some xs) (Some ys) (Fault kind place) taken stop =
    let whole : front ++ part ++ ys ≡ front ++ xs = append_assoc front part ys ∙ ap (λ (l : List ℕ). front ++ l) (sym taken) in
    (stop.0, stop.1, subst (λ (l : List ℕ). first_row (chunk_rows seen.chunks (is_some seen.format) l) ≡ Some (kind, stop.0)) whole stop.2)

-- a part that ends short is ShortHead, where the table says so of each text that ends within it
pub part_stops : (seen : Seen) (front : List ℕ) (size at : ℕ) (left : Option (List ℕ)) (e : WavError) → at ≡ seen.at + length front
    → ((more : List ℕ) → length more < size → first_row (chunk_rows seen.chunks (is_some seen.format) (front ++ more)) ≡ Some (ShortHead, length (front ++ more)))
    → PartStops size at left e → ChunkStops seen front left e
part_stops seen front size at left ReadFault begins row stop = tt
part_stops seen front size at None (Fault kind place) begins row stop = tt
part_stops seen front size at (Some more) (Fault kind place) begins row stop = (
  length (front ++ more),
  omega (arith, length-append front more, stop.1.1),
  row more stop.1.0 ∙ ap (λ (k : WavKind). Some (k, length (front ++ more))) (sym stop.0),
)

-- the size of `data` is not whole
pub data_size_stops : (seen : Seen) (f : Format) (left : Option (List ℕ)) (e : WavError) → seen.format ≡ Some f → PartStops 4 (seen.at + 4) left e → ChunkStops seen data_id left e
data_size_stops seen f left e told =
    let row : (more : List ℕ) → length more < 4 → first_row (chunk_rows seen.chunks (is_some seen.format) (data_id ++ more)) ≡ Some (ShortHead, length (data_id ++ more)) =
    λ more short. rw told (short_data_row seen.chunks (data_id ++ more) (omega (arith, length-append data_id more)) (omega (arith, length-append data_id more)) refl refl) in
    part_stops seen data_id 4 (seen.at + 4) left e refl row

-- the size of a chunk that is passed over is not whole
pub size_stops : (seen : Seen) (id : List ℕ) (left : Option (List ℕ)) (e : WavError) → seen.chunks < 64 → length id ≡ 4 → bytes_eq id data_id ≡ false → bytes_eq id format_id ≡ false
    → PartStops 4 (seen.at + 4) left e → ChunkStops seen id left e
size_stops seen id left e few named early other =
    part_stops seen id 4 (seen.at + 4) left e (omega (arith, named)) (λ more short.
    short_size_row seen.chunks (is_some seen.format) (id ++ more) few (omega (arith, length-append id more)) (omega (arith, length-append id more))
    (id_test data_id id more named ∙ early) (id_test format_id id more named ∙ other))

-- the body or the pad of a chunk that is passed over is not whole
pub chunk_stops : (seen : Seen) (id size : List ℕ) (n : ℕ) (left left' : Option (List ℕ)) (e : WavError) → seen.chunks < 64 → length id ≡ 4 → bytes_eq id data_id ≡ false → bytes_eq id format_id ≡ false
    → length size ≡ 4 → n ≡ u32_at 0 size → Consumes left left' size → PartStops (n + n % 2) (seen.at + 8) left' e → ChunkStops seen id left e
chunk_stops seen id size n left left' e few named early other sized number taken stop =
    stops_back seen id size left left' e taken (part_stops seen (id ++ size) (n + n % 2) (seen.at + 8) left' e (omega (arith, length-append id size)) (λ more short.
    let text = id ++ (size ++ more) in
    let long = length_front id size more named sized in
    let count : size_of text ≡ n = size_front id size more named sized ∙ sym number in
    let within : length text < 8 + (size_of text + size_of text % 2) = rw count (omega arith) in
    subst (λ (l : List ℕ). first_row (chunk_rows seen.chunks (is_some seen.format) l) ≡ Some (ShortHead, length l)) (sym (append_assoc id size more))
    (short_chunk_row seen.chunks (is_some seen.format) text few (omega arith) within (id_test data_id id (size ++ more) named ∙ early) (id_test format_id id (size ++ more) named ∙ other))) stop)

-- the size of `fmt ` is not whole
pub format_size_stops : (seen : Seen) (left : Option (List ℕ)) (e : WavError) → seen.chunks < 64 → seen.format ≡ None
    → PartStops 4 (seen.at + 4) left e → ChunkStops seen format_id left e
format_size_stops seen left e few first =
    let row : (more : List ℕ) → length more < 4 → first_row (chunk_rows seen.chunks (is_some seen.format) (format_id ++ more)) ≡ Some (ShortHead, length (format_id ++ more)) =
    λ more short. rw first (short_format_size_row seen.chunks (format_id ++ more) few (omega (arith, length-append format_id more)) (omega (arith, length-append format_id more)) refl refl) in
    part_stops seen format_id 4 (seen.at + 4) left e refl row

-- the body of `fmt ` is not whole, or its fields are wrong
pub body_stops : (seen : Seen) (size : List ℕ) (n : ℕ) (left left' : Option (List ℕ)) (e : WavError) → seen.chunks < 64 → seen.format ≡ None
    → length size ≡ 4 → n ≡ u32_at 0 size → (nat_lt n 16 || nat_lt 64 n) ≡ false → Consumes left left' size → BodyStops n seen.at left' e → ChunkStops seen format_id left e
body_stops seen size n left left' ReadFault few first sized number good taken stop = tt
body_stops seen size n None left' (Fault kind place) few first sized number good taken stop = tt
body_stops seen size n (Some xs) None (Fault kind place) few first sized number good taken stop = absurd taken
body_stops seen size n (Some xs) (Some more) (Fault kind place) few first sized number good taken (inl short) =
    let text = format_id ++ (size ++ more) in
    let long = length_front format_id size more refl sized in
    let count : size_of text ≡ n = size_front format_id size more refl sized ∙ sym number in
    let fits : (nat_lt (size_of text) 16 || nat_lt 64 (size_of text)) ≡ false = rw count good in
    let row : first_row (chunk_rows seen.chunks (is_some seen.format) text) ≡ Some (ShortHead, length text) =
    rw first (short_body_row seen.chunks text few (omega arith) refl refl fits (rw count (omega (arith, short.0)))) in
    let whole : text ≡ format_id ++ xs = ap (λ (l : List ℕ). format_id ++ l) (sym taken) in (
      length text,
      omega (arith, short.2),
      subst (λ (l : List ℕ). first_row (chunk_rows seen.chunks (is_some seen.format) l) ≡ Some (kind, length text)) whole
          (row ∙ ap (λ (k : WavKind). Some (k, length text)) (sym short.1)),
    )
body_stops seen size n (Some xs) (Some more) (Fault kind place) few first sized number good taken (inr wrong) =
    let text = format_id ++ (size ++ more) in
    let long = length_front format_id size more refl sized in
    let count : size_of text ≡ n = size_front format_id size more refl sized ∙ sym number in
    let fits : (nat_lt (size_of text) 16 || nat_lt 64 (size_of text)) ≡ false = rw count good in
    let body : body_of text ≡ take n more = body_taken format_id size more refl sized ∙ ap (λ (k : ℕ). take k more) (sym number) in
    let row : first_row (chunk_rows seen.chunks (is_some seen.format) text) ≡ Some (kind, wrong.1.0) =
    rw first (bad_fields_row seen.chunks text (kind, wrong.1.0) few (omega arith) refl refl fits (rw count (omega (arith, wrong.0))) (rw body wrong.1.2)) in
    let whole : text ≡ format_id ++ xs = ap (λ (l : List ℕ). format_id ++ l) (sym taken) in
    (wrong.1.0, wrong.1.1, subst (λ (l : List ℕ). first_row (chunk_rows seen.chunks (is_some seen.format) l) ≡ Some (kind, wrong.1.0)) whole row)

-- the pad of `fmt ` is not there
pub pad_stops : (seen : Seen) (size body : List ℕ) (n : ℕ) (f : Format) (a b c : Option (List ℕ)) (e : WavError) → seen.chunks < 64 → seen.format ≡ None
    → length size ≡ 4 → n ≡ u32_at 0 size → (nat_lt n 16 || nat_lt 64 n) ≡ false → length body ≡ n → IsFormat body f → Consumes a b size → Consumes b c body
    → PartStops (n % 2) (seen.at + 8 + n) c e → ChunkStops seen format_id a e
pad_stops seen size body n f a b c e few first sized number good whole format one two stop =
    let front = format_id ++ size ++ body in
    let begins : seen.at + 8 + n ≡ seen.at + length front = omega (arith, length-append (format_id ++ size) body, length-append format_id size) in
    let row : (more : List ℕ) → length more < n % 2 → first_row (chunk_rows seen.chunks (is_some seen.format) (front ++ more)) ≡ Some (ShortHead, length (front ++ more)) =
    λ more short.
    let text = format_id ++ (size ++ (body ++ more)) in
    let same : front ++ more ≡ text = append_assoc (format_id ++ size) body more ∙ append_assoc format_id size (body ++ more) in
    let long = length_front format_id size (body ++ more) refl sized in
    let rest = length-append body more in
    let count : size_of text ≡ n = size_front format_id size (body ++ more) refl sized ∙ sym number in
    let fits : (nat_lt (size_of text) 16 || nat_lt 64 (size_of text)) ≡ false = rw count good in
    let told : body_of text ≡ body = body_taken format_id size (body ++ more) refl sized ∙ ap (λ (k : ℕ). take k (body ++ more)) (sym number ∙ sym whole) ∙ take_at body more (length body) refl in
    let fields : first_row (format_rows (body_of text)) ≡ None = rw told (good_format body f format) in
    subst (λ (l : List ℕ). first_row (chunk_rows seen.chunks (is_some seen.format) l) ≡ Some (ShortHead, length l)) (sym same)
    (rw first (short_pad_row seen.chunks text few (omega arith) refl refl fits fields (rw count (omega arith)) (rw count (omega arith)))) in
    stops_back seen format_id size a b e one (stops_back seen (format_id ++ size) body b c e two (part_stops seen front (n % 2) (seen.at + 8 + n) c e begins row stop))

-- no id: the text before it is the rest of the input
pub id_stops : (seen : Seen) (left : Option (List ℕ)) (e : WavError) → IdStops seen.at left e → ChunkStops seen [] left e
id_stops seen left ReadFault stop = tt
id_stops seen None (Fault kind place) stop = tt
id_stops seen (Some more) (Fault kind place) stop = stop seen.chunks (is_some seen.format)

-- the input ends within an id
pub short_id_stops : (at n : ℕ) (id : List ℕ) (left left' : Option (List ℕ)) → 0 < n → n < 4 → n ≤ length id → Consumes left left' (take n id) → IsAtEnd left'
    → IdStops at left (Fault ShortHead (at + n))
short_id_stops at n id None left' some few within taken end = λ count told. tt
short_id_stops at n id (Some xs) None some few within taken end = absurd taken
short_id_stops at n id (Some xs) (Some ys) some few within taken end =
    let all : xs ≡ take n id = taken ∙ ap (λ (l : List ℕ). take n id ++ l) end ∙ append-nil (take n id) in
    let count : length xs ≡ n = ap length all ∙ length-take-le n id within in
    λ which told. (n, refl, short_id_row which told xs (omega arith) (omega arith) ∙ ap (λ (k : ℕ). Some (ShortHead, k)) count)

-- a chunk too many
pub too_many_stops : (seen : Seen) (id : List ℕ) (left left' : Option (List ℕ)) → 64 ≤ seen.chunks → length id ≡ 4 → bytes_eq id data_id ≡ false → Consumes left left' id
    → ChunkStops seen [] left (Fault TooManyChunks seen.at)
too_many_stops seen id None left' many named other taken = tt
too_many_stops seen id (Some xs) None many named other taken = absurd taken
too_many_stops seen id (Some xs) (Some more) many named other taken =
    let row = too_many_row seen.chunks (is_some seen.format) (id ++ more) (omega (arith, length-append id more)) (id_test data_id id more named ∙ other) many in
    (0, omega arith, subst (λ (l : List ℕ). first_row (chunk_rows seen.chunks (is_some seen.format) l) ≡ Some (TooManyChunks, 0)) (sym taken) row)

-- the size of `fmt ` is wrong
pub bad_size_stops : (seen : Seen) (size : List ℕ) (n : ℕ) (left left' : Option (List ℕ)) → seen.chunks < 64 → seen.format ≡ None
    → length size ≡ 4 → n ≡ u32_at 0 size → (nat_lt n 16 || nat_lt 64 n) ≡ true → Consumes left left' size → ChunkStops seen format_id left (Fault BadFmtSize (seen.at + 4))
bad_size_stops seen size n None left' few first sized number wrong taken = tt
bad_size_stops seen size n (Some xs) None few first sized number wrong taken = absurd taken
bad_size_stops seen size n (Some xs) (Some more) few first sized number wrong taken =
    let text = format_id ++ (size ++ more) in
    let long = length_front format_id size more refl sized in
    let count : size_of text ≡ n = size_front format_id size more refl sized ∙ sym number in
    let row : first_row (chunk_rows seen.chunks (is_some seen.format) text) ≡ Some (BadFmtSize, 4) =
    rw first (format_size_row seen.chunks text few (omega arith) refl refl (rw count wrong)) in
    (4, refl, subst (λ (l : List ℕ). first_row (chunk_rows seen.chunks (is_some seen.format) (format_id ++ l)) ≡ Some (BadFmtSize, 4)) (sym taken) row)

-- the fields of the body that was taken are wrong
pub fields_stop : (n at : ℕ) (body : List ℕ) (left left' : Option (List ℕ)) (e : WavError) → length body ≡ n → Consumes left left' body → FieldsStop at body e → BodyStops n at left e
fields_stop n at body left left' ReadFault whole taken stop = tt
fields_stop n at body None left' (Fault kind place) whole taken stop = tt
fields_stop n at body (Some xs) None (Fault kind place) whole taken stop = absurd taken
fields_stop n at body (Some xs) (Some ys) (Fault kind place) whole taken stop =
    let front : take n xs ≡ body = ap (take n) taken ∙ take_at body ys n whole in
    let long : length xs ≡ length body + length ys = ap length taken ∙ length-append body ys in
    inr (omega arith, subst (λ (l : List ℕ). FieldsStop at l (Fault kind place)) (sym front) stop)

-- no format was told
pub none_told : (o : Option Format) → is_some o ≡ false → o ≡ None
none_told None e = refl
none_told (Some f) e = absurd (cc)
