-- Which row of the table of a chunk holds first.
use Rattle.std.proofs.Common.{◌≡◌, ℕ, ◌+◌, ◌%◌, ◌<◌, ◌≤◌, Bool, true, false, ◌||◌, ◌==◌, nat_lt, nat_le, List, [], ◌∷◌, ◌++◌, length, Some, None, refl, ◌∙◌, arith}
use Rattle.std.proofs.lemmas.Bool.Decides.{nat_tests}
use Rattle.wdf_wav.specs.declared.wav_error.WavKind.{WavKind}
use Rattle.wdf_wav.specs.declared.wav_error.WavKind.TheVariants.{ShortHead, TooManyChunks, BadFmtSize}
use Rattle.wdf_wav.specs.Chunks.{data_id, format_id}
use Rattle.wdf_wav.specs.HeadFaults.{Row, body_of, chunk_rows, first_row, format_rows, has_id, size_of}

-- a row that holds is the first of more rows too
pub first-append : (rows more : List Row) (x : WavKind × ℕ) → first_row rows ≡ Some x → first_row (rows ++ more) ≡ Some x
first-append [] more x e = absurd (cc)
first-append ((true, y) ∷ rows) more x e = e
first-append ((false, y) ∷ rows) more x e = first-append rows more x e

-- where none holds, the first is that of the others
pub first-behind : (rows more : List Row) → first_row rows ≡ None → first_row (rows ++ more) ≡ first_row more
first-behind [] more e = refl
first-behind ((true, y) ∷ rows) more e = absurd (cc)
first-behind ((false, y) ∷ rows) more e = first-behind rows more e

-- the id is not whole
pub short_id_row : (count : ℕ) (told : Bool) (text : List ℕ) → 0 < length text → length text < 4 → first_row (chunk_rows count told text) ≡ Some (ShortHead, length text)
short_id_row count told text some few =
    let empty : (length text == 0) ≡ false = grind (arith, nat_tests) in
    let four : nat_lt (length text) 4 ≡ true = grind (arith, nat_tests) in
    rw (empty, four) refl

-- a chunk too many
pub too_many_row : (count : ℕ) (told : Bool) (text : List ℕ) → 4 ≤ length text → has_id data_id text ≡ false → 64 ≤ count
    → first_row (chunk_rows count told text) ≡ Some (TooManyChunks, 0)
too_many_row count told text long other many =
    let empty : (length text == 0) ≡ false = grind (arith, nat_tests) in
    let four : nat_lt (length text) 4 ≡ false = grind (arith, nat_tests) in
    let full : nat_le 64 count ≡ true = grind (arith, nat_tests) in
    rw (empty, four, other, full) refl

-- the size of `data` is not whole
pub short_data_row : (count : ℕ) (text : List ℕ) → 4 ≤ length text → length text < 8 → has_id data_id text ≡ true → has_id format_id text ≡ false
    → first_row (chunk_rows count true text) ≡ Some (ShortHead, length text)
short_data_row count text long short here other =
    let empty : (length text == 0) ≡ false = grind (arith, nat_tests) in
    let four : nat_lt (length text) 4 ≡ false = grind (arith, nat_tests) in
    let eight : nat_lt (length text) 8 ≡ true = grind (arith, nat_tests) in
    rw (empty, four, here, other, eight) refl

-- the size of a chunk that is passed over is not whole
pub short_size_row : (count : ℕ) (told : Bool) (text : List ℕ) → count < 64 → 4 ≤ length text → length text < 8 → has_id data_id text ≡ false → has_id format_id text ≡ false
    → first_row (chunk_rows count told text) ≡ Some (ShortHead, length text)
short_size_row count told text few long short early other =
    let empty : (length text == 0) ≡ false = grind (arith, nat_tests) in
    let four : nat_lt (length text) 4 ≡ false = grind (arith, nat_tests) in
    let room : nat_le 64 count ≡ false = grind (arith, nat_tests) in
    let eight : nat_lt (length text) 8 ≡ true = grind (arith, nat_tests) in
    rw (empty, four, early, room, other, eight) refl

-- a chunk that is passed over is not whole
pub short_chunk_row : (count : ℕ) (told : Bool) (text : List ℕ) → count < 64 → 8 ≤ length text → length text < 8 + (size_of text + size_of text % 2)
    → has_id data_id text ≡ false → has_id format_id text ≡ false → first_row (chunk_rows count told text) ≡ Some (ShortHead, length text)
short_chunk_row count told text few long short early other =
    let empty : (length text == 0) ≡ false = grind (arith, nat_tests) in
    let four : nat_lt (length text) 4 ≡ false = grind (arith, nat_tests) in
    let room : nat_le 64 count ≡ false = grind (arith, nat_tests) in
    let eight : nat_lt (length text) 8 ≡ false = grind (arith, nat_tests) in
    let end : nat_lt (length text) (8 + (size_of text + size_of text % 2)) ≡ true = grind (arith, nat_tests) in
    rw (empty, four, early, room, other, eight, end) refl

-- a chunk that is passed over is whole
pub whole_chunk_row : (count : ℕ) (told : Bool) (text : List ℕ) → count < 64 → 8 ≤ length text → 8 + (size_of text + size_of text % 2) ≤ length text
    → has_id data_id text ≡ false → has_id format_id text ≡ false → first_row (chunk_rows count told text) ≡ None
whole_chunk_row count told text few long whole early other =
    let empty : (length text == 0) ≡ false = grind (arith, nat_tests) in
    let four : nat_lt (length text) 4 ≡ false = grind (arith, nat_tests) in
    let room : nat_le 64 count ≡ false = grind (arith, nat_tests) in
    let eight : nat_lt (length text) 8 ≡ false = grind (arith, nat_tests) in
    let end : nat_lt (length text) (8 + (size_of text + size_of text % 2)) ≡ false = grind (arith, nat_tests) in
    rw (empty, four, early, room, other, eight, end) refl

-- the size of `fmt ` is not whole
pub short_format_size_row : (count : ℕ) (text : List ℕ) → count < 64 → 4 ≤ length text → length text < 8 → has_id data_id text ≡ false → has_id format_id text ≡ true
    → first_row (chunk_rows count false text) ≡ Some (ShortHead, length text)
short_format_size_row count text few long short early here =
    let empty : (length text == 0) ≡ false = grind (arith, nat_tests) in
    let four : nat_lt (length text) 4 ≡ false = grind (arith, nat_tests) in
    let room : nat_le 64 count ≡ false = grind (arith, nat_tests) in
    let eight : nat_lt (length text) 8 ≡ true = grind (arith, nat_tests) in
    rw (empty, four, early, room, here, eight) refl

-- the size of `fmt ` is wrong
pub format_size_row : (count : ℕ) (text : List ℕ) → count < 64 → 8 ≤ length text → has_id data_id text ≡ false → has_id format_id text ≡ true
    → (nat_lt (size_of text) 16 || nat_lt 64 (size_of text)) ≡ true → first_row (chunk_rows count false text) ≡ Some (BadFmtSize, 4)
format_size_row count text few long early here wrong =
    let empty : (length text == 0) ≡ false = grind (arith, nat_tests) in
    let four : nat_lt (length text) 4 ≡ false = grind (arith, nat_tests) in
    let room : nat_le 64 count ≡ false = grind (arith, nat_tests) in
    let eight : nat_lt (length text) 8 ≡ false = grind (arith, nat_tests) in
    rw (empty, four, early, room, here, eight, wrong) refl

-- the rows of a `fmt ` whose size is there and good
behind_size : (count : ℕ) (text : List ℕ) → count < 64 → 8 ≤ length text → has_id data_id text ≡ false → has_id format_id text ≡ true
    → (nat_lt (size_of text) 16 || nat_lt 64 (size_of text)) ≡ false
    → first_row (chunk_rows count false text)
    ≡ first_row ((nat_lt (length text) (8 + size_of text), (ShortHead, length text)) ∷ format_rows (body_of text)
    ++ (nat_lt (length text) (8 + (size_of text + size_of text % 2)), (ShortHead, length text)) ∷ [])
behind_size count text few long early here good =
    let empty : (length text == 0) ≡ false = grind (arith, nat_tests) in
    let four : nat_lt (length text) 4 ≡ false = grind (arith, nat_tests) in
    let room : nat_le 64 count ≡ false = grind (arith, nat_tests) in
    let eight : nat_lt (length text) 8 ≡ false = grind (arith, nat_tests) in
    rw (empty, four, early, room, here, eight, good) refl

-- the body of `fmt ` is not whole
pub short_body_row : (count : ℕ) (text : List ℕ) → count < 64 → 8 ≤ length text → has_id data_id text ≡ false → has_id format_id text ≡ true
    → (nat_lt (size_of text) 16 || nat_lt 64 (size_of text)) ≡ false → length text < 8 + size_of text
    → first_row (chunk_rows count false text) ≡ Some (ShortHead, length text)
short_body_row count text few long early here good short =
    let body : nat_lt (length text) (8 + size_of text) ≡ true = grind (arith, nat_tests) in
    behind_size count text few long early here good ∙ rw body refl

-- the rows of a `fmt ` whose body is there whole
behind_body : (count : ℕ) (text : List ℕ) → count < 64 → 8 ≤ length text → has_id data_id text ≡ false → has_id format_id text ≡ true
    → (nat_lt (size_of text) 16 || nat_lt 64 (size_of text)) ≡ false → 8 + size_of text ≤ length text
    → first_row (chunk_rows count false text)
    ≡ first_row (format_rows (body_of text) ++ (nat_lt (length text) (8 + (size_of text + size_of text % 2)), (ShortHead, length text)) ∷ [])
behind_body count text few long early here good whole =
    let body : nat_lt (length text) (8 + size_of text) ≡ false = grind (arith, nat_tests) in
    behind_size count text few long early here good ∙ rw body refl

-- a field of `fmt ` is wrong
pub bad_fields_row : (count : ℕ) (text : List ℕ) (x : WavKind × ℕ) → count < 64 → 8 ≤ length text → has_id data_id text ≡ false → has_id format_id text ≡ true
    → (nat_lt (size_of text) 16 || nat_lt 64 (size_of text)) ≡ false → 8 + size_of text ≤ length text → first_row (format_rows (body_of text)) ≡ Some x
    → first_row (chunk_rows count false text) ≡ Some x
bad_fields_row count text x few long early here good whole wrong =
    behind_body count text few long early here good whole
    ∙ first-append (format_rows (body_of text)) ((nat_lt (length text) (8 + (size_of text + size_of text % 2)), (ShortHead, length text)) ∷ []) x wrong

-- the pad of `fmt ` is not there
pub short_pad_row : (count : ℕ) (text : List ℕ) → count < 64 → 8 ≤ length text → has_id data_id text ≡ false → has_id format_id text ≡ true
    → (nat_lt (size_of text) 16 || nat_lt 64 (size_of text)) ≡ false → first_row (format_rows (body_of text)) ≡ None
    → 8 + size_of text ≤ length text → length text < 8 + (size_of text + size_of text % 2)
    → first_row (chunk_rows count false text) ≡ Some (ShortHead, length text)
short_pad_row count text few long early here good fields whole short =
    let end : nat_lt (length text) (8 + (size_of text + size_of text % 2)) ≡ true = grind (arith, nat_tests) in
    behind_body count text few long early here good whole
    ∙ first-behind (format_rows (body_of text)) ((nat_lt (length text) (8 + (size_of text + size_of text % 2)), (ShortHead, length text)) ∷ []) fields
    ∙ rw end refl

-- a `fmt ` that tells a format is whole
pub whole_format_row : (count : ℕ) (text : List ℕ) → count < 64 → 8 ≤ length text → has_id data_id text ≡ false → has_id format_id text ≡ true
    → (nat_lt (size_of text) 16 || nat_lt 64 (size_of text)) ≡ false → first_row (format_rows (body_of text)) ≡ None
    → 8 + (size_of text + size_of text % 2) ≤ length text
    → first_row (chunk_rows count false text) ≡ None
whole_format_row count text few long early here good fields whole =
    let end : nat_lt (length text) (8 + (size_of text + size_of text % 2)) ≡ false = grind (arith, nat_tests) in
    behind_body count text few long early here good (omega arith)
    ∙ first-behind (format_rows (body_of text)) ((nat_lt (length text) (8 + (size_of text + size_of text % 2)), (ShortHead, length text)) ∷ []) fields
    ∙ rw end refl
