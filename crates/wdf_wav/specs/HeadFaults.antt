-- What is wrong with a head: two tables, each with its rows in the order in which they are looked at.
use Rattle.std.specs.Prelude.{ℕ, ◌+◌, ◌*◌, ◌/◌, ◌%◌, Bool, not, ◌&&◌, ◌||◌, ◌==◌, nat_lt, nat_le, if◌then◌else◌, List, [], ◌∷◌, ◌++◌, length, take, drop, codes, Option, Some, None}
use Rattle.std.specs.Str.{bytes_eq}
use Rattle.wdf_wav.specs.declared.wav_error.WavKind.{WavKind}
use Rattle.wdf_wav.specs.declared.wav_error.WavKind.TheVariants.{NotRiff, NotWave, ShortHead, NoData, TooManyChunks, DataFirst, DoubleFmt, BadFmtSize, BadTag, BadChannels, BadBits, BadAlign, BadSubformat, UnknownLength}
use Rattle.wdf_wav.specs.Chunks.{data_id, format_id}
use Rattle.wdf_wav.specs.FormatChunk.{extensible_tag, pcm_subformat, pcm_tag, subformat_of, u16_at, u32_at}

-- a row: its test, its kind and its offset
abbrev pub Row : Type 0
Row = Bool × (WavKind × ℕ)

-- the kind and the offset of the first row whose test holds
abbrev pub first_row : List Row → Option (WavKind × ℕ)
first_row [] = None
first_row (row ∷ rows) = if row.0 then Some row.1 else first_row rows

-- the text begins with this id
abbrev pub has_id : List ℕ → List ℕ → Bool
has_id id text = bytes_eq (take 4 text) id

-- the first twelve bytes; offsets from the beginning
abbrev pub form_rows : List ℕ → List Row
form_rows bytes =
    (nat_lt (length bytes) 4, (ShortHead, length bytes))
    ∷ (not (has_id (codes "RIFF") bytes), (NotRiff, 0))
    ∷ (nat_lt (length bytes) 12, (ShortHead, length bytes))
    ∷ (not (has_id (codes "WAVE") (drop 8 bytes)), (NotWave, 8))
    ∷ []

abbrev pub is_extensible : List ℕ → Bool
is_extensible body = u16_at 0 body == extensible_tag

abbrev pub is_width : ℕ → Bool
is_width bits = bits == 8 || bits == 16 || bits == 24 || bits == 32

-- the body of `fmt `; offsets from the chunk's id, which stands 8 before the body
abbrev pub format_rows : List ℕ → List Row
format_rows body =
    (not (u16_at 0 body == pcm_tag || is_extensible body), (BadTag, 8))
    ∷ (is_extensible body && nat_lt (length body) 40, (BadFmtSize, 4))
    ∷ (u16_at 2 body == 0 || nat_lt 8 (u16_at 2 body), (BadChannels, 10))
    ∷ (not (is_width (u16_at 14 body)), (BadBits, 22))
    ∷ (not (u16_at 12 body == u16_at 2 body * (u16_at 14 body / 8)), (BadAlign, 20))
    ∷ (is_extensible body && not (bytes_eq (subformat_of body) pcm_subformat), (BadSubformat, 32))
    ∷ []

-- the size and the body of the chunk with which the text begins
abbrev pub size_of : List ℕ → ℕ
size_of text = u32_at 4 text

abbrev pub body_of : List ℕ → List ℕ
body_of text = take (size_of text) (drop 8 text)

-- The text behind `count` chunks, of which one was `fmt ` if `told`; offsets from the beginning of the text. A part
-- that is not there whole is ShortHead, at the end of the text.
abbrev pub chunk_rows : ℕ → Bool → List ℕ → List Row
chunk_rows count told text =
    (length text == 0, (NoData, 0))
    ∷ (nat_lt (length text) 4, (ShortHead, length text))
    ∷ (has_id data_id text && not told, (DataFirst, 0))
    ∷ (not (has_id data_id text) && nat_le 64 count, (TooManyChunks, 0))
    ∷ (has_id format_id text && told, (DoubleFmt, 0))
    ∷ (nat_lt (length text) 8, (ShortHead, length text))
    ∷ (has_id data_id text && nat_le 0xFFFFFF00 (size_of text), (UnknownLength, 4))
    ∷ (has_id format_id text && (nat_lt (size_of text) 16 || nat_lt 64 (size_of text)), (BadFmtSize, 4))
    ∷ (has_id format_id text && nat_lt (length text) (8 + size_of text), (ShortHead, length text))
    ∷ (if has_id format_id text then format_rows (body_of text) else [])
    ++ (not (has_id data_id text) && nat_lt (length text) (8 + (size_of text + size_of text % 2)), (ShortHead, length text))
    ∷ []
