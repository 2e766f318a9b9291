-- Each text has an answer.
use Rattle.std.proofs.Common.{◌≡◌, ℕ, zero, suc, ◌+◌, ◌-◌, ◌*◌, ◌/◌, ◌%◌, ◌<◌, ◌≤◌, ◌⊎◌, inl, inr, Bool, true, false, not, ◌&&◌, ◌||◌, ◌==◌, nat_lt, nat_le, if◌then◌else◌, List, [], ◌∷◌, ◌++◌, length, take, drop, flat_map, codes, Option, Some, None, is_some, refl, sym, ap, ◌∙◌, subst, arith, append_assoc, length-append, length-take-le, length-drop, take-append-drop}
use Rattle.std.proofs.lemmas.Bool.Decides.{nat_tests}
use Rattle.std.proofs.lemmas.List.{drop-drop}
use Rattle.std.specs.Str.{bytes_eq}
use Rattle.wdf_wav.specs.declared.format.Format.{Format}
use Rattle.wdf_wav.specs.declared.head.Head.{Head}
use Rattle.wdf_wav.specs.declared.wav_error.WavKind.{WavKind}
use Rattle.wdf_wav.specs.declared.wav_error.WavKind.TheVariants.{ShortHead}
use Rattle.wdf_wav.specs.Chunks.{BeginsWith, Chunk, IsChunk, MayPrecede, MayStand, chunk_bytes, data_id, format_id}
use Rattle.wdf_wav.specs.FormatChunk.{pcm_subformat, pcm_tag, subformat_of, u16_at, u32_at}
use Rattle.wdf_wav.specs.HeadFaults.{body_of, chunk_rows, first_row, form_rows, format_rows, has_id, is_extensible, is_width, size_of}
use Rattle.wdf_wav.specs.HeadLaws.{HasHead}
use Rattle.wdf_wav.specs.HeadReading.{format_in}
use Rattle.wdf_wav.specs.WaveHead.{IsWaveFault, head_of}
use Rattle.wdf_wav.proofs.ChunkTextLemmas.{number_front}
use Rattle.wdf_wav.proofs.FormatLemmas.{negated, tells_format}
use Rattle.wdf_wav.proofs.OneCutLemmas.{chunk_text}
use Rattle.wdf_wav.proofs.PassLemmas.{other_id, same_id}
use Rattle.wdf_wav.proofs.SeenLemmas.{flat-snoc, precede-snoc}

-- a row that is not the first answer does not hold, and the others answer
none_here : (t : Bool) (x : WavKind × ℕ) (others : Option (WavKind × ℕ)) → (if t then Some x else others) ≡ None → (t ≡ false) × (others ≡ None)
none_here true x others e = absurd (cc)
none_here false x others e = (refl, e)

-- what is known of the text where no row holds
record NoRow (count : ℕ) (told : Bool) (text : List ℕ) : Type 0 where
  empty : (length text == 0) ≡ false
  four : nat_lt (length text) 4 ≡ false
  first : (has_id data_id text && not told) ≡ false
  room : (not (has_id data_id text) && nat_le 64 count) ≡ false
  once : (has_id format_id text && told) ≡ false
  eight : nat_lt (length text) 8 ≡ false
  known : (has_id data_id text && nat_le 0xFFFFFF00 (size_of text)) ≡ false
  size : (has_id format_id text && (nat_lt (size_of text) 16 || nat_lt 64 (size_of text))) ≡ false
  body : (has_id format_id text && nat_lt (length text) (8 + size_of text)) ≡ false
  behind : first_row ((if has_id format_id text then format_rows (body_of text) else [])
      ++ (not (has_id data_id text) && nat_lt (length text) (8 + (size_of text + size_of text % 2)), (ShortHead, length text)) ∷ []) ≡ None

no_row : (count : ℕ) (told : Bool) (text : List ℕ) → first_row (chunk_rows count told text) ≡ None → NoRow count told text
no_row count told text e =
    let a = none_here _ _ _ e in
    let b = none_here _ _ _ a.1 in
    let c = none_here _ _ _ b.1 in
    let d = none_here _ _ _ c.1 in
    let f = none_here _ _ _ d.1 in
    let g = none_here _ _ _ f.1 in
    let h = none_here _ _ _ g.1 in
    let i = none_here _ _ _ h.1 in
    let j = none_here _ _ _ i.1 in
    record { empty = a.0; four = b.0; first = c.0; room = d.0; once = f.0; eight = g.0; known = h.0; size = i.0; body = j.0; behind = j.1 }

-- the parts of eight bytes and more
named_part : (text : List ℕ) → 8 ≤ length text → length (take 4 text) ≡ 4
named_part text long = length-take-le 4 text (omega arith)

sized_part : (text : List ℕ) → 8 ≤ length text → length (take 4 (drop 4 text)) ≡ 4
sized_part text long = length-take-le 4 (drop 4 text) (omega (arith, length-drop 4 text))

text_parts : (text : List ℕ) → text ≡ take 4 text ++ (take 4 (drop 4 text) ++ drop 8 text)
text_parts text =
    sym (take-append-drop 4 text)
    ∙ ap (λ (l : List ℕ). take 4 text ++ l) (sym (take-append-drop 4 (drop 4 text)) ∙ ap (λ (l : List ℕ). take 4 (drop 4 text) ++ l) (drop-drop 4 4 text))

size_part : (text : List ℕ) → 8 ≤ length text → u32_at 0 (take 4 (drop 4 text)) ≡ size_of text
size_part text long =
    sym (number_front (take 4 (drop 4 text)) (drop 4 (drop 4 text)) (sized_part text long)) ∙ ap (u32_at 0) (take-append-drop 4 (drop 4 text))

-- `data` and a known size begin the text
record AtData (told : Option Format) (text : List ℕ) : Type 0 where
  format : Format
  was_told : told ≡ Some format
  size : List ℕ
  sized : length size ≡ 4
  known : u32_at 0 size < 0xFFFFFF00
  more : List ℕ
  parts : text ≡ data_id ++ (size ++ more)

at_data : (count : ℕ) (told : Option Format) (text : List ℕ) → NoRow count (is_some told) text → has_id data_id text ≡ true → AtData told text
at_data count None text n here =
    let first : (has_id data_id text && true) ≡ false = n.first in
    let other : (true && true) ≡ false = ap (λ (b : Bool). b && true) (sym here) ∙ first in
    absurd (cc)
at_data count (Some f) text n here =
    let eight = n.eight in
    let long : 8 ≤ length text = grind (arith, nat_tests) in
    let test : nat_le 0xFFFFFF00 (size_of text) ≡ false = ap (λ (b : Bool). b && nat_le 0xFFFFFF00 (size_of text)) (sym here) ∙ n.known in
    let below : size_of text < 0xFFFFFF00 = grind (arith, nat_tests) in
    let number = size_part text long in
    record {
      format = f;
      was_told = refl;
      size = take 4 (drop 4 text);
      sized = sized_part text long;
      known = omega arith;
      more = drop 8 text;
      parts = text_parts text ∙ ap (λ (l : List ℕ). l ++ (take 4 (drop 4 text) ++ drop 8 text)) (same_id (take 4 text) data_id here);
    }

-- a chunk that may stand here begins the text
record AtChunk (count : ℕ) (told : Option Format) (text : List ℕ) : Type 0 where
  chunk : Chunk
  after : Option Format
  early : count < 64
  stands : MayStand told after chunk
  more : List ℕ
  parts : text ≡ chunk_bytes chunk ++ more

-- the chunk that stands at the front of a text that is long enough
abbrev chunk_at : List ℕ → Chunk
chunk_at text = record { id = take 4 text; size = take 4 (drop 4 text); body = body_of text; pad = take (size_of text % 2) (drop (size_of text) (drop 8 text)) }

chunk_whole : (text : List ℕ) → 8 ≤ length text → 8 + (size_of text + size_of text % 2) ≤ length text → IsChunk (chunk_at text)
chunk_whole text long whole =
    let behind : length (drop 8 text) ≡ length text - 8 = length-drop 8 text in
    let body : length (body_of text) ≡ size_of text = length-take-le (size_of text) (drop 8 text) (omega arith) in
    let rest : length (drop (size_of text) (drop 8 text)) ≡ length (drop 8 text) - size_of text = length-drop (size_of text) (drop 8 text) in
    let pad : length (take (size_of text % 2) (drop (size_of text) (drop 8 text))) ≡ size_of text % 2 =
    length-take-le (size_of text % 2) (drop (size_of text) (drop 8 text)) (omega arith) in
    record {
      named = named_part text long;
      sized = sized_part text long;
      whole = body ∙ sym (size_part text long);
      padded = pad ∙ ap (λ (n : ℕ). n % 2) (sym body);
    }

chunk_parts : (text : List ℕ) → text ≡ chunk_bytes (chunk_at text) ++ drop (size_of text % 2) (drop (size_of text) (drop 8 text))
chunk_parts text =
    let c = chunk_at text in
    let behind = drop 8 text in
    let rest = drop (size_of text) behind in
    let more = drop (size_of text % 2) rest in
    text_parts text
    ∙ ap (λ (l : List ℕ). c.id ++ (c.size ++ l)) (sym (take-append-drop (size_of text) behind) ∙ ap (λ (l : List ℕ). c.body ++ l) (sym (take-append-drop (size_of text % 2) rest)))
    ∙ sym (chunk_text c more)

within : (text : List ℕ) → nat_lt (length text) (8 + (size_of text + size_of text % 2)) ≡ false → 8 + (size_of text + size_of text % 2) ≤ length text
within text end = grind (arith, nat_tests)

at_least : (text : List ℕ) → (nat_lt (size_of text) 16 || nat_lt 64 (size_of text)) ≡ false → length (body_of text) ≡ size_of text → 16 ≤ length (body_of text)
at_least text good size = grind (arith, nat_tests)

at_most : (text : List ℕ) → (nat_lt (size_of text) 16 || nat_lt 64 (size_of text)) ≡ false → length (body_of text) ≡ size_of text → length (body_of text) ≤ 64
at_most text good size = grind (arith, nat_tests)

-- what is known of a body where no row of its fields holds, nor the last
record FieldsTell (text : List ℕ) : Type 0 where
  tag : not (u16_at 0 (body_of text) == pcm_tag || is_extensible (body_of text)) ≡ false
  long : (is_extensible (body_of text) && nat_lt (length (body_of text)) 40) ≡ false
  channels : (u16_at 2 (body_of text) == 0 || nat_lt 8 (u16_at 2 (body_of text))) ≡ false
  bits : not (is_width (u16_at 14 (body_of text))) ≡ false
  align : not (u16_at 12 (body_of text) == u16_at 2 (body_of text) * (u16_at 14 (body_of text) / 8)) ≡ false
  subformat : (is_extensible (body_of text) && not (bytes_eq (subformat_of (body_of text)) pcm_subformat)) ≡ false
  end : nat_lt (length text) (8 + (size_of text + size_of text % 2)) ≡ false

fields_tell : (text : List ℕ) → first_row (format_rows (body_of text) ++ (nat_lt (length text) (8 + (size_of text + size_of text % 2)), (ShortHead, length text)) ∷ []) ≡ None → FieldsTell text
fields_tell text e =
    let a = none_here _ _ _ e in
    let b = none_here _ _ _ a.1 in
    let c = none_here _ _ _ b.1 in
    let d = none_here _ _ _ c.1 in
    let f = none_here _ _ _ d.1 in
    let g = none_here _ _ _ f.1 in
    let h = none_here _ _ _ g.1 in
    record { tag = a.0; long = b.0; channels = c.0; bits = d.0; align = f.0; subformat = g.0; end = h.0 }

at_chunk : (count : ℕ) (told : Option Format) (text : List ℕ) → NoRow count (is_some told) text → has_id data_id text ≡ false → AtChunk count told text
at_chunk count told text n early = by (has_id format_id text) refl told refl
  where
    long : 8 ≤ length text
    long = let eight = n.eight in grind (arith, nat_tests)

    few : count < 64
    few = let room : nat_le 64 count ≡ false = ap (λ (b : Bool). not b && nat_le 64 count) (sym early) ∙ n.room in grind (arith, nat_tests)

    by : (here : Bool) → has_id format_id text ≡ here → (t : Option Format) → told ≡ t → AtChunk count told text
    by false other t same =
        let behind : (if nat_lt (length text) (8 + (size_of text + size_of text % 2)) then Some (ShortHead, length text) else None) ≡ None = rw (other, early) at n.behind in
        let end : nat_lt (length text) (8 + (size_of text + size_of text % 2)) ≡ false = (none_here _ _ _ behind).0 in
        let whole : 8 + (size_of text + size_of text % 2) ≤ length text = within text end in
        record {
          chunk = chunk_at text;
          after = told;
          early = few;
          stands = record {
            chunk = chunk_whole text long whole;
            early = other_id (take 4 text) data_id early;
            told = inr (record { other = other_id (take 4 text) format_id other; same = refl });
          };
          more = drop (size_of text % 2) (drop (size_of text) (drop 8 text));
          parts = chunk_parts text;
        }
    by true here (Some f) same =
        let twice : (true && is_some told) ≡ false = ap (λ (b : Bool). b && is_some told) (sym here) ∙ n.once in
        let some : is_some told ≡ true = ap (λ (o : Option Format). is_some o) same in
        absurd (cc)
    by true here None same =
        let behind : first_row (format_rows (body_of text) ++ (nat_lt (length text) (8 + (size_of text + size_of text % 2)), (ShortHead, length text)) ∷ []) ≡ None = rw (here, early) at n.behind in
        let good : (nat_lt (size_of text) 16 || nat_lt 64 (size_of text)) ≡ false = ap (λ (b : Bool). b && (nat_lt (size_of text) 16 || nat_lt 64 (size_of text))) (sym here) ∙ n.size in
        let fields = fields_tell text behind in
        let whole : 8 + (size_of text + size_of text % 2) ≤ length text = within text fields.end in
        let size : length (body_of text) ≡ size_of text = length-take-le (size_of text) (drop 8 text) (omega (arith, length-drop 8 text)) in
        record {
          chunk = chunk_at text;
          after = Some (format_in (body_of text));
          early = few;
          stands = record {
            chunk = chunk_whole text long whole;
            early = other_id (take 4 text) data_id early;
            told = inl (record {
              id = same_id (take 4 text) format_id here;
              first = same;
              format = format_in (body_of text);
              told = refl;
              body = tells_format (body_of text) (at_least text good size) (at_most text good size) fields.tag fields.long fields.channels fields.bits fields.align fields.subformat;
            });
          };
          more = drop (size_of text % 2) (drop (size_of text) (drop 8 text));
          parts = chunk_parts text;
        }

-- the answer of a text
abbrev pub Answered : List ℕ → Type 0
Answered bytes = ((head : Head) × (text : List ℕ) × HasHead bytes head text) ⊎ ((kind : WavKind) × (at : ℕ) × IsWaveFault bytes kind at)

-- `data` behind the chunks that were cut off ends its head
ends_head : (bytes : List ℕ) (cs : List Chunk) (told : Option Format) (rest : List ℕ) → BeginsWith bytes cs told rest → AtData told rest → Answered bytes
ends_head bytes cs told rest cut d =
    let flat = flat_map chunk_bytes cs in
    inl (
      head_of d.format (u32_at 0 d.size),
      cut.form ++ (flat ++ (data_id ++ d.size)),
      record {
        headed = record {
          chunks = cs;
          format = d.format;
          size = d.size;
          cut = record { form = cut.form; riff = cut.riff; few = cut.few; precede = subst (MayPrecede None cs) d.was_told cut.precede; parts = refl };
          sized = d.sized;
          known = d.known;
          tells = refl;
        };
        rest = d.more;
        parts = cut.parts ∙ ap (λ (l : List ℕ). cut.form ++ (flat ++ l)) d.parts
            ∙ sym (append_assoc cut.form (flat ++ (data_id ++ d.size)) d.more
            ∙ ap (λ (l : List ℕ). cut.form ++ l) (append_assoc flat (data_id ++ d.size) d.more ∙ ap (λ (l : List ℕ). flat ++ l) (append_assoc data_id d.size d.more)));
      },
    )

-- a chunk behind them can be cut off too
cut_more : (bytes : List ℕ) (cs : List Chunk) (told : Option Format) (rest : List ℕ) → BeginsWith bytes cs told rest → (c : AtChunk (length cs) told rest)
    → BeginsWith bytes (cs ++ c.chunk ∷ []) c.after c.more
cut_more bytes cs told rest cut c =
    let flat = flat_map chunk_bytes cs in
    record {
      form = cut.form;
      riff = cut.riff;
      few = omega (arith, length-append cs (c.chunk ∷ []), c.early);
      precede = precede-snoc None told c.after cs c.chunk cut.precede c.stands;
      parts = cut.parts ∙ ap (λ (l : List ℕ). cut.form ++ (flat ++ l)) c.parts
          ∙ ap (λ (l : List ℕ). cut.form ++ l) (sym (append_assoc flat (chunk_bytes c.chunk) c.more) ∙ ap (λ (l : List ℕ). l ++ c.more) (sym (flat-snoc cs c.chunk)));
    }

answered_behind : (fuel : ℕ) (bytes : List ℕ) (cs : List Chunk) (told : Option Format) (rest : List ℕ) → length cs + fuel ≡ 65 → BeginsWith bytes cs told rest → Answered bytes
answered_behind zero bytes cs told rest count cut = let few = cut.few in absurd (omega arith)
answered_behind (suc fuel) bytes cs told rest count cut =
    by (first_row (chunk_rows (length cs) (is_some told) rest)) refl (λ c.
    answered_behind fuel bytes (cs ++ c.chunk ∷ []) c.after c.more (omega (arith, length-append cs (c.chunk ∷ []))) (cut_more bytes cs told rest cut c))
  where
    next : (here : Bool) → has_id data_id rest ≡ here → NoRow (length cs) (is_some told) rest → (AtChunk (length cs) told rest → Answered bytes) → Answered bytes
    next true here n again = ends_head bytes cs told rest cut (at_data (length cs) told rest n here)
    next false early n again = again (at_chunk (length cs) told rest n early)

    by : (o : Option (WavKind × ℕ)) → first_row (chunk_rows (length cs) (is_some told) rest) ≡ o → (AtChunk (length cs) told rest → Answered bytes) → Answered bytes
    by (Some x) e again = inr (x.0, 12 + length (flat_map chunk_bytes cs) + x.1, inr (record { chunks = cs; told = told; rest = rest; cut = cut; offset = x.1; fault = e; place = refl }))
    by None e again = next (has_id data_id rest) refl (no_row (length cs) (is_some told) rest e) again

long_enough : (n : ℕ) (bytes : List ℕ) → nat_lt (length bytes) n ≡ false → n ≤ length bytes
long_enough n bytes test = grind (arith, nat_tests)

at_least_eight : (bytes : List ℕ) → 12 ≤ length bytes → 8 ≤ length bytes
at_least_eight bytes long = omega arith

none_few : 0 ≤ 64
none_few = omega arith

-- the twelve bytes of a text in which no row of theirs holds
form_cut : (bytes : List ℕ) → first_row (form_rows bytes) ≡ None → BeginsWith bytes [] None (drop 12 bytes)
form_cut bytes e =
    let a = none_here _ _ _ e in
    let b = none_here _ _ _ a.1 in
    let c = none_here _ _ _ b.1 in
    let d = none_here _ _ _ c.1 in
    let twelve : nat_lt (length bytes) 12 ≡ false = c.0 in
    let long : 12 ≤ length bytes = long_enough 12 bytes twelve in
    let eight : 8 ≤ length bytes = at_least_eight bytes long in
    let size = take 4 (drop 4 bytes) in
    let behind = drop 8 bytes in
    let riff : take 4 bytes ≡ codes "RIFF" = same_id (take 4 bytes) (codes "RIFF") (negated (has_id (codes "RIFF") bytes) b.0) in
    let wave : take 4 behind ≡ codes "WAVE" = same_id (take 4 behind) (codes "WAVE") (negated (has_id (codes "WAVE") behind) d.0) in
    record {
      form = codes "RIFF" ++ (size ++ codes "WAVE");
      riff = record { size = size; sized = sized_part bytes eight; parts = refl };
      few = none_few;
      precede = refl;
      parts = text_parts bytes ∙ ap (λ (l : List ℕ). l ++ (size ++ behind)) riff
          ∙ ap (λ (l : List ℕ). codes "RIFF" ++ (size ++ l)) (sym (take-append-drop 4 behind) ∙ (λ i. wave i ++ drop-drop 4 8 bytes i))
          ∙ ap (λ (l : List ℕ). codes "RIFF" ++ l) (sym (append_assoc size (codes "WAVE") (drop 12 bytes)))
          ∙ sym (append_assoc (codes "RIFF") (size ++ codes "WAVE") (drop 12 bytes));
    }

pub answered : (bytes : List ℕ) → Answered bytes
answered bytes = by (first_row (form_rows bytes)) refl
  where
    by : (o : Option (WavKind × ℕ)) → first_row (form_rows bytes) ≡ o → Answered bytes
    by (Some x) e = inr (x.0, x.1, inl e)
    by None e = answered_behind 65 bytes [] None (drop 12 bytes) refl (form_cut bytes e)
