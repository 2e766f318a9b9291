-- A text is cut into chunks in one way.
use Rattle.std.proofs.Common.{◌≡◌, ◌≢◌, ℕ, ◌+◌, ◌%◌, ◌<◌, ◌≤◌, ◌⊎◌, inl, inr, Bool, true, false, ◌||◌, nat_lt, List, [], ◌∷◌, ◌++◌, length, take, drop, flat_map, codes, Option, Some, None, is_some, refl, sym, ap, ◌∙◌, subst, arith, append_assoc, length-append, drop_at}
use Rattle.std.proofs.lemmas.Bool.Decides.{nat_tests}
use Rattle.std.proofs.lemmas.List.{take_at}
use Rattle.std.proofs.lemmas.Slice.Eq.{bytes_eq-Decides}
use Rattle.std.specs.Str.{bytes_eq}
use Rattle.wdf_wav.specs.declared.format.Format.{Format}
use Rattle.wdf_wav.specs.declared.wav_error.WavKind.{WavKind}
use Rattle.wdf_wav.specs.Chunks.{BeginsWith, Chunk, IsChunk, IsForm, IsPassedOver, MayPrecede, MayStand, TellsFormat, chunk_bytes, data_id, format_id}
use Rattle.wdf_wav.specs.FormatChunk.{IsFormat, u32_at}
use Rattle.wdf_wav.specs.HeadFaults.{body_of, chunk_rows, first_row, size_of}
use Rattle.wdf_wav.proofs.ChunkTextLemmas.{body_front, id_test, length_front, size_front}
use Rattle.wdf_wav.proofs.FormatLemmas.{good_format}
use Rattle.wdf_wav.proofs.HeadRows.{whole_chunk_row, whole_format_row}

-- two lists cut at one place have the same parts
pub split_same : (xs ys us vs : List ℕ) → length xs ≡ length ys → xs ++ us ≡ ys ++ vs → (xs ≡ ys) × (us ≡ vs)
split_same xs ys us vs long e =
    let n = length xs in (
      sym (take_at xs us n refl) ∙ ap (take n) e ∙ take_at ys vs n (sym long),
      sym (drop_at xs us n refl) ∙ ap (drop n) e ∙ drop_at ys vs n (sym long),
    )

-- one format stands in a body
same_format : (body : List ℕ) (f f' : Format) → IsFormat body f → IsFormat body f' → f ≡ f'
same_format body f f' h h' = λ i. record { channels = (sym h.channels ∙ h'.channels) i; rate = (sym h.rate ∙ h'.rate) i; bits = (sym h.bits ∙ h'.bits) i }

-- so one is told behind a chunk
same_told : (before a b : Option Format) (c : Chunk) → MayStand before a c → MayStand before b c → a ≡ b
same_told before a b c one two = by one.told two.told
  where
    by : TellsFormat before a c ⊎ IsPassedOver before a c → TellsFormat before b c ⊎ IsPassedOver before b c → a ≡ b
    by (inl t) (inl u) = t.told ∙ ap (λ (f : Format). Some f) (same_format c.body t.format u.format t.body u.body) ∙ sym u.told
    by (inl t) (inr p) = absurd (p.other t.id)
    by (inr p) (inl t) = absurd (p.other t.id)
    by (inr p) (inr q) = p.same ∙ sym q.same

-- the text of a chunk and of what follows, part by part
pub chunk_text : (c : Chunk) (more : List ℕ) → chunk_bytes c ++ more ≡ c.id ++ (c.size ++ (c.body ++ (c.pad ++ more)))
chunk_text c more =
    append_assoc c.id (c.size ++ (c.body ++ c.pad)) more
    ∙ ap (λ (l : List ℕ). c.id ++ l) (append_assoc c.size (c.body ++ c.pad) more ∙ ap (λ (l : List ℕ). c.size ++ l) (append_assoc c.body c.pad more))

-- two chunks at one place are one
same_chunk : (c d : Chunk) (more more' : List ℕ) → IsChunk c → IsChunk d → chunk_bytes c ++ more ≡ chunk_bytes d ++ more' → (c ≡ d) × (more ≡ more')
same_chunk c d more more' one two e =
    let text = sym (chunk_text c more) ∙ e ∙ chunk_text d more' in
    let ids = split_same c.id d.id (c.size ++ (c.body ++ (c.pad ++ more))) (d.size ++ (d.body ++ (d.pad ++ more'))) (one.named ∙ sym two.named) text in
    let sizes = split_same c.size d.size (c.body ++ (c.pad ++ more)) (d.body ++ (d.pad ++ more')) (one.sized ∙ sym two.sized) ids.1 in
    let body_size : length c.body ≡ length d.body = one.whole ∙ ap (u32_at 0) sizes.0 ∙ sym two.whole in
    let bodies = split_same c.body d.body (c.pad ++ more) (d.pad ++ more') body_size sizes.1 in
    let pad_size : length c.pad ≡ length d.pad = one.padded ∙ ap (λ (n : ℕ). n % 2) body_size ∙ sym two.padded in
    let pads = split_same c.pad d.pad more more' pad_size bodies.1 in
    (λ i. record { id = ids.0 i; size = sizes.0 i; body = bodies.0 i; pad = pads.0 i }, pads.1)

-- no chunk that may stand here begins the text behind n chunks
abbrev pub Stops : ℕ → Option Format → List ℕ → Type 0
Stops n told text = (c : Chunk) (after : Option Format) (more : List ℕ) → n < 64 → MayStand told after c → text ≡ chunk_bytes c ++ more → ⊥

-- two cuts that stop are one
pub same_cut : (count n n' : ℕ) (before told told' : Option Format) (cs ds : List Chunk) (rest rest' : List ℕ) → n ≡ count + length cs → n' ≡ count + length ds → n ≤ 64 → n' ≤ 64
    → MayPrecede before cs told → MayPrecede before ds told' → flat_map chunk_bytes cs ++ rest ≡ flat_map chunk_bytes ds ++ rest' → Stops n told rest → Stops n' told' rest'
    → (cs ≡ ds) × (told ≡ told') × (rest ≡ rest')
same_cut count n n' before told told' [] [] rest rest' en en' few few' p p' e s s' = (refl, p ∙ sym p', e)
same_cut count n n' before told told' [] (d ∷ ds) rest rest' en en' few few' p p' e s s' =
    absurd (s d p'.0 (flat_map chunk_bytes ds ++ rest') (omega arith) (subst (λ (f : Option Format). MayStand f p'.0 d) (sym p) p'.1) (e ∙ append_assoc (chunk_bytes d) (flat_map chunk_bytes ds) rest'))
same_cut count n n' before told told' (c ∷ cs) [] rest rest' en en' few few' p p' e s s' =
    absurd (s' c p.0 (flat_map chunk_bytes cs ++ rest) (omega arith) (subst (λ (f : Option Format). MayStand f p.0 c) (sym p') p.1) (sym e ∙ append_assoc (chunk_bytes c) (flat_map chunk_bytes cs) rest))
same_cut count n n' before told told' (c ∷ cs) (d ∷ ds) rest rest' en en' few few' p p' e s s' =
    let text = sym (append_assoc (chunk_bytes c) (flat_map chunk_bytes cs) rest) ∙ e ∙ append_assoc (chunk_bytes d) (flat_map chunk_bytes ds) rest' in
    let first = same_chunk c d (flat_map chunk_bytes cs ++ rest) (flat_map chunk_bytes ds ++ rest') p.1.chunk p'.1.chunk text in
    let next : p'.0 ≡ p.0 = same_told before p'.0 p.0 d p'.1 (subst (MayStand before p.0) first.0 p.1) in
    let others = same_cut (count + 1) n n' p.0 told told' cs ds rest rest' (omega arith) (omega arith) few few' p.2 (subst (λ (f : Option Format). MayPrecede f ds told') next p'.2) first.1 s s' in
    (λ i. first.0 i ∷ others.0 i, others.1, others.2)

-- the first twelve bytes are as long as each other
form_size : (form : List ℕ) → IsForm form → length form ≡ 12
form_size form h = ap length h.parts ∙ omega (arith, length-append (codes "RIFF") (h.size ++ codes "WAVE"), length-append h.size (codes "WAVE"), h.sized)

pub one_cut : (bytes : List ℕ) (cs ds : List Chunk) (told told' : Option Format) (rest rest' : List ℕ) → BeginsWith bytes cs told rest → BeginsWith bytes ds told' rest'
    → Stops (length cs) told rest → Stops (length ds) told' rest' → (cs ≡ ds) × (told ≡ told') × (rest ≡ rest')
one_cut bytes cs ds told told' rest rest' one two s s' =
    let behind = split_same one.form two.form (flat_map chunk_bytes cs ++ rest) (flat_map chunk_bytes ds ++ rest') (form_size one.form one.riff ∙ sym (form_size two.form two.riff)) (sym one.parts ∙ two.parts) in
    same_cut 0 (length cs) (length ds) None told told' cs ds rest rest' (omega arith) (omega arith) one.few two.few one.precede two.precede behind.1 s s'

-- another id is another test
other_test : (id name : List ℕ) → id ≢ name → bytes_eq id name ≡ false
other_test id name other = by (bytes_eq id name) refl
  where
    by : (b : Bool) → bytes_eq id name ≡ b → bytes_eq id name ≡ false
    by true e = absurd (other ((bytes_eq-Decides id name).0 e))
    by false e = e

-- where a chunk that is passed over begins the text, no row holds
passed_over_row : (count : ℕ) (told : Bool) (c : Chunk) (more : List ℕ) → count < 64 → IsChunk c → c.id ≢ data_id → c.id ≢ format_id
    → first_row (chunk_rows count told (chunk_bytes c ++ more)) ≡ None
passed_over_row count told c more few h early other =
    let text = c.id ++ (c.size ++ (c.body ++ (c.pad ++ more))) in
    let long = length_front c.id c.size (c.body ++ (c.pad ++ more)) h.named h.sized in
    let rest : length (c.body ++ (c.pad ++ more)) ≡ length c.body + (length c.body % 2 + length more) = omega (arith, length-append c.body (c.pad ++ more), length-append c.pad more, h.padded) in
    let count_of : size_of text ≡ length c.body = size_front c.id c.size (c.body ++ (c.pad ++ more)) h.named h.sized ∙ sym h.whole in
    subst (λ (l : List ℕ). first_row (chunk_rows count told l) ≡ None) (sym (chunk_text c more))
    (whole_chunk_row count told text few (omega arith) (rw count_of (omega arith))
    (id_test data_id c.id (c.size ++ (c.body ++ (c.pad ++ more))) h.named ∙ other_test c.id data_id early)
    (id_test format_id c.id (c.size ++ (c.body ++ (c.pad ++ more))) h.named ∙ other_test c.id format_id other))

-- nor where the first `fmt ` does
format_row : (count : ℕ) (c : Chunk) (f : Format) (more : List ℕ) → count < 64 → IsChunk c → c.id ≡ format_id → IsFormat c.body f
    → first_row (chunk_rows count false (chunk_bytes c ++ more)) ≡ None
format_row count c f more few h named format =
    let behind = c.body ++ (c.pad ++ more) in
    let text = format_id ++ (c.size ++ behind) in
    let long = length_front format_id c.size behind refl h.sized in
    let rest : length behind ≡ length c.body + (length c.body % 2 + length more) = omega (arith, length-append c.body (c.pad ++ more), length-append c.pad more, h.padded) in
    let count_of : size_of text ≡ length c.body = size_front format_id c.size behind refl h.sized ∙ sym h.whole in
    let least = format.least in
    let most = format.most in
    let good : (nat_lt (length c.body) 16 || nat_lt 64 (length c.body)) ≡ false = grind (arith, nat_tests) in
    let body : body_of text ≡ c.body = body_front format_id c.size c.body (c.pad ++ more) refl h.sized h.whole in
    let whole : chunk_bytes c ++ more ≡ text = chunk_text c more ∙ ap (λ (l : List ℕ). l ++ (c.size ++ behind)) named in
    subst (λ (l : List ℕ). first_row (chunk_rows count false l) ≡ None) (sym whole)
    (whole_format_row count text few (omega arith) refl refl (rw count_of good) (rw body (good_format c.body f format)) (rw count_of (omega arith)))

-- where a chunk that may stand here begins the text, no row holds
pub passes_row : (count : ℕ) (before after : Option Format) (c : Chunk) (more : List ℕ) → count < 64 → MayStand before after c
    → first_row (chunk_rows count (is_some before) (chunk_bytes c ++ more)) ≡ None
passes_row count before after c more few h = by h.told
  where
    by : TellsFormat before after c ⊎ IsPassedOver before after c → first_row (chunk_rows count (is_some before) (chunk_bytes c ++ more)) ≡ None
    by (inl t) = rw t.first (format_row count c t.format more few h.chunk t.id t.body)
    by (inr p) = passed_over_row count (is_some before) c more few h.chunk h.early p.other

-- so where a row holds no such chunk begins the text
pub stops_at_fault : (n : ℕ) (told : Option Format) (text : List ℕ) (x : WavKind × ℕ) → first_row (chunk_rows n (is_some told) text) ≡ Some x → Stops n told text
stops_at_fault n told text x fault = λ c after more few h parts.
    let none : first_row (chunk_rows n (is_some told) text) ≡ None = subst (λ (l : List ℕ). first_row (chunk_rows n (is_some told) l) ≡ None) (sym parts) (passes_row n told after c more few h) in
    absurd (cc)

-- nor does one where `data` stands
pub stops_at_data : (n : ℕ) (told : Option Format) (rest : List ℕ) → Stops n told (data_id ++ rest)
stops_at_data n told rest = λ c after more few h parts.
    h.early (sym (split_same data_id c.id rest (c.size ++ (c.body ++ (c.pad ++ more))) (sym h.chunk.named) (parts ∙ chunk_text c more)).0)
