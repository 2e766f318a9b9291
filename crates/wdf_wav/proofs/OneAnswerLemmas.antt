-- Each text has one answer: a head, or a first fault.
use Rattle.std.proofs.Common.{◌≡◌, ℕ, ◌+◌, ◌<◌, inl, inr, true, false, ◌==◌, nat_lt, nat_le, List, ◌++◌, length, flat_map, codes, Option, Some, None, is_some, refl, sym, ap, ◌∙◌, subst, arith, append_assoc}
use Rattle.std.proofs.lemmas.Bool.Decides.{nat_tests}
use Rattle.std.proofs.lemmas.List.{append_cancel_right}
use Rattle.wdf_wav.specs.declared.format.Format.{Format}
use Rattle.wdf_wav.specs.declared.head.Head.{Head}
use Rattle.wdf_wav.specs.declared.wav_error.WavKind.{WavKind}
use Rattle.wdf_wav.specs.Chunks.{BeginsWith, Chunk, chunk_bytes, data_id}
use Rattle.wdf_wav.specs.FormatChunk.{u32_at}
use Rattle.wdf_wav.specs.HeadFaults.{chunk_rows, first_row, form_rows, size_of}
use Rattle.wdf_wav.specs.HeadLaws.{HasHead}
use Rattle.wdf_wav.specs.WaveHead.{IsWaveFault, head_of}
use Rattle.wdf_wav.proofs.ChunkTextLemmas.{length_front, size_front}
use Rattle.wdf_wav.proofs.FormLemmas.{good_form}
use Rattle.wdf_wav.proofs.OneCutLemmas.{one_cut, split_same, stops_at_data, stops_at_fault}

-- the cut of a text that begins with the text of a head
cut_of : (bytes text : List ℕ) (head : Head) (h : HasHead bytes head text) → BeginsWith bytes h.headed.chunks (Some h.headed.format) (data_id ++ (h.headed.size ++ h.rest))
cut_of bytes text head h =
    let cut = h.headed.cut in
    let flat = flat_map chunk_bytes h.headed.chunks in
    record {
      form = cut.form;
      riff = cut.riff;
      few = cut.few;
      precede = cut.precede;
      parts = h.parts ∙ ap (λ (l : List ℕ). l ++ h.rest) cut.parts
          ∙ append_assoc cut.form (flat ++ (data_id ++ h.headed.size)) h.rest
          ∙ ap (λ (l : List ℕ). cut.form ++ l) (append_assoc flat (data_id ++ h.headed.size) h.rest ∙ ap (λ (l : List ℕ). flat ++ l) (append_assoc data_id h.headed.size h.rest));
    }

some-same : {X : Type 0} (a b : X) → Some a ≡ Some b → a ≡ b
some-same a b e = cc

pub one_head : (bytes text text' : List ℕ) (head head' : Head) → HasHead bytes head text → HasHead bytes head' text' → (head' ≡ head) × (text' ≡ text)
one_head bytes text text' head head' one two =
    let a = one.headed in
    let b = two.headed in
    let cuts = one_cut bytes b.chunks a.chunks (Some b.format) (Some a.format) (data_id ++ (b.size ++ two.rest)) (data_id ++ (a.size ++ one.rest)) (cut_of bytes text' head' two) (cut_of bytes text head one)
    (stops_at_data (length b.chunks) (Some b.format) (b.size ++ two.rest)) (stops_at_data (length a.chunks) (Some a.format) (a.size ++ one.rest)) in
    let format = some-same b.format a.format cuts.1 in
    let behind = split_same data_id data_id (b.size ++ two.rest) (a.size ++ one.rest) refl cuts.2 in
    let sizes = split_same b.size a.size two.rest one.rest (b.sized ∙ sym a.sized) behind.1 in
    let same : text' ++ one.rest ≡ text ++ one.rest = ap (λ (l : List ℕ). text' ++ l) (sym sizes.1) ∙ sym two.parts ∙ one.parts in (
      b.tells ∙ (λ i. head_of (format i) (u32_at 0 (sizes.0 i))) ∙ sym a.tells,
      append_cancel_right text' text one.rest same,
    )

-- a text that is cut has no fault in its first twelve bytes
form_good : (bytes : List ℕ) (cs : List Chunk) (told : Option Format) (rest : List ℕ) → BeginsWith bytes cs told rest → first_row (form_rows bytes) ≡ None
form_good bytes cs told rest h =
    let behind = flat_map chunk_bytes cs ++ rest in
    let whole : bytes ≡ codes "RIFF" ++ (h.riff.size ++ (codes "WAVE" ++ behind)) =
    h.parts ∙ ap (λ (l : List ℕ). l ++ behind) h.riff.parts ∙ append_assoc (codes "RIFF") (h.riff.size ++ codes "WAVE") behind
    ∙ ap (λ (l : List ℕ). codes "RIFF" ++ l) (append_assoc h.riff.size (codes "WAVE") behind) in
    subst (λ (l : List ℕ). first_row (form_rows l) ≡ None) (sym whole) (good_form h.riff.size behind h.riff.sized)

pub one_fault : (bytes : List ℕ) (kind kind' : WavKind) (at at' : ℕ) → IsWaveFault bytes kind at → IsWaveFault bytes kind' at' → (kind' ≡ kind) × (at' ≡ at)
one_fault bytes kind kind' at at' (inl e) (inl f) =
    let same = some-same (kind', at') (kind, at) (sym f ∙ e) in (ap (λ (x : WavKind × ℕ). x.0) same, ap (λ (x : WavKind × ℕ). x.1) same)
one_fault bytes kind kind' at at' (inl e) (inr g) = let none = form_good bytes g.chunks g.told g.rest g.cut in absurd (cc)
one_fault bytes kind kind' at at' (inr f) (inl e) = let none = form_good bytes f.chunks f.told f.rest f.cut in absurd (cc)
one_fault bytes kind kind' at at' (inr f) (inr g) =
    let cuts = one_cut bytes g.chunks f.chunks g.told f.told g.rest f.rest g.cut f.cut (stops_at_fault (length g.chunks) g.told g.rest (kind', g.offset) g.fault) (stops_at_fault (length f.chunks) f.told f.rest (kind, f.offset) f.fault) in
    let rows : first_row (chunk_rows (length g.chunks) (is_some g.told) g.rest) ≡ first_row (chunk_rows (length f.chunks) (is_some f.told) f.rest) =
    λ i. first_row (chunk_rows (length (cuts.0 i)) (is_some (cuts.1 i)) (cuts.2 i)) in
    let same = some-same (kind', g.offset) (kind, f.offset) (sym g.fault ∙ rows ∙ f.fault) in
    let offset : g.offset ≡ f.offset = ap (λ (x : WavKind × ℕ). x.1) same in
    (ap (λ (x : WavKind × ℕ). x.0) same, g.place ∙ (λ i. 12 + length (flat_map chunk_bytes (cuts.0 i)) + offset i) ∙ sym f.place)

-- where `data` and a known size stand behind a format, no row holds
data_row : (count : ℕ) (size more : List ℕ) → length size ≡ 4 → u32_at 0 size < 0xFFFFFF00 → first_row (chunk_rows count true (data_id ++ (size ++ more))) ≡ None
data_row count size more sized known =
    let text = data_id ++ (size ++ more) in
    let long = length_front data_id size more refl sized in
    let number = size_front data_id size more refl sized in
    let empty : (length text == 0) ≡ false = grind (arith, nat_tests) in
    let four : nat_lt (length text) 4 ≡ false = grind (arith, nat_tests) in
    let eight : nat_lt (length text) 8 ≡ false = grind (arith, nat_tests) in
    let told : nat_le 0xFFFFFF00 (size_of text) ≡ false = rw number (grind (arith, nat_tests)) in
    rw (empty, four, eight, told) refl

pub either : (bytes text : List ℕ) (head : Head) (kind : WavKind) (at : ℕ) → HasHead bytes head text → IsWaveFault bytes kind at → ⊥
either bytes text head kind at h (inl e) =
    let cut = cut_of bytes text head h in
    let none = form_good bytes h.headed.chunks (Some h.headed.format) (data_id ++ (h.headed.size ++ h.rest)) cut in absurd (cc)
either bytes text head kind at h (inr f) =
    let a = h.headed in
    let cuts = one_cut bytes a.chunks f.chunks (Some a.format) f.told (data_id ++ (a.size ++ h.rest)) f.rest (cut_of bytes text head h) f.cut
    (stops_at_data (length a.chunks) (Some a.format) (a.size ++ h.rest)) (stops_at_fault (length f.chunks) f.told f.rest (kind, f.offset) f.fault) in
    let rows : first_row (chunk_rows (length a.chunks) true (data_id ++ (a.size ++ h.rest))) ≡ first_row (chunk_rows (length f.chunks) (is_some f.told) f.rest) =
    λ i. first_row (chunk_rows (length (cuts.0 i)) (is_some (cuts.1 i)) (cuts.2 i)) in
    let none = data_row (length a.chunks) a.size h.rest a.sized a.known in
    let fault = f.fault in
    absurd (cc)
