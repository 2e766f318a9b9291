-- A chunk that was taken whole may stand before `data`.
use Rattle.std.proofs.Common.{◌≡◌, ◌≢◌, ℕ, ◌+◌, ◌%◌, ◌<◌, inl, inr, true, false, List, [], ◌++◌, length, take, drop, Option, Some, None, refl, sym, ap, ◌∙◌, subst, arith, length-append, length-take-le, length-drop, take-append-drop}
use Rattle.std.specs.Io.KnownBytes.{Consumes}
use Rattle.std.proofs.KnownBytes.{Consumes-trans}
use Rattle.std.proofs.lemmas.Bool.Decides.{not_from_Decides}
use Rattle.std.proofs.lemmas.Slice.Eq.{bytes_eq-Decides}
use Rattle.std.specs.Str.{bytes_eq}
use Rattle.wdf_wav.specs.declared.format.Format.{Format}
use Rattle.wdf_wav.specs.declared.head.Head.{Head}
use Rattle.wdf_wav.specs.declared.seen.Seen.{Seen}
use Rattle.wdf_wav.specs.Chunks.{data_id, format_id}
use Rattle.wdf_wav.specs.FormatChunk.{IsFormat, u32_at}
use Rattle.wdf_wav.specs.HeadReading.{EndsAtData, Passes}
use Rattle.wdf_wav.specs.WaveHead.{head_of}

-- other bytes are another id
pub other_id : (id name : List ℕ) → bytes_eq id name ≡ false → id ≢ name
other_id id name test = not_from_Decides (bytes_eq id name) (bytes_eq-Decides id name) test

-- and the same are the same
pub same_id : (id name : List ℕ) → bytes_eq id name ≡ true → id ≡ name
same_id id name test = (bytes_eq-Decides id name).0 test

-- a chunk that is neither `fmt ` nor `data`; the rest are its body and its pad
pub passes_other : (seen : Seen) (id size rest : List ℕ) (n : ℕ) (a b c : Option (List ℕ)) → seen.chunks < 64 → length id ≡ 4 → bytes_eq id data_id ≡ false → bytes_eq id format_id ≡ false
    → length size ≡ 4 → n ≡ u32_at 0 size → length rest ≡ n + n % 2 → Consumes a b size → Consumes b c rest
    → Passes seen id a c (record { chunks = seen.chunks + 1; format = seen.format; at = seen.at + 8 + (n + n % 2) })
passes_other seen id size rest n a b c few named early other sized number whole one two =
    let body = take n rest in
    let pad = drop n rest in
    let body_size : length body ≡ n = length-take-le n rest (omega arith) in
    let pad_size : length pad ≡ n % 2 = omega (arith, length-drop n rest) in
    let joined : size ++ (body ++ pad) ≡ size ++ rest = ap (λ (l : List ℕ). size ++ l) (take-append-drop n rest) in
    let whole_size : length (id ++ (size ++ (body ++ pad))) ≡ 8 + (n + n % 2) = omega (arith, length-append id (size ++ (body ++ pad)), length-append size (body ++ pad), length-append body pad) in
    record {
      chunk = record { id = id; size = size; body = body; pad = pad };
      early = few;
      stands = record {
        chunk = record { named = named; sized = sized; whole = body_size ∙ number; padded = pad_size ∙ ap (λ (k : ℕ). k % 2) (sym body_size) };
        early = other_id id data_id early;
        told = inr (record { other = other_id id format_id other; same = refl });
      };
      count = refl;
      place = omega arith;
      behind = size ++ (body ++ pad);
      parts = refl;
      input = subst (Consumes a c) (sym joined) (Consumes-trans a b c size rest one two);
    }

-- the first `fmt `
pub passes_format : (seen : Seen) (size body pad : List ℕ) (n : ℕ) (f : Format) (a b c d : Option (List ℕ)) → seen.chunks < 64 → seen.format ≡ None
    → length size ≡ 4 → n ≡ u32_at 0 size → length body ≡ n → length pad ≡ n % 2 → IsFormat body f → Consumes a b size → Consumes b c body → Consumes c d pad
    → Passes seen format_id a d (record { chunks = seen.chunks + 1; format = Some f; at = seen.at + 8 + (n + n % 2) })
passes_format seen size body pad n f a b c d few first sized number whole padded format one two three =
    let whole_size : length (format_id ++ (size ++ (body ++ pad))) ≡ 8 + (n + n % 2) = omega (arith, length-append format_id (size ++ (body ++ pad)), length-append size (body ++ pad), length-append body pad) in
    record {
      chunk = record { id = format_id; size = size; body = body; pad = pad };
      early = few;
      stands = record {
        chunk = record { named = refl; sized = sized; whole = whole ∙ number; padded = padded ∙ ap (λ (k : ℕ). k % 2) (sym whole) };
        early = other_id format_id data_id refl;
        told = inl (record { id = refl; first = first; format = f; told = refl; body = format });
      };
      count = refl;
      place = omega arith;
      behind = size ++ (body ++ pad);
      parts = refl;
      input = Consumes-trans a b d size (body ++ pad) one (Consumes-trans b c d body pad two three);
    }

-- `data` and its size
pub ends_at_data : (seen : Seen) (size : List ℕ) (n : ℕ) (f : Format) (h : Head) (a b : Option (List ℕ)) → seen.format ≡ Some f
    → length size ≡ 4 → n ≡ u32_at 0 size → n < 0xFFFFFF00 → h ≡ head_of f n → Consumes a b size → EndsAtData seen data_id a b h
ends_at_data seen size n f h a b told sized number known tells taken = record {
  format = f;
  told = told;
  size = size;
  sized = sized;
  known = omega (arith, number);
  tells = tells ∙ ap (head_of f) number;
  behind = size;
  parts = refl;
  input = taken;
}

-- with the id before it
pub passes_front : (seen seen' : Seen) (front : List ℕ) (a b c : Option (List ℕ)) → Consumes a b front → Passes seen front b c seen' → Passes seen [] a c seen'
passes_front seen seen' front a b c taken p = record {
  chunk = p.chunk;
  early = p.early;
  stands = p.stands;
  count = p.count;
  place = p.place;
  behind = front ++ p.behind;
  parts = p.parts;
  input = Consumes-trans a b c front p.behind taken p.input;
}

pub ends_front : (seen : Seen) (h : Head) (front : List ℕ) (a b c : Option (List ℕ)) → Consumes a b front → EndsAtData seen front b c h → EndsAtData seen [] a c h
ends_front seen h front a b c taken p = record {
  format = p.format;
  told = p.told;
  size = p.size;
  sized = p.sized;
  known = p.known;
  tells = p.tells;
  behind = front ++ p.behind;
  parts = p.parts;
  input = Consumes-trans a b c front p.behind taken p.input;
}
