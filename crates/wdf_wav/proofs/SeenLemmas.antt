-- The chunks that were read, and how the head ends behind them.
use Rattle.std.proofs.Common.{◌≡◌, ℕ, ◌≤◌, inl, inr, List, [], ◌∷◌, ◌++◌, length, flat_map, Option, Some, None, is_some, refl, sym, ap, ◌∙◌, subst, arith, append_assoc, append-nil, length-append}
use Rattle.std.specs.Io.KnownBytes.{Consumes}
use Rattle.std.proofs.KnownBytes.{Consumes-trans}
use Rattle.wdf_wav.specs.declared.format.Format.{Format}
use Rattle.wdf_wav.specs.declared.head.Head.{Head}
use Rattle.wdf_wav.specs.declared.seen.Seen.{Seen}
use Rattle.wdf_wav.specs.declared.wav_error.WavError.{WavError}
use Rattle.wdf_wav.specs.declared.wav_error.WavError.TheVariants.{Fault, ReadFault}
use Rattle.wdf_wav.specs.Chunks.{Chunk, MayPrecede, MayStand, chunk_bytes, data_id}
use Rattle.wdf_wav.specs.HeadFaults.{chunk_rows, first_row}
use Rattle.wdf_wav.specs.HeadReading.{ChunkStops, EndsAtData, FormStops, HasSeen, Passes, TakesForm}
use Rattle.wdf_wav.specs.WaveHead.{HeadStops, TakesHead}

-- one chunk more
pub precede-snoc : (before told after : Option Format) (cs : List Chunk) (c : Chunk) → MayPrecede before cs told → MayStand told after c → MayPrecede before (cs ++ c ∷ []) after
precede-snoc before told after [] c end last = (after, subst (λ (f : Option Format). MayStand f after c) end last, refl)
precede-snoc before told after (d ∷ ds) c (next, stands, rest) last = (next, stands, precede-snoc next told after ds c rest last)

pub flat-snoc : (cs : List Chunk) (c : Chunk) → flat_map chunk_bytes (cs ++ c ∷ []) ≡ flat_map chunk_bytes cs ++ chunk_bytes c
flat-snoc [] c = append-nil (chunk_bytes c)
flat-snoc (d ∷ ds) c = ap (λ (l : List ℕ). chunk_bytes d ++ l) (flat-snoc ds c) ∙ sym (append_assoc (chunk_bytes d) (flat_map chunk_bytes ds) (chunk_bytes c))

-- before the first chunk
pub seen_none : (a b : Option (List ℕ)) → TakesForm a b → HasSeen a b (record { chunks = 0; format = None; at = 12 })
seen_none a b t = record {
  form = t.form;
  riff = t.riff;
  chunks = [];
  count = refl;
  precede = refl;
  place = refl;
  input = subst (Consumes a b) (sym (append-nil t.form)) t.input;
}

pub seen_more : (seen seen' : Seen) (a b c : Option (List ℕ)) → HasSeen a b seen → Passes seen [] b c seen' → HasSeen a c seen'
seen_more seen seen' a b c h p =
    let flat = flat-snoc h.chunks p.chunk in
    record {
      form = h.form;
      riff = h.riff;
      chunks = h.chunks ++ p.chunk ∷ [];
      count = omega (arith, length-append h.chunks (p.chunk ∷ []), h.count, p.count);
      precede = precede-snoc None seen.format seen'.format h.chunks p.chunk h.precede p.stands;
      place = omega (arith, ap length flat, length-append (flat_map chunk_bytes h.chunks) (chunk_bytes p.chunk), h.place, p.place);
      input = subst (Consumes a c)
          (append_assoc h.form (flat_map chunk_bytes h.chunks) p.behind
          ∙ ap (λ (l : List ℕ). h.form ++ (flat_map chunk_bytes h.chunks ++ l)) (sym p.parts)
          ∙ ap (λ (l : List ℕ). h.form ++ l) (sym flat))
          (Consumes-trans a b c (h.form ++ flat_map chunk_bytes h.chunks) p.behind h.input p.input);
    }

-- `data` ends the head
pub takes_head : (seen : Seen) (head : Head) (a b c : Option (List ℕ)) → seen.chunks ≤ 64 → HasSeen a b seen → EndsAtData seen [] b c head → TakesHead a c head
takes_head seen head a b c few h e =
    let flat = flat_map chunk_bytes h.chunks in
    record {
      bytes = h.form ++ (flat ++ (data_id ++ e.size));
      input = subst (Consumes a c)
          (append_assoc h.form flat e.behind ∙ ap (λ (l : List ℕ). h.form ++ (flat ++ l)) (sym e.parts))
          (Consumes-trans a b c (h.form ++ flat) e.behind h.input e.input);
      headed = record {
        chunks = h.chunks;
        format = e.format;
        size = e.size;
        cut = record {
          form = h.form;
          riff = h.riff;
          few = omega (arith, h.count);
          precede = subst (MayPrecede None h.chunks) e.told h.precede;
          parts = refl;
        };
        sized = e.sized;
        known = e.known;
        tells = e.tells;
      };
    }

-- the fault stands behind the chunks
pub head_stops : (seen : Seen) (a b : Option (List ℕ)) (e : WavError) → seen.chunks ≤ 64 → HasSeen a b seen → ChunkStops seen [] b e → HeadStops a e
head_stops seen a b ReadFault few h stop = tt
head_stops seen None b (Fault kind place) few h stop = tt
head_stops seen (Some xs) None (Fault kind place) few h stop = absurd h.input
head_stops seen (Some xs) (Some ys) (Fault kind place) few h stop = inr (record {
  chunks = h.chunks;
  told = seen.format;
  rest = ys;
  cut = record {
    form = h.form;
    riff = h.riff;
    few = omega (arith, h.count);
    precede = h.precede;
    parts = h.input ∙ append_assoc h.form (flat_map chunk_bytes h.chunks) ys;
  };
  offset = stop.0;
  fault = subst (λ (n : ℕ). first_row (chunk_rows n (is_some seen.format) ys) ≡ Some (kind, stop.0)) (sym h.count) stop.2;
  place = omega (arith, h.place, stop.1);
})

-- or in the twelve bytes
pub form_stops : (a : Option (List ℕ)) (e : WavError) → FormStops a e → HeadStops a e
form_stops a ReadFault stop = tt
form_stops None (Fault kind place) stop = tt
form_stops (Some xs) (Fault kind place) stop = inl stop
