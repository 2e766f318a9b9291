-- The header is the text of its head, and no front of it is the text of any.
use Rattle.std.proofs.Common.{◌≡◌, ℕ, ◌+◌, ◌*◌, ◌/◌, ◌<◌, ◌≤◌, inl, List, [], ◌∷◌, ◌++◌, length, drop, codes, Some, refl, sym, ap, ◌∙◌, arith, append_assoc, append-nil, length-append}
use Rattle.std.proofs.Math.Nat.{mul-div_cancel}
use Rattle.byteorder.specs.Numbers.{little_number-reads_back}
use Rattle.wdf_wav.specs.declared.format.Format.{Format}
use Rattle.wdf_wav.specs.declared.head.Head.{Head}
use Rattle.wdf_wav.specs.Chunks.{Chunk, data_id, format_id}
use Rattle.wdf_wav.specs.FormatChunk.{IsFormat, u32_at}
use Rattle.wdf_wav.specs.Header.{IsFrameFormat, IsPcmHead, block_align, data_size, head_bytes_of, pad_size, u16, u32}
use Rattle.wdf_wav.specs.HeadLaws.{HasHead, HasNoFront, IsStream}
use Rattle.wdf_wav.specs.WaveHead.{IsHeaded}
use Rattle.wdf_wav.proofs.PassLemmas.{other_id}
use Rattle.wdf_wav.proofs.OneAnswerLemmas.{one_head}

-- a frame has at least one byte, and at most 32
align-range : (head : Head) → IsFrameFormat head.channels head.bits → (0 < block_align head) × (block_align head ≤ 32)
align-range head format =
    let width = format.width in
    let some = format.some_channel in
    let few = format.few_channels in (grind arith, grind arith)

-- the body of the `fmt ` of a header
abbrev format_body : Head → List ℕ
format_body head = u16 1 ++ u16 head.channels ++ u32 head.rate ++ u32 (head.rate * block_align head) ++ u16 (block_align head) ++ u16 head.bits

abbrev format_for : Head → Format
format_for head = record { channels = head.channels; rate = head.rate; bits = head.bits }

tells_its_format : (head : Head) → IsPcmHead head → IsFormat (format_body head) (format_for head)
tells_its_format head h =
    let few = h.format.few_channels in
    let width = h.format.width in
    let align = (align-range head h.format).1 in
    let rate = h.rate in
    let bits : head.bits ≤ 32 = grind arith in
    record {
      least = omega arith;
      most = omega arith;
      pcm = inl refl;
      channels = little_number-reads_back 2 head.channels (drop 4 (format_body head)) (omega arith);
      rate = little_number-reads_back 4 head.rate (drop 8 (format_body head)) (omega arith);
      bits = little_number-reads_back 2 head.bits [] (omega arith);
      frame = h.format;
      align = little_number-reads_back 2 (block_align head) (drop 14 (format_body head)) (omega arith);
    }

pub headed : (head : Head) → IsPcmHead head → IsHeaded (head_bytes_of head) head
unfolding head_bytes_of
headed head h =
    let known = h.size in
    let some = (align-range head h.format).0 in
    let size : u32_at 0 (u32 (data_size head)) ≡ data_size head = little_number-reads_back 4 (data_size head) [] (omega arith) in
    let frames : data_size head / block_align head ≡ head.frames = mul-div_cancel head.frames some in
    let chunk : Chunk = record { id = format_id; size = u32 16; body = format_body head; pad = [] } in
    record {
      chunks = chunk ∷ [];
      format = format_for head;
      size = u32 (data_size head);
      cut = record {
        form = codes "RIFF" ++ (u32 (36 + data_size head + pad_size head) ++ codes "WAVE");
        riff = record { size = u32 (36 + data_size head + pad_size head); sized = refl; parts = refl };
        few = omega arith;
        precede = (
          Some (format_for head),
          record {
            chunk = record { named = refl; sized = refl; whole = refl; padded = refl };
            early = other_id format_id data_id refl;
            told = inl (record { id = refl; first = refl; format = format_for head; told = refl; body = tells_its_format head h });
          },
          refl,
        );
        parts = refl;
      };
      sized = refl;
      known = omega (arith, size);
      tells = λ i. record { channels = head.channels; rate = head.rate; bits = head.bits; frames = (sym frames ∙ ap (λ (n : ℕ). n / block_align head) (sym size)) i };
    }

pub no_front : (head : Head) → IsPcmHead head → HasNoFront head
no_front head h = λ text more other parts some front.
    let one : HasHead (head_bytes_of head) head (head_bytes_of head) = record { headed = headed head h; rest = []; parts = sym (append-nil (head_bytes_of head)) } in
    let two : HasHead (head_bytes_of head) other text = record { headed = front; rest = more; parts = parts } in
    let same = (one_head (head_bytes_of head) (head_bytes_of head) text head other one two).1 in
    let longer : length (head_bytes_of head) ≡ length text + length more = ap length parts ∙ length-append text more in
    let long : length text ≡ length (head_bytes_of head) = ap length same in
    absurd (omega arith)

pub is_stream : (head : Head) → IsPcmHead head → IsStream head
is_stream head h = λ bytes body rest plain. record {
  front = head_bytes_of head;
  headed = headed head h;
  parts = plain.parts ∙ append_assoc (head_bytes_of head) body rest;
  size = plain.size;
}
