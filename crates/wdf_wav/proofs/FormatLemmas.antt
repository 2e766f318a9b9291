-- The table of the faults of a `fmt ` and the format that it tells.
use Rattle.std.proofs.Common.{◌≡◌, ℕ, ◌*◌, ◌/◌, ◌≤◌, ◌⊎◌, inl, inr, Bool, true, false, not, ◌&&◌, ◌||◌, ◌==◌, nat_lt, List, length, None, refl, sym, arith}
use Rattle.std.proofs.lemmas.Bool.Decides.{nat_tests}
use Rattle.std.proofs.lemmas.Slice.Eq.{bytes_eq-Decides}
use Rattle.std.specs.Str.{bytes_eq}
use Rattle.wdf_wav.specs.declared.format.Format.{Format}
use Rattle.wdf_wav.specs.FormatChunk.{IsExtensiblePcm, IsFormat, pcm_subformat, pcm_tag, subformat_of, u16_at}
use Rattle.wdf_wav.specs.HeadFaults.{first_row, format_rows, is_extensible, is_width}
use Rattle.wdf_wav.specs.HeadReading.{format_in}
use Rattle.wdf_wav.specs.Header.{IsFrameFormat}

-- the negation of a test is false
pub negated : (b : Bool) → not b ≡ false → b ≡ true
negated true e = refl
negated false e = sym e

pcm_by_tests : (body : List ℕ) (pcm extensible : Bool) → (u16_at 0 body == pcm_tag) ≡ pcm → is_extensible body ≡ extensible → not (pcm || extensible) ≡ false
    → (extensible && nat_lt (length body) 40) ≡ false → (extensible && not (bytes_eq (subformat_of body) pcm_subformat)) ≡ false
    → (u16_at 0 body ≡ pcm_tag) ⊎ IsExtensiblePcm body
pcm_by_tests body true extensible one two tag long subformat = inl (grind (arith, nat_tests))
pcm_by_tests body false true one two tag long subformat = inr (record {
  tag = grind (arith, nat_tests);
  long = grind (arith, nat_tests);
  subformat = (bytes_eq-Decides (subformat_of body) pcm_subformat).0 (negated (bytes_eq (subformat_of body) pcm_subformat) subformat);
})
pcm_by_tests body false false one two tag long subformat = absurd (cc)

frame_by_tests : (channels bits : ℕ) → (channels == 0 || nat_lt 8 channels) ≡ false → not (is_width bits) ≡ false → IsFrameFormat channels bits
frame_by_tests channels bits some width = record { some_channel = grind (arith, nat_tests); few_channels = grind (arith, nat_tests); width = grind (arith, nat_tests) }

-- a body in which no row's test holds tells a format
pub tells_format : (body : List ℕ) → 16 ≤ length body → length body ≤ 64 → not (u16_at 0 body == pcm_tag || is_extensible body) ≡ false
    → (is_extensible body && nat_lt (length body) 40) ≡ false → (u16_at 2 body == 0 || nat_lt 8 (u16_at 2 body)) ≡ false → not (is_width (u16_at 14 body)) ≡ false
    → not (u16_at 12 body == u16_at 2 body * (u16_at 14 body / 8)) ≡ false → (is_extensible body && not (bytes_eq (subformat_of body) pcm_subformat)) ≡ false
    → IsFormat body (format_in body)
tells_format body least most tag long channels bits align subformat = record {
  least = least;
  most = most;
  pcm = pcm_by_tests body (u16_at 0 body == pcm_tag) (is_extensible body) refl refl tag long subformat;
  channels = refl;
  rate = refl;
  bits = refl;
  frame = frame_by_tests (u16_at 2 body) (u16_at 14 body) channels bits;
  align = grind (arith, nat_tests);
}

-- no row's test holds of a body that tells a format
pub good_format : (body : List ℕ) (f : Format) → IsFormat body f → first_row (format_rows body) ≡ None
good_format body f h =
    let some = h.frame.some_channel in
    let few = h.frame.few_channels in
    let w = h.frame.width in
    let channels : (u16_at 2 body == 0 || nat_lt 8 (u16_at 2 body)) ≡ false = rw h.channels (grind (arith, nat_tests)) in
    let bits : is_width (u16_at 14 body) ≡ true = rw h.bits (grind (arith, nat_tests)) in
    let align : (u16_at 12 body == u16_at 2 body * (u16_at 14 body / 8)) ≡ true = rw (h.channels, h.bits) (grind (arith, nat_tests, h.align)) in
    by h.pcm channels bits align
  where
    by : (u16_at 0 body ≡ pcm_tag) ⊎ IsExtensiblePcm body → (u16_at 2 body == 0 || nat_lt 8 (u16_at 2 body)) ≡ false → is_width (u16_at 14 body) ≡ true
        → (u16_at 12 body == u16_at 2 body * (u16_at 14 body / 8)) ≡ true → first_row (format_rows body) ≡ None
    by (inl pcm) channels bits align =
        let tag : (u16_at 0 body == pcm_tag) ≡ true = grind (arith, nat_tests) in
        let plain : is_extensible body ≡ false = grind (arith, nat_tests) in
        rw (tag, plain, channels, bits, align) refl
    by (inr e) channels bits align =
        let tag : (u16_at 0 body == pcm_tag) ≡ false = let t = e.tag in grind (arith, nat_tests) in
        let extensible : is_extensible body ≡ true = let t = e.tag in grind (arith, nat_tests) in
        let long : nat_lt (length body) 40 ≡ false = let l = e.long in grind (arith, nat_tests) in
        let same : bytes_eq (subformat_of body) pcm_subformat ≡ true = (bytes_eq-Decides (subformat_of body) pcm_subformat).1 e.subformat in
        rw (tag, extensible, long, channels, bits, align, same) refl
