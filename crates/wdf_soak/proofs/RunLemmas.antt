-- A run on a whole wave stops at no frame, and writes the wave of all of them.
use Rattle.std.proofs.Common.{◌≡◌, ℕ, ◌+◌, List, [], ◌∷◌, ◌++◌, length, Option, Some, None, Ok, Err, refl, sym, ap, ◌∙◌, subst, arith, append_assoc, append-nil, length-append}
use Rattle.std.specs.Prelude.{ℤ}
use Rattle.wdf_law.specs.declared.side.Side.{Side}
use Rattle.wdf_energy.specs.declared.totals.Totals.{Totals}
use Rattle.wdf_frames.specs.declared.frame_stop.FrameStop.TheVariants.{Amplitude, Truncated}
use Rattle.wdf_wav.specs.Header.{IsFrameFormat, data_size}
use Rattle.wdf_frames.specs.Setting.{AreWithin, Setting}
use Rattle.wdf_frames.specs.Ends.{EndsOver, EndsShort, EndsWhole, HasOneEnd}
use Rattle.wdf_frames.specs.Stops.{StopsOver, StopsShort}
use Rattle.wdf_frames.specs.RunFacts.{TellsRun}
use Rattle.wdf_frames.specs.WaveRuns.{WritesWave}
use Rattle.wdf_frames.specs.Written.{IsWritten}

-- body is the data of all frames, whose samples are within amp
pub record IsWholeWave (s : Setting) (body : List ℕ) : Type 0 where
  pub format : IsFrameFormat s.head.channels s.head.bits
  pub size : length body ≡ data_size s.head
  pub within : AreWithin s body

-- ---- where it does not stop; `left` is what the input gives, and it is the whole wave

whole_end : (s : Setting) (body : List ℕ) → IsWholeWave s body → EndsWhole s body
whole_end s body w = record { body = body; more = []; whole = sym (append-nil body); size = w.size; within = w.within }

pub never_over : HasOneEnd → (s : Setting) (body left : List ℕ) → IsWholeWave s body → left ≡ body → (frame channel : ℕ) (sample : ℤ) (left' written written' : Option (List ℕ))
    → StopsOver s frame channel sample (Some left) left' written written' → ⊥
never_over one s body left w same frame channel sample None written written' h = absurd h.input
never_over one s body left w same frame channel sample (Some more) written written' h =
    let over : EndsOver s body frame channel sample = record {
      body = h.body;
      more = h.tail ++ more;
      count = h.count;
      whole = sym same ∙ h.input ∙ append_assoc h.body h.tail more;
      size = h.size;
      few = h.few;
      over = h.over;
    } in
    let two = one s body (Ok tt) (Err (Amplitude frame channel sample)) w.format (whole_end s body w) over in cc

pub never_short : HasOneEnd → (s : Setting) (body left : List ℕ) → IsWholeWave s body → left ≡ body → (count : ℕ) (left' written written' : Option (List ℕ))
    → StopsShort s count (Some left) left' written written' → ⊥
never_short one s body left w same count None written written' h = absurd h.input
never_short one s body left w same count (Some more) written written' h =
    let short : EndsShort s body count = record {
      body = h.body;
      tail = h.tail;
      whole = sym same ∙ h.input ∙ (ap (λ (l : List ℕ). h.body ++ h.tail ++ l) h.end ∙ append-nil (h.body ++ h.tail));
      size = h.size;
      few = h.few;
      part = h.part;
      within = h.within;
    } in
    let two = one s body (Ok tt) (Err (Truncated count)) w.format (whole_end s body w) short in cc

-- ---- what it writes

none_behind : (xs : List ℕ) → length xs ≡ 0 → xs ≡ []
none_behind [] e = refl
none_behind (x ∷ xs) e = absurd (omega arith)

front_all : (all front rest : List ℕ) → all ≡ front ++ rest → length front ≡ length all → front ≡ all
front_all all front rest e long =
    let none : rest ≡ [] = none_behind rest (omega (arith, ap length e, length-append front rest)) in
    sym (append-nil front) ∙ (λ i. front ++ sym none i) ∙ sym e

-- it reads all of body
reads_all : (s : Setting) (body left : List ℕ) → IsWholeWave s body → left ≡ body → (left' written written' : Option (List ℕ)) (h : WritesWave s (Some left) left' written written')
    → h.body ≡ body
reads_all s body left w same None written written' h = absurd h.input
reads_all s body left w same (Some rest) written written' h = front_all body h.body rest (sym same ∙ h.input) (h.size ∙ sym w.size)

-- gains its wave
pub writes_all : (s : Setting) (body left begun bytes : List ℕ) → IsWholeWave s body → left ≡ body → begun ≡ [] → (left' : Option (List ℕ))
    → WritesWave s (Some left) left' (Some begun) (Some bytes) → IsWritten s body bytes
writes_all s body left begun bytes w same none left' h =
    let read : h.body ≡ body = reads_all s body left w same left' (Some begun) (Some bytes) h in
    let gained : bytes ≡ h.bytes = h.output ∙ ap (λ (l : List ℕ). l ++ h.bytes) none in
    subst (λ (b : List ℕ). IsWritten s b bytes) read (subst (λ (l : List ℕ). IsWritten s h.body l) (sym gained) h.wave)

-- and tells of all of it
pub tells_all : (s : Setting) (body left : List ℕ) → IsWholeWave s body → left ≡ body → (left' written written' : Option (List ℕ))
    (h : WritesWave s (Some left) left' written written') (limited : ℕ) (ledger : Side → ℕ → Option Totals) → TellsRun s h.body limited ledger → TellsRun s body limited ledger
tells_all s body left w same left' written written' h limited ledger told =
    subst (λ (b : List ℕ). TellsRun s b limited ledger) (reads_all s body left w same left' written written' h) told
