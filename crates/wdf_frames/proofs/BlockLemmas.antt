-- A block is read, and written or stopped.
use Rattle.std.proofs.Common.{◌≡◌, ℕ, ◌+◌, ◌-◌, ◌*◌, ◌≤◌, List, ◌++◌, length, take, drop, sym, ap, ◌∙◌, subst, arith, take-append-drop, length-take-le}
use Rattle.std.specs.Prelude.{ℤ, unsigned_abs, Option}
use Rattle.std.specs.Io.KnownBytes.{Consumes}
use Rattle.std.proofs.lemmas.List.{length-drop}
use Rattle.std.proofs.lemmas.List.Elements.{All-take}
use Rattle.wdf_io.specs.Moved.{AppendsPart}
use Rattle.wdf_wav.specs.FrameBlock.{ReadsFrames}
use Rattle.wdf_frames.specs.declared.frame_stop.FrameStop.{FrameStop}
use Rattle.wdf_frames.specs.declared.frame_stop.FrameStop.TheVariants.{Amplitude, Truncated, ReadFault, WriteFault}
use Rattle.wdf_frames.specs.declared.over.Over.{Over}
use Rattle.wdf_frames.specs.declared.round.Round.{Round}
use Rattle.wdf_frames.specs.Setting.{Setting, AreSmall, IsFirstOver, read_size, samples_in}
use Rattle.wdf_frames.specs.Progress.{HasLaws, RunsFrames, WritesPart, WriteStops, ReadsSome, BlockStops}
use Rattle.wdf_frames.proofs.FrameLemmas.{samples_front, take_front}

-- the output failed among the data of the frames before the first sample over amp
pub writes_part : (s : Setting) → HasLaws s → (old new : Round) (count : ℕ) (frames made : List ℕ) (o : Over) (x y : Option (List ℕ)) → length frames ≡ count * read_size s → o.frame ≤ count
    → IsFirstOver s frames o.frame o.channel o.sample → RunsFrames s old new (take (o.frame * read_size s) frames) made o.frame → AppendsPart x y made → WritesPart s old new count frames x y
writes_part s laws old new count frames made o x y long few over run part =
    let n = o.frame * s.head.channels in
    let front : take n (take (n + o.channel) (samples_in s frames)) ≡ samples_in s (take (o.frame * read_size s) frames)
    = take_front n (n + o.channel) (samples_in s frames) (omega arith) ∙ sym (samples_front s laws.samples count o.frame frames long few) in
    record {
      held = o.frame;
      few = few;
      made = made;
      run = run;
      within = subst (AreSmall s) front (All-take (λ (z : ℤ). unsigned_abs z ≤ s.plan.amp) n (take (n + o.channel) (samples_in s frames)) over.before);
      output = part;
    }

-- the whole frames in a buffer that was read, and what is read of one more
pub reads_some : (s : Setting) (count held : ℕ) (buf : List ℕ) (l k : Option (List ℕ)) → length buf ≡ count * read_size s → held ≤ count → ReadsFrames l k (read_size s) held buf
    → ReadsSome s count held (take (held * read_size s) buf) l k
reads_some s count held buf l k long few read =
    let at = held * read_size s in
    let whole : length (take read.count buf) ≡ read.count = length-take-le read.count buf read.within in
    let within : held * read_size s ≤ length buf = let a = read.whole in let b = read.within in omega arith in
    let size : length (take at buf) ≡ held * read_size s = length-take-le at buf within in
    let rest : length (drop at (take read.count buf)) ≡ read.count - held * read_size s = length-drop at (take read.count buf) ∙ ap (λ (n : ℕ). n - at) whole in
    let parts : take read.count buf ≡ take at buf ++ drop at (take read.count buf)
    = sym (ap (λ (l : List ℕ). l ++ drop at (take read.count buf)) (sym (take_front at read.count buf read.whole)) ∙ take-append-drop at (take read.count buf)) in
    record {
      size = size;
      few = few;
      tail = drop at (take read.count buf);
      part = let a = read.part in let b = read.whole in omega arith;
      most = let a = read.whole in let b = read.within in omega arith;
      input = subst (Consumes l k) parts read.bytes;
    }

pub block_stops : (s : Setting) (old new : Round) (count held : ℕ) (frames : List ℕ) (l k x y : Option (List ℕ)) (e : FrameStop) → ReadsSome s count held frames l k
    → WriteStops s old new held frames x y e → BlockStops s old new count l k x y e
block_stops s old new count held frames l k x y (Amplitude frame channel sample) reads stop = record { held = held; frames = frames; reads = reads; wrote = stop }
block_stops s old new count held frames l k x y (Truncated total) reads stop = absurd stop
block_stops s old new count held frames l k x y ReadFault reads stop = absurd stop
block_stops s old new count held frames l k x y WriteFault reads stop = record { held = held; frames = frames; reads = reads; wrote = stop }
