-- Where a run stopped, by where its last block did.
use Rattle.std.proofs.Common.{◌≡◌, ℕ, ◌+◌, ◌*◌, ◌<◌, ◌≤◌, List, [], ◌++◌, length, take, drop, sym, ap, ◌∙◌, subst, arith, take-append-drop, length-append, append_assoc}
use Rattle.std.specs.Prelude.{ℤ, pos, unsigned_abs, slice_index_or, Option}
use Rattle.std.specs.Io.KnownBytes.{Consumes, Appends}
use Rattle.std.proofs.KnownBytes.{Consumes-trans, Appends-trans, Consumes-nil}
use Rattle.std.proofs.Math.Nat.{mul-le-mul_right}
use Rattle.std.proofs.Math.Seq.{take-append-add}
use Rattle.std.proofs.lemmas.List.{get_or-append-add, length-drop}
use Rattle.std.proofs.lemmas.List.Elements.{All-append, All-nil}
use Rattle.wdf_io.specs.Moved.{AppendsPart}
use Rattle.wdf_wav.specs.Header.{head_bytes_of}
use Rattle.wdf_frames.specs.declared.frame_stop.FrameStop.{FrameStop}
use Rattle.wdf_frames.specs.declared.frame_stop.FrameStop.TheVariants.{Amplitude, Truncated, ReadFault, WriteFault}
use Rattle.wdf_frames.specs.declared.round.Round.{Round}
use Rattle.wdf_frames.specs.Setting.{Setting, AreSmall, AreWithin, IsFirstOver, read_size, samples_in, written_head}
use Rattle.wdf_frames.specs.Written.{IsResult}
use Rattle.wdf_frames.specs.Stops.{FrameStops, StopsOver, StopsShort, StopsWriting}
use Rattle.wdf_frames.specs.Progress.{HasLaws, BlockStops, StopsAtOver, StopsAtEnd, StopsInPart, RanSoFar, data_for, next_count, round_setting}
use Rattle.wdf_frames.proofs.FrameLemmas.{length_samples, no_samples, samples_more}
use Rattle.wdf_frames.proofs.ProgressLemmas.{data_behind, has_run_more, next_few, next_most, next_some, result_is, written_behind}

-- the header was not written whole
pub stops_at_header : (s : Setting) → HasLaws s → (l x y : Option (List ℕ)) → AppendsPart x y (head_bytes_of (written_head s)) → FrameStops s l l x y WriteFault
stops_at_header s laws l x y part =
    let head = head_bytes_of (written_head s) in
    record {
      body = [];
      count = 0;
      size = omega arith;
      few = omega arith;
      tail = [];
      taken = omega arith;
      input = Consumes-nil l;
      within = subst (AreSmall s) (sym (no_samples s laws.samples)) (All-nil (λ (z : ℤ). unsigned_abs z ≤ s.plan.amp));
      whole = head ++ data_for s [];
      result = result_is s laws [];
      bytes = take part.0 head;
      front = record { behind = drop part.0 head ++ data_for s []; whole = ap (λ (b : List ℕ). b ++ data_for s []) (sym (take-append-drop part.0 head)) ∙ append_assoc (take part.0 head) (drop part.0 head) (data_for s []) };
      output = part.2;
    }

-- ---- the first sample over amp, behind frames that are within

over_behind : (s : Setting) → HasLaws s → (done inner channel : ℕ) (sample : ℤ) (body frames : List ℕ) → length body ≡ done * read_size s → AreWithin s body
    → IsFirstOver s frames inner channel sample → IsFirstOver s (body ++ frames) (done + inner) channel sample
over_behind s laws done inner channel sample body frames long within over =
    let channels = s.head.channels in
    let here = inner * channels + channel in
    let count = length_samples s laws.samples done body long in
    let more = samples_more s laws.samples done body frames long in
    let place : (done + inner) * channels + channel ≡ length (samples_in s body) + here = place_is done inner channels channel ∙ ap (λ (n : ℕ). n + here) (sym count) in
    let inside = over.whole_frame in
    record {
      one_channel = over.one_channel;
      whole_frame = subst (λ (n : ℕ). (done + inner + 1) * read_size s ≤ n) (sym (length-append body frames)) (room_is done inner (read_size s) (length body) (length frames) long inside);
      value = (λ i. slice_index_or (more i) (place i) (pos 0)) ∙ (get_or-append-add (samples_in s body) (samples_in s frames) here (pos 0) ∙ over.value);
      over = over.over;
      before = subst (AreSmall s) (sym ((λ i. take (place i) (more i)) ∙ take-append-add (samples_in s body) (samples_in s frames) here))
          (All-append (λ (z : ℤ). unsigned_abs z ≤ s.plan.amp) (samples_in s body) (take here (samples_in s frames)) within over.before);
    }
  where
    place_is : (a b c d : ℕ) → (a + b) * c + d ≡ a * c + (b * c + d)
    place_is a b c d = omega arith

    room_is : (a b c m n : ℕ) → m ≡ a * c → (b + 1) * c ≤ n → (a + b + 1) * c ≤ m + n
    room_is a b c m n long inside = omega arith

-- the frames before it are those before, and the first of the block
front_is : (size done inner : ℕ) (body frames : List ℕ) → length body ≡ done * size → take ((done + inner) * size) (body ++ frames) ≡ body ++ take (inner * size) frames
front_is size done inner body frames long =
    let place : (done + inner) * size ≡ length body + inner * size = omega arith in
    ap (λ (n : ℕ). take n (body ++ frames)) place ∙ take-append-add body frames (inner * size)

-- ---- a block behind others

-- what was read
read_behind : (a b c : Option (List ℕ)) (body frames tail : List ℕ) → Consumes a b body → Consumes b c (frames ++ tail) → Consumes a c ((body ++ frames) ++ tail)
read_behind a b c body frames tail first second = subst (Consumes a c) (sym (append_assoc body frames tail)) (Consumes-trans a b c body (frames ++ tail) first second)

sizes : (s : Setting) (done held : ℕ) (body frames : List ℕ) → length body ≡ done * read_size s → length frames ≡ held * read_size s → length (body ++ frames) ≡ (done + held) * read_size s
sizes s done held body frames long more = length-append body frames ∙ ((λ i. long i + more i) ∙ sum done held (read_size s))
  where
    sum : (a b c : ℕ) → a * c + b * c ≡ (a + b) * c
    sum a b c = omega arith

stops_over : (s : Setting) → HasLaws s → (old new : Round) (count frame channel : ℕ) (sample : ℤ) (l m k x y z : Option (List ℕ)) → RanSoFar s old l m x y
    → old.runner.done + count ≤ s.head.frames → count ≤ 4096 → StopsAtOver s old new count m k y z frame channel sample → StopsOver s frame channel sample l k x z
stops_over s laws old new count frame channel sample l m k x y z so most few stop =
    let done = old.runner.done in
    let inner = stop.wrote.inner in
    let held = stop.reads.few in
    let front = take (inner * read_size s) stop.frames in
    let place : frame ≡ done + inner = stop.wrote.place ∙ stop.wrote.run.ran.done in
    record {
      body = so.body ++ stop.frames;
      count = done + stop.held;
      size = sizes s done stop.held so.body stop.frames so.run.size stop.reads.size;
      few = omega arith;
      near = omega arith;
      tail = stop.reads.tail;
      part = stop.reads.part;
      input = read_behind l m k so.body stop.frames stop.reads.tail so.input stop.reads.input;
      over = subst (λ (n : ℕ). IsFirstOver s (so.body ++ stop.frames) n channel sample) (sym place) (over_behind s laws done inner channel sample so.body stop.frames so.run.size so.run.within stop.wrote.over);
      bytes = head_bytes_of (written_head s) ++ data_for s (so.body ++ front);
      result = subst (λ (b : List ℕ). IsResult s b (head_bytes_of (written_head s) ++ data_for s (so.body ++ front)))
          (sym (ap (λ (n : ℕ). take (n * read_size s) (so.body ++ stop.frames)) place ∙ front_is (read_size s) done inner so.body stop.frames so.run.size)) (result_is s laws (so.body ++ front));
      output = written_behind s laws front stop.wrote.made old new inner l m x y z so stop.wrote.run stop.wrote.output;
    }

stops_short : (s : Setting) → HasLaws s → (old new : Round) (count total : ℕ) (l m k x y z : Option (List ℕ)) → RanSoFar s old l m x y
    → old.runner.done + count ≤ s.head.frames → StopsAtEnd s old new count m k y z total → StopsShort s total l k x z
stops_short s laws old new count total l m k x y z so most stop =
    let done = old.runner.done in
    let place : total ≡ done + stop.held = stop.place ∙ stop.wrote.run.ran.done in
    let has = has_run_more s laws so.body stop.frames stop.wrote.made old new stop.held so.run stop.wrote.run stop.wrote.within in
    let short = stop.short in
    record {
      body = so.body ++ stop.frames;
      size = sizes s done stop.held so.body stop.frames so.run.size stop.reads.size ∙ ap (λ (n : ℕ). n * read_size s) (sym place);
      few = omega arith;
      tail = stop.reads.tail;
      part = stop.reads.part;
      input = read_behind l m k so.body stop.frames stop.reads.tail so.input stop.reads.input;
      end = stop.end;
      within = has.within;
      bytes = head_bytes_of (written_head s) ++ data_for s (so.body ++ stop.frames);
      result = result_is s laws (so.body ++ stop.frames);
      output = written_behind s laws stop.frames stop.wrote.made old new stop.held l m x y z so stop.wrote.run stop.wrote.output;
    }

stops_writing : (s : Setting) → HasLaws s → (old new : Round) (count : ℕ) (l m k x y z : Option (List ℕ)) → RanSoFar s old l m x y
    → old.runner.done + count ≤ s.head.frames → count ≤ 4096 → StopsInPart s old new count m k y z → StopsWriting s l k x z
stops_writing s laws old new count l m k x y z so most few stop =
    let done = old.runner.done in
    let at = stop.wrote.held * read_size s in
    let front = take (stop.wrote.held * read_size s) stop.frames in
    let behind = drop (stop.wrote.held * read_size s) stop.frames in
    let made = stop.wrote.made in
    let part = stop.wrote.output in
    let written = head_bytes_of (written_head s) ++ data_for s so.body in
    let has = has_run_more s laws so.body front made old new stop.wrote.held so.run stop.wrote.run stop.wrote.within in
    let held = stop.wrote.few in
    let reads = stop.reads.few in
    let parts : stop.frames ++ stop.reads.tail ≡ front ++ (behind ++ stop.reads.tail)
    = ap (λ (b : List ℕ). b ++ stop.reads.tail) (sym (take-append-drop at stop.frames)) ∙ append_assoc front behind stop.reads.tail in
    record {
      body = so.body ++ front;
      count = done + stop.wrote.held;
      size = sizes s done stop.wrote.held so.body front so.run.size stop.wrote.run.size;
      few = omega arith;
      tail = behind ++ stop.reads.tail;
      taken = let short : length behind ≤ length stop.frames = omega (arith, length-drop at stop.frames) in let limit : count * read_size s ≤ 4096 * read_size s = mul-le-mul_right (read_size s) few in let all = stop.reads.most in omega (arith, length-append behind stop.reads.tail);
      input = read_behind l m k so.body front (behind ++ stop.reads.tail) so.input (subst (Consumes m k) parts stop.reads.input);
      within = has.within;
      whole = head_bytes_of (written_head s) ++ data_for s (so.body ++ front);
      result = result_is s laws (so.body ++ front);
      bytes = written ++ take part.0 made;
      front = record {
        behind = drop part.0 made;
        whole = sym (data_behind s laws so.body front made old new stop.wrote.held so.run stop.wrote.run)
            ∙ (ap (λ (b : List ℕ). written ++ b) (sym (take-append-drop part.0 made)) ∙ sym (append_assoc written (take part.0 made) (drop part.0 made)));
      };
      output = Appends-trans x y z written (take part.0 made) so.output part.2;
    }

pub frames_stop : (s : Setting) → HasLaws s → (old new : Round) (count : ℕ) (l m k x y z : Option (List ℕ)) (e : FrameStop) → RanSoFar s old l m x y
    → 0 < count → old.runner.done + count ≤ s.head.frames → count ≤ 4096 → BlockStops s old new count m k y z e → FrameStops s l k x z e
frames_stop s laws old new count l m k x y z (Amplitude frame channel sample) so some most few stop = stops_over s laws old new count frame channel sample l m k x y z so most few stop
frames_stop s laws old new count l m k x y z (Truncated total) so some most few stop = stops_short s laws old new count total l m k x y z so most stop
frames_stop s laws old new count l m k x y z WriteFault so some most few stop = stops_writing s laws old new count l m k x y z so most few stop
frames_stop s laws old new count l m k x y z ReadFault so some most few stop =
    let limit : count * read_size s ≤ 4096 * read_size s = mul-le-mul_right (read_size s) few in
    let least = stop.taken.2 in
    record {
      body = so.body;
      count = old.runner.done;
      size = so.run.size;
      few = omega arith;
      between = m;
      input = so.input;
      taken = (stop.taken.0, stop.taken.1, omega arith);
      within = so.run.within;
      bytes = head_bytes_of (written_head s) ++ data_for s so.body;
      result = result_is s laws so.body;
      output = subst (λ (w : Option (List ℕ)). Appends x w (head_bytes_of (written_head s) ++ data_for s so.body)) (sym stop.kept) so.output;
    }

-- at the next of all frames, by its own setting
pub next_stops : (s : Setting) → HasLaws s → (old new : Round) (all : ℕ) (l m k x y z : Option (List ℕ)) (e : FrameStop) → RanSoFar s old l m x y
    → old.runner.done < all → all ≡ s.head.frames → BlockStops (round_setting old) old new (next_count old.runner.done all) m k y z e → FrameStops s l k x z e
next_stops s laws old new all l m k x y z e so more frames stop =
    let count = next_count old.runner.done all in
    frames_stop s laws old new count l m k x y z e so (next_some old.runner.done all more)
    (subst (λ (n : ℕ). old.runner.done + count ≤ n) frames (next_most old.runner.done all more)) (next_few old.runner.done all)
    (subst (λ (t : Setting). BlockStops t old new count m k y z e) so.run.set stop)
