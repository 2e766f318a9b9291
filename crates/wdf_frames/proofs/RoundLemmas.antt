-- A round goes on over a block.
use Rattle.std.proofs.Common.{◌≡◌, ℕ, ◌+◌, ◌*◌, ◌/◌, ◌<◌, ◌≤◌, List, ◌++◌, length, take, sym, ap, ◌∙◌, subst, arith, length-take-le}
use Rattle.std.specs.Prelude.{ℤ, pos, unsigned_abs, slice_index_or, Option, Some, None}
use Rattle.std.proofs.Math.Nat.{div-eq_of_lt, lt_of_mul-lt-mul_right, mul-le-mul_right, mul-div_cancel, mul-add-div_right}
use Rattle.std.proofs.lemmas.List.{take_all, take_at}
use Rattle.wdf_bounds.specs.Plans.{PlanOf}
use Rattle.wdf_lattice.specs.Runners.{RunnerValue, RunsOn, NotesOn, states_of, accounts_of}
use Rattle.wdf_wav.specs.declared.head.Head.{Head}
use Rattle.wdf_frames.specs.declared.over.Over.{Over}
use Rattle.wdf_frames.specs.declared.round.Round.{Round}
use Rattle.wdf_frames.specs.Found.{IsFound}
use Rattle.wdf_frames.specs.Setting.{Setting, setting, runs_of, AreSmall, read_size, write_size, samples_in}
use Rattle.wdf_frames.specs.Written.{limited_among}
use Rattle.wdf_frames.specs.Progress.{HasLaws, RunsSamples, RunsFrames, FindsOver, frames_before}
use Rattle.wdf_frames.specs.Shaped.{IsShaped}
use Rattle.wdf_frames.proofs.FrameLemmas.{length_samples, samples_front, take_front}

-- there is room for the bytes of load waves
pub data_room : (count runs some bits wide made : ℕ) (waves : List ℤ) → made ≡ count * (some * (wide / 8)) → some ≡ runs → wide ≡ bits → count ≤ 4096 → length waves ≡ 4096 * runs
    → made ≡ length (take (count * runs) waves) * (bits / 8)
data_room count runs some bits wide made waves long same bits_same few room =
    let most : count * runs ≤ 4096 * runs = mul-le-mul_right runs few in
    let taken : length (take (count * runs) waves) ≡ count * runs = length-take-le (count * runs) waves (omega arith) in
    long ∙ ((λ i. count * (same i * (bits_same i / 8))) ∙ (frames_size count runs (bits / 8) ∙ ap (λ (n : ℕ). n * (bits / 8)) (sym taken)))
  where
    frames_size : (a b c : ℕ) → a * (b * c) ≡ a * b * c
    frames_size a b c = omega arith

-- what the type of a round keeps is kept
pub reshaped : (r q : RunnerValue) (plans : PlanOf) (form : Head) (down runs limited more samples waves samples' waves' count : ℕ)
    → IsShaped r plans form down runs limited samples waves → q.networks ≡ r.networks → q.plan ≡ r.plan → q.runs ≡ r.runs → q.done ≡ r.done + count
    → more ≤ count * runs → samples' ≡ samples → waves' ≡ waves → IsShaped q plans form down runs (limited + more) samples' waves'
reshaped r q plans form down runs limited more samples waves samples' waves' count is networks plan runs_same done few samples_same waves_same =
    let before = is.few_limited in
    let sum : q.done * runs ≡ r.done * runs + count * runs = ap (λ (n : ℕ). n * runs) done ∙ omega arith in
    record {
      plan_is = plan ∙ is.plan_is;
      runs_are = runs_same ∙ is.runs_are;
      for_channels = rw networks is.for_channels;
      some_run = is.some_run;
      few_runs = is.few_runs;
      driven = rw networks is.driven;
      some_channel = is.some_channel;
      few_channels = is.few_channels;
      bits_are = is.bits_are;
      width = is.width;
      down_is = rw networks is.down_is;
      few_down = is.few_down;
      samples_room = samples_same ∙ is.samples_room;
      waves_room = waves_same ∙ is.waves_room;
      few_limited = omega arith;
    }

-- ---- the first sample over amp

small_quotient : (a n : ℕ) → a < n → a / n ≡ 0
small_quotient a n below = div-eq_of_lt below

one_more : (frame channel small channels count : ℕ) → small ≡ frame * channels + channel → small < count * channels → frame + 1 ≤ count
one_more frame channel small channels count at below = let less : frame < count = lt_of_mul-lt-mul_right channels (omega arith) in omega arith

-- as many frames stand before it
pub before_is : (channels small count : ℕ) (samples : List ℤ) (r : Option Over) → 1 ≤ channels → length samples ≡ count * channels → small ≤ count * channels
    → IsFound channels small samples r → frames_before count r ≡ small / channels
before_is channels small count samples None some long most found =
    let all : small ≡ count * channels = omega arith in
    sym (ap (λ (n : ℕ). n / channels) all ∙ mul-div_cancel count some)
before_is channels small count samples (Some o) some long most found =
    sym (ap (λ (n : ℕ). n / channels) found.1.at ∙ (mul-add-div_right some o.frame o.channel ∙ (ap (λ (n : ℕ). o.frame + n) (small_quotient o.channel channels found.1.one_channel) ∙ omega arith)))

pub finds_over : (s : Setting) → HasLaws s → (small count : ℕ) (frames : List ℕ) (r : Option Over) → length frames ≡ count * read_size s → small ≤ count * s.head.channels
    → AreSmall s (take small (samples_in s frames)) → (small < count * s.head.channels → s.plan.amp < unsigned_abs (slice_index_or (samples_in s frames) small (pos 0)))
    → IsFound s.head.channels small (samples_in s frames) r → FindsOver s frames r
finds_over s laws small count frames None long most hold over found =
    let count_is = length_samples s laws.samples count frames long in
    subst (AreSmall s) (take_all small (samples_in s frames) found) hold
finds_over s laws small count frames (Some o) long most hold over found =
    let count_is = length_samples s laws.samples count frames long in
    let below : small < count * s.head.channels = let inside = found.0 in omega arith in
    let frame : o.frame + 1 ≤ count = one_more o.frame o.channel small s.head.channels count found.1.at below in
    let whole : (o.frame + 1) * read_size s ≤ count * read_size s = mul-le-mul_right (read_size s) frame in
    record {
      one_channel = found.1.one_channel;
      whole_frame = omega arith;
      value = ap (λ (n : ℕ). slice_index_or (samples_in s frames) n (pos 0)) (sym found.1.at) ∙ sym found.1.value;
      over = subst (λ (z : ℤ). s.plan.amp < unsigned_abs z) (sym found.1.value) (over below);
      before = subst (λ (n : ℕ). AreSmall s (take n (samples_in s frames))) found.1.at hold;
    }

-- ---- the block

-- the frames before it are run
pub runs_frames : (s : Setting) → HasLaws s → (old mid new : Round) (count whole : ℕ) (frames made rest : List ℕ) (items : List ℤ) → length frames ≡ count * read_size s → whole ≤ count
    → mid.runner ≡ old.runner → mid.head ≡ old.head → mid.limited ≡ old.limited → take (count * s.head.channels) items ≡ samples_in s frames → length made ≡ whole * write_size s
    → RunsSamples s mid new (take (whole * s.head.channels) items) made whole
    → RunsFrames s old new (take (whole * read_size s) frames) (take (whole * write_size s) (made ++ rest)) whole
runs_frames s laws old mid new count whole frames made rest items long less runner head limited read room ran =
    let most : whole * read_size s ≤ count * read_size s = mul-le-mul_right (read_size s) less in
    let fewer : whole * s.head.channels ≤ count * s.head.channels = mul-le-mul_right s.head.channels less in
    let front : take (whole * s.head.channels) items ≡ samples_in s (take (whole * read_size s) frames)
    = sym (take_front (whole * s.head.channels) (count * s.head.channels) items fewer)
    ∙ (ap (take (whole * s.head.channels)) read ∙ sym (samples_front s laws.samples count whole frames long less)) in
    record {
      size = length-take-le (whole * read_size s) frames (omega arith);
      ran = record {
        set = ran.set ∙ (λ i. setting (runner i).networks (runner i).plan (head i));
        waves = ran.waves;
        on = subst (λ (r : RunnerValue). RunsOn s.networks s.plan.guard (runs_of s) (states_of r) (states_of new.runner) (samples_in s (take (whole * read_size s) frames)) ran.waves) runner
            (subst (λ (l : List ℤ). RunsOn s.networks s.plan.guard (runs_of s) (states_of mid.runner) (states_of new.runner) l ran.waves) front ran.on);
        bytes = take_at made rest (whole * write_size s) room ∙ ran.bytes;
        limited = ran.limited ∙ ap (λ (n : ℕ). n + limited_among s ran.waves) limited;
        notes = subst (λ (r : RunnerValue). NotesOn s.networks s.plan.guard (runs_of s) (states_of r) (accounts_of r) (accounts_of new.runner) (samples_in s (take (whole * read_size s) frames))) runner
            (subst (λ (l : List ℤ). NotesOn s.networks s.plan.guard (runs_of s) (states_of mid.runner) (accounts_of mid.runner) (accounts_of new.runner) l) front ran.notes);
        done = ran.done ∙ ap (λ (r : RunnerValue). r.done + whole) runner;
      };
    }
