-- Block after block, the frames of a run give one wave.
use Rattle.std.proofs.Common.{◌≡◌, ℕ, ◌+◌, ◌*◌, ◌<◌, ◌≤◌, List, [], ◌++◌, length, map, refl, sym, ap, ◌∙◌, subst, arith, length-append, append_assoc, append-nil}
use Rattle.std.specs.Prelude.{ℤ, filter, unsigned_abs, Option}
use Rattle.std.specs.Io.KnownBytes.{Appends}
use Rattle.std.proofs.KnownBytes.{Consumes-trans, Appends-trans, Consumes-nil}
use Rattle.std.proofs.lemmas.List.{map-append}
use Rattle.std.proofs.lemmas.List.Elements.{All-append, All-nil, filter-append}
use Rattle.wdf_law.specs.OutputRule.{output_of}
use Rattle.wdf_lattice.specs.Runners.{states_of, accounts_of}
use Rattle.wdf_lattice.specs.SolvedWaves.{waves_for}
use Rattle.wdf_lattice.specs.RunnerLaws.{LeadsTo, AreAccountsOf}
use Rattle.wdf_lattice.specs.Sides.{sources_driven}
use Rattle.wdf_loop.specs.Limiting.{is_limited}
use Rattle.wdf_wav.specs.Header.{head_bytes_of}
use Rattle.wdf_wav.specs.PcmStream.{data_of}
use Rattle.wdf_frames.specs.declared.round.Round.{Round}
use Rattle.wdf_frames.specs.Setting.{Setting, AreSmall, AreWithin, read_size, runs_of, samples_in, written_head, down_of}
use Rattle.wdf_frames.specs.Written.{IsResult, coded, limited_among}
use Rattle.wdf_frames.specs.Progress.{HasLaws, HasRun, IsBegunRound, RunsFrames, WritesBlock, RanSoFar, data_for, solved_waves, next_count, round_setting}
use Rattle.wdf_frames.proofs.FrameLemmas.{length_samples, no_samples, samples_more}

-- ---- what frames give, and what more frames give

some_sample : (s : Setting) → HasLaws s → 0 < runs_of s * sources_driven s.networks
some_sample s laws = let a = laws.samples.some_channel in let b = laws.driven in omega arith

no_waves : (s : Setting) → HasLaws s → solved_waves s [] ≡ []
no_waves s laws = ap (waves_for s.networks s.plan.guard (runs_of s)) (no_samples s laws.samples) ∙ laws.goes_on.none s.plan.guard (runs_of s) (some_sample s laws)

pub no_data : (s : Setting) → HasLaws s → data_for s [] ≡ []
no_data s laws = ap (coded s) (no_waves s laws)

coded_more : (s : Setting) → HasLaws s → (xs ys : List ℤ) → coded s (xs ++ ys) ≡ coded s xs ++ coded s ys
coded_more s laws xs ys =
    let f = output_of (down_of s) s.head.bits in
    ap (data_of s.head.bits) (map-append f xs ys) ∙ laws.codes (map f xs) (map f ys)

limited_more : (s : Setting) (xs ys : List ℤ) → limited_among s (xs ++ ys) ≡ limited_among s xs + limited_among s ys
limited_more s xs ys =
    let p = is_limited (down_of s) s.head.bits in
    ap length (filter-append p xs ys) ∙ length-append (filter p xs) (filter p ys)

-- the waves of frames behind those that a round has run
waves_more : (s : Setting) → HasLaws s → (body frames made : List ℕ) (old new : Round) (count : ℕ) → HasRun s body old → (run : RunsFrames s old new frames made count)
    → solved_waves s (body ++ frames) ≡ solved_waves s body ++ run.ran.waves
waves_more s laws body frames made old new count has run =
    ap (waves_for s.networks s.plan.guard (runs_of s)) (samples_more s laws.samples old.runner.done body frames has.size)
    ∙ laws.goes_on.waves s.plan.guard (runs_of s) (samples_in s body) (samples_in s frames) run.ran.waves (states_of old.runner) (states_of new.runner) (some_sample s laws) has.leads run.ran.on

pub data_more : (s : Setting) → HasLaws s → (body frames made : List ℕ) (old new : Round) (count : ℕ) → HasRun s body old → RunsFrames s old new frames made count
    → data_for s (body ++ frames) ≡ data_for s body ++ made
data_more s laws body frames made old new count has run =
    ap (coded s) (waves_more s laws body frames made old new count has run)
    ∙ (coded_more s laws (solved_waves s body) run.ran.waves ∙ ap (λ (l : List ℕ). data_for s body ++ l) (sym run.ran.bytes))

-- ---- what a round has run

pub has_begun : (s : Setting) → HasLaws s → (r : Round) → IsBegunRound r s → HasRun s [] r
has_begun s laws r begun = record {
  set = begun.set;
  size = let none = begun.none_done in rw none (omega arith);
  within = subst (AreSmall s) (sym (no_samples s laws.samples)) (All-nil (λ (z : ℤ). unsigned_abs z ≤ s.plan.amp));
  leads = rw (no_samples s laws.samples) (laws.goes_on.begins s.plan.guard (runs_of s) (states_of r.runner) (some_sample s laws) begun.rest);
  counted = begun.none_limited ∙ sym (ap (limited_among s) (no_waves s laws));
  noted = rw (no_samples s laws.samples) (laws.goes_on.opens s.plan.guard (runs_of s) (accounts_of r.runner) (some_sample s laws) begun.none_noted);
}

pub has_run_more : (s : Setting) → HasLaws s → (body frames made : List ℕ) (old new : Round) (count : ℕ) → HasRun s body old → RunsFrames s old new frames made count → AreWithin s frames
    → HasRun s (body ++ frames) new
has_run_more s laws body frames made old new count has run within =
    let more = samples_more s laws.samples old.runner.done body frames has.size in
    let size = run.size in
    let before = has.size in
    let done = run.ran.done in
    let samples : length (samples_in s frames) ≡ count * (runs_of s * sources_driven s.networks)
    = length_samples s laws.samples count frames run.size ∙ ap (λ (n : ℕ). count * n) laws.driven in
    record {
      set = run.ran.set ∙ has.set;
      size = length-append body frames ∙ ((λ i. before i + size i) ∙ (sum old.runner.done count (read_size s) ∙ ap (λ (n : ℕ). n * read_size s) (sym done)));
      within = subst (AreSmall s) (sym more) (All-append (λ (z : ℤ). unsigned_abs z ≤ s.plan.amp) (samples_in s body) (samples_in s frames) has.within within);
      leads = subst (λ (l : List ℤ). LeadsTo s.networks s.plan.guard (runs_of s) l (states_of new.runner)) (sym more)
          (laws.goes_on.leads s.plan.guard (runs_of s) count (samples_in s body) (samples_in s frames) run.ran.waves (states_of old.runner) (states_of new.runner) (some_sample s laws)
          has.leads samples run.ran.on);
      counted = run.ran.limited ∙ (ap (λ (n : ℕ). n + limited_among s run.ran.waves) has.counted
          ∙ sym (ap (limited_among s) (waves_more s laws body frames made old new count has run) ∙ limited_more s (solved_waves s body) run.ran.waves));
      noted = subst (λ (l : List ℤ). AreAccountsOf s.networks s.plan.guard (runs_of s) l (accounts_of new.runner)) (sym more)
          (laws.goes_on.notes s.plan.guard (runs_of s) (samples_in s body) (samples_in s frames) (states_of old.runner) (accounts_of old.runner) (accounts_of new.runner) (some_sample s laws)
          has.leads has.noted run.ran.notes);
    }
  where
    sum : (a b c : ℕ) → a * c + b * c ≡ (a + b) * c
    sum a b c = omega arith

-- ---- the next block

pub next_few : (done all : ℕ) → next_count done all ≤ 4096
next_few done all = omega arith

pub next_some : (done all : ℕ) → done < all → 0 < next_count done all
next_some done all more = omega arith

pub next_most : (done all : ℕ) → done < all → done + next_count done all ≤ all
next_most done all more = omega arith

-- ---- what was written so far

pub result_is : (s : Setting) → HasLaws s → (body : List ℕ) → IsResult s body (head_bytes_of (written_head s) ++ data_for s body)
result_is s laws body = record { waves = solved_waves s body; gives = laws.one_wave.some s.plan.guard (runs_of s) (samples_in s body); parts = refl }

-- behind the header
pub ran_none : (s : Setting) → HasLaws s → (r : Round) (l x y : Option (List ℕ)) → IsBegunRound r s → Appends x y (head_bytes_of (written_head s)) → RanSoFar s r l l x y
ran_none s laws r l x y begun head = record {
  body = [];
  run = has_begun s laws r begun;
  input = Consumes-nil l;
  output = subst (Appends x y) (sym (ap (λ (d : List ℕ). head_bytes_of (written_head s) ++ d) (no_data s laws) ∙ append-nil (head_bytes_of (written_head s)))) head;
}

-- data behind what was written
pub data_behind : (s : Setting) → HasLaws s → (body frames made : List ℕ) (old new : Round) (count : ℕ) → HasRun s body old → RunsFrames s old new frames made count
    → (head_bytes_of (written_head s) ++ data_for s body) ++ made ≡ head_bytes_of (written_head s) ++ data_for s (body ++ frames)
data_behind s laws body frames made old new count has run =
    append_assoc (head_bytes_of (written_head s)) (data_for s body) made ∙ ap (λ (d : List ℕ). head_bytes_of (written_head s) ++ d) (sym (data_more s laws body frames made old new count has run))

pub written_behind : (s : Setting) → HasLaws s → (frames made : List ℕ) (old new : Round) (count : ℕ) (l m x y z : Option (List ℕ)) → (so : RanSoFar s old l m x y) → RunsFrames s old new frames made count
    → Appends y z made → Appends x z (head_bytes_of (written_head s) ++ data_for s (so.body ++ frames))
written_behind s laws frames made old new count l m x y z so run output =
    subst (Appends x z) (data_behind s laws so.body frames made old new count so.run run) (Appends-trans x y z (head_bytes_of (written_head s) ++ data_for s so.body) made so.output output)

pub ran_more : (s : Setting) → HasLaws s → (old new : Round) (count : ℕ) (l m k x y z : Option (List ℕ)) → RanSoFar s old l m x y → WritesBlock s old new count m k y z → RanSoFar s new l k x z
ran_more s laws old new count l m k x y z so block = record {
  body = so.body ++ block.frames;
  run = has_run_more s laws so.body block.frames block.wrote.made old new count so.run block.wrote.run block.wrote.within;
  input = Consumes-trans l m k so.body block.frames so.input block.input;
  output = written_behind s laws block.frames block.wrote.made old new count l m x y z so block.wrote.run block.wrote.output;
}

-- the next of so many frames in all, by its own setting
pub ran_next : (s : Setting) → HasLaws s → (old new : Round) (all : ℕ) (l m k x y z : Option (List ℕ)) → RanSoFar s old l m x y
    → WritesBlock (round_setting old) old new (next_count old.runner.done all) m k y z → RanSoFar s new l k x z
ran_next s laws old new all l m k x y z so block =
    let count = next_count old.runner.done all in
    ran_more s laws old new count l m k x y z so (subst (λ (t : Setting). WritesBlock t old new count m k y z) so.run.set block)
