-- All frames were run, and the pad byte ends the wave.
use Rattle.std.proofs.Common.{◌≡◌, ℕ, zero, suc, ◌*◌, ◌<◌, ◌≤◌, List, [], ◌∷◌, ◌++◌, length, take, refl, sym, ap, ◌∙◌, subst, arith, append-nil}
use Rattle.std.specs.Prelude.{replicate, Option, Result, Ok, Err, OnOk, OnErr, IfErr}
use Rattle.std.specs.Io.KnownBytes.{Consumes, Appends}
use Rattle.std.proofs.KnownBytes.{Appends-trans}
use Rattle.wdf_io.specs.Moved.{AppendsPart}
use Rattle.wdf_wav.specs.Header.{head_bytes_of, pad_size}
use Rattle.wdf_frames.specs.declared.frame_stop.FrameStop.{FrameStop}
use Rattle.wdf_frames.specs.declared.frame_stop.FrameStop.TheVariants.{WriteFault}
use Rattle.wdf_frames.specs.declared.round.Round.{Round}
use Rattle.wdf_frames.specs.Setting.{Setting, read_size, runs_of, samples_in, written_head}
use Rattle.wdf_lattice.specs.declared.networks.Networks.{Networks}
use Rattle.wdf_lattice.specs.SideAccounts.{totals_with}
use Rattle.wdf_lattice.specs.Runners.{accounts_of, totals_by}
use Rattle.wdf_frames.specs.RunFacts.{HasTotals, TellsRun}
use Rattle.wdf_frames.specs.WaveRuns.{WritesWave}
use Rattle.wdf_frames.specs.Stops.{FrameStops}
use Rattle.wdf_frames.specs.Progress.{HasLaws, HasRun, RanSoFar, data_for, solved_waves}
use Rattle.wdf_frames.proofs.ProgressLemmas.{result_is}

-- the pad
abbrev pub pads : ℕ → List ℕ
pads n = replicate n 0

abbrev pub pad_of : Setting → List ℕ
pad_of s = pads (pad_size (written_head s))

-- a byte of which the pad is taken
abbrev pub pad_byte : List ℕ
pad_byte = 0 ∷ []

pub pad_is : (n : ℕ) → n ≤ 1 → take n pad_byte ≡ pads n
pad_is zero few = refl
pad_is (suc zero) few = refl
pad_is (suc (suc n)) few = absurd (omega arith)

pub no_part : (n k : ℕ) → k ≤ 1 → n < length (pads k) → take n (pads k) ≡ []
no_part zero k few inside = refl
no_part (suc n) zero few inside = absurd (omega arith)
no_part (suc n) (suc zero) few inside = absurd (omega arith)
no_part (suc n) (suc (suc k)) few inside = absurd (omega arith)

-- the totals of a round are those of the frames that it ran
tells_totals : (s : Setting) → HasLaws s → (body : List ℕ) (r : Round) → HasRun s body r → HasTotals s body (totals_by r.runner)
tells_totals s laws body r has =
    let accounts = accounts_of r.runner in
    let networks : s.networks ≡ r.runner.networks = sym (ap (λ (t : Setting). t.networks) has.set) in
    let runs : runs_of s ≡ r.runner.runs = sym (r.shaped.runs_are ∙ (r.shaped.for_channels ∙ ap runs_of has.set)) in
    subst (λ (ns : Networks). HasTotals s body (totals_with ns r.runner.runs accounts)) networks
    (subst (λ (n : ℕ). HasTotals s body (totals_with s.networks n accounts)) runs (laws.tells s.plan.guard (runs_of s) (samples_in s body) accounts has.noted))

pub writes_wave : (s : Setting) → HasLaws s → (r : Round) (l k x y z : Option (List ℕ)) → RanSoFar s r l k x y → r.runner.done ≡ s.head.frames → Appends y z (pad_of s)
    → (wave : WritesWave s l k x z) × TellsRun s wave.body r.limited (totals_by r.runner)
writes_wave s laws r l k x y z so all pad =
    let unpadded = head_bytes_of (written_head s) ++ data_for s so.body in
    let gives = laws.one_wave.some s.plan.guard (runs_of s) (samples_in s so.body) in (
      record {
        body = so.body;
        size = so.run.size ∙ ap (λ (n : ℕ). n * read_size s) all;
        input = so.input;
        within = so.run.within;
        bytes = unpadded ++ pad_of s;
        wave = record { unpadded = unpadded; result = result_is s laws so.body; padded = refl };
        output = Appends-trans x y z unpadded (pad_of s) so.output pad;
      },
      record {
        counted = record { waves = solved_waves s so.body; gives = gives; counted = so.run.counted };
        ledger = tells_totals s laws so.body r so.run;
      },
    )

-- the output failed at the pad
pub stops_at_pad : (s : Setting) → HasLaws s → (r : Round) (l k x y z : Option (List ℕ)) → RanSoFar s r l k x y → r.runner.done ≡ s.head.frames → pad_size (written_head s) ≤ 1
    → AppendsPart y z (pad_of s) → FrameStops s l k x z WriteFault
stops_at_pad s laws r l k x y z so all few part =
    let whole = head_bytes_of (written_head s) ++ data_for s so.body in
    let none : whole ++ take part.0 (pad_of s) ≡ whole = ap (λ (b : List ℕ). whole ++ b) (no_part part.0 (pad_size (written_head s)) few part.1) ∙ append-nil whole in
    record {
      body = so.body;
      count = r.runner.done;
      size = so.run.size;
      few = omega arith;
      tail = [];
      taken = omega arith;
      input = subst (Consumes l k) (sym (append-nil so.body)) so.input;
      within = so.run.within;
      whole = whole;
      result = result_is s laws so.body;
      bytes = whole;
      front = record { behind = []; whole = sym (append-nil whole) };
      output = subst (Appends x z) none (Appends-trans x y z whole (take part.0 (pad_of s)) so.output part.2);
    }

-- ---- by the answer of the last write

pub on_ok : (r : Result Unit FrameStop) (P Q : Type 0) → OnOk r P → (P → Q) → OnOk r Q
on_ok (Ok v) P Q h f = f h
on_ok (Err e) P Q h f = h

pub if_err : (r : Result Unit FrameStop) (P : Type 0) (Q : FrameStop → Type 0) → OnErr r P → IfErr r (λ e. e ≡ WriteFault) → (P → Q WriteFault) → IfErr r Q
if_err (Ok v) P Q h is f = h
if_err (Err e) P Q h is f = subst Q (sym is) (f h)
