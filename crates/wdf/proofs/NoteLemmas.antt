-- What several writes of parts of a text leave, the ledger's lines one behind the other, and the note of a run.
use Rattle.std.proofs.Common.{◌≡◌, ℕ, zero, suc, ◌+◌, ◌-◌, ◌<◌, ◌≤◌, List, [], ◌∷◌, ◌++◌, length, take, Option, Result, Ok, Err, refl, sym, ap, ◌∙◌, subst, arith, append-nil, length-append}
use Rattle.std.specs.Prelude.{OnErr, flat_map}
use Rattle.std.specs.List.{range_with_len}
use Rattle.std.specs.Io.KnownBytes.{Appends}
use Rattle.std.proofs.KnownBytes.{Appends-trans}
use Rattle.std.proofs.lemmas.List.{take-append-le}
use Rattle.std.proofs.lemmas.Grind.{flat_map-append}
use Rattle.wdf_law.specs.declared.side.Side.{Side}
use Rattle.wdf_io.specs.Moved.{AppendsPart}
use Rattle.wdf_energy.specs.declared.totals.Totals.{Totals}
use Rattle.wdf_netlist.specs.Netlists.{NetlistValue}
use Rattle.wdf_frames.specs.declared.wave_run.WaveRun.{WaveRun}
use Rattle.wdf_frames.specs.Setting.{Setting, runs_of}
use Rattle.wdf_frames.specs.RunFacts.{TellsRun}
use Rattle.wdf_frames.specs.RunStates.{setting_of, limited_by, totals_by}
use Rattle.wdf_reporting.specs.CountLines.{count_text}
use Rattle.wdf_reporting.specs.Findings.{IsReport}
use Rattle.wdf_reporting.specs.LedgerLine.{ledger_text}
use Rattle.wdf_reporting.specs.Notes.{side_ledger, ledger_texts}
use Rattle.wdf.specs.RunNote.{IsNote, told_by, told_totals}

-- ---- what is left by an error

pub on_err : {T E : Type 0} (r : Result T E) (X : Type 0) → X → OnErr r X
on_err (Ok v) X x = tt
on_err (Err e) X x = x

pub in_err : {T E : Type 0} (r : Result T E) (X Y : Type 0) → (X → Y) → OnErr r X → OnErr r Y
in_err (Ok v) X Y f x = tt
in_err (Err e) X Y f x = f x

-- ---- a part of a text is one of a longer text

pub part_front : (a b : Option (List ℕ)) (xs ys : List ℕ) → AppendsPart a b xs → AppendsPart a b (xs ++ ys)
part_front a b xs ys h =
    let n = h.0 in
    let few : n ≤ length xs = let less = h.1 in omega arith in
    let less : n < length (xs ++ ys) = let long = length-append xs ys in let below = h.1 in omega arith in
    (n, less, subst (Appends a b) (sym (take-append-le n xs ys few)) h.2)

take-behind : (xs ys : List ℕ) (n : ℕ) → take (length xs + n) (xs ++ ys) ≡ xs ++ take n ys
take-behind [] ys n = let e : 0 + n ≡ n = omega arith in rw e refl
take-behind (x ∷ xs) ys n =
    let e : length (x ∷ xs) + n ≡ suc (length xs + n) = omega arith in
    rw e (ap (λ (l : List ℕ). x ∷ l) (take-behind xs ys n))

pub part_behind : (a b c : Option (List ℕ)) (xs ys : List ℕ) → Appends a b xs → AppendsPart b c ys → AppendsPart a c (xs ++ ys)
part_behind a b c xs ys first h =
    let n = h.0 in
    let less : length xs + n < length (xs ++ ys) = let long = length-append xs ys in let below = h.1 in omega arith in
    (length xs + n, less, subst (Appends a c) (sym (take-behind xs ys n)) (Appends-trans a b c xs (take n ys) first h.2))

-- ---- the ledger's lines of a side

range-split : (a m n : ℕ) → range_with_len a (m + n) ≡ range_with_len a m ++ range_with_len (a + m) n
range-split a zero n = let e : 0 + n ≡ n = omega arith in let f : a + 0 ≡ a = omega arith in rw (e, f) refl
range-split a (suc m) n =
    let e : suc m + n ≡ suc (m + n) = omega arith in
    let f : a + suc m ≡ (a + 1) + m = omega arith in
    rw (e, f) (ap (λ (l : List ℕ). a ∷ l) (range-split (a + 1) m n))

abbrev lines_from : Side → (totals : ℕ → Totals) → (from count : ℕ) → List ℕ
lines_from side totals from count = flat_map (λ (channel : ℕ). ledger_text side channel (totals channel)) (range_with_len from count)

side-split : (side : Side) (m n : ℕ) (totals : ℕ → Totals) → side_ledger side (m + n) totals ≡ side_ledger side m totals ++ lines_from side totals m n
side-split side m n totals =
    let line = λ (channel : ℕ). ledger_text side channel (totals channel) in
    let from : 0 + m ≡ m = omega arith in
    ap (flat_map line) (range-split 0 m n)
    ∙ (flat_map-append line (range_with_len 0 m) (range_with_len (0 + m) n) ∙ ap (λ (k : ℕ). side_ledger side m totals ++ lines_from side totals k n) from)

pub side-more : (side : Side) (n : ℕ) (totals : ℕ → Totals) → side_ledger side (n + 1) totals ≡ side_ledger side n totals ++ ledger_text side n (totals n)
side-more side n totals = side-split side n 1 totals ∙ ap (λ (l : List ℕ). side_ledger side n totals ++ l) (append-nil (ledger_text side n (totals n)))

-- the lines up to one, and that one
pub side_goes_on : (a b c : Option (List ℕ)) (side : Side) (n : ℕ) (totals : ℕ → Totals) → Appends a b (side_ledger side n totals)
    → Appends b c (ledger_text side n (totals n)) → Appends a c (side_ledger side (n + 1) totals)
side_goes_on a b c side n totals first line =
    subst (Appends a c) (sym (side-more side n totals)) (Appends-trans a b c (side_ledger side n totals) (ledger_text side n (totals n)) first line)

-- and a part of it, of all lines
pub side_stops : (a b c : Option (List ℕ)) (side : Side) (n runs : ℕ) (totals : ℕ → Totals) → n < runs → Appends a b (side_ledger side n totals)
    → AppendsPart b c (ledger_text side n (totals n)) → AppendsPart a c (side_ledger side runs totals)
side_stops a b c side n runs totals less first line =
    let more : (n + 1) + (runs - (n + 1)) ≡ runs = omega arith in
    let whole : side_ledger side (n + 1) totals ++ lines_from side totals (n + 1) (runs - (n + 1)) ≡ side_ledger side runs totals
    = sym (side-split side (n + 1) (runs - (n + 1)) totals) ∙ ap (λ (k : ℕ). side_ledger side k totals) more in
    let up_to = subst (AppendsPart a c) (sym (side-more side n totals)) (part_behind a b c (side_ledger side n totals) (ledger_text side n (totals n)) first line) in
    subst (AppendsPart a c) whole (part_front a c (side_ledger side (n + 1) totals) (lines_from side totals (n + 1) (runs - (n + 1))) up_to)

-- ---- the note of a run

pub is_note : (n : NetlistValue) (s : Setting) (run : WaveRun) (body report : List ℕ) (frames : ℕ) → setting_of run ≡ s → frames ≡ s.head.frames
    → IsReport n s.networks s.plan report → TellsRun s body (limited_by run) (totals_by run) → IsNote n s body (told_by report frames run)
is_note n s run body report frames set count told tells = record {
  certified = told.certified;
  found = told.found;
  clipped = limited_by run;
  totals = totals_by run;
  tells = tells;
  lines = λ i. told.lines i ++ count_text (count i) (limited_by run) ++ ledger_texts (set i).networks (runs_of (set i)) (told_totals (totals_by run));
}
