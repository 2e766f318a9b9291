-- Words are cut into lines one line at a time.
use Rattle.std.proofs.Common.{◌≡◌, ◌≢◌, ℕ, suc, Bool, true, false, not, eqb, List, [], ◌∷◌, ◌++◌, map, filter, Option, Some, None, Result, Ok, Err, refl, sym, ap, ◌∙◌, subst, arith}
use Rattle.std.specs.Prelude.{All, IfNone, IfSome, IsErr, IsErrAnd}
use Rattle.std.proofs.lemmas.Bool.{eq-eqb, false≢true, ne_eqb}
use Rattle.wdf_text.specs.declared.word.Word.{Word}
use Rattle.wdf_netlist.specs.declared.net_fault.NetFault.{NetFault}
use Rattle.wdf_netlist.specs.declared.draft.Draft.{Draft}
use Rattle.wdf_netlist.specs.declared.read_error.ReadError.{ReadError}
use Rattle.wdf_netlist.specs.declared.read_error.ReadError.TheVariants as errors
use Rattle.wdf_netlist.specs.Places.{IsWordIn}
use Rattle.wdf_netlist.specs.Drafts.{Fails, Holds, Reflects, added, line_in}
use Rattle.wdf_netlist.specs.Lines.{Line, LineWord, before_lines, by_line, is_comment, lines_of, word_in}
use Rattle.wdf_netlist.specs.LineRules.{◌>>=◌, line_said}
use Rattle.wdf_netlist.specs.NetlistText.{all_said}
use Rattle.wdf_netlist.specs.Statements.{Statement}
use Rattle.wdf_netlist.specs.Taking.{DraftOf, IsBehind, IsBehindLine, IsLineTaken, ahead_words, lines_from}

-- the first line of lines that begin with a word
pub record HasHead (w : LineWord) (ls : List Line) : Type 0 where
  pub head : Line
  pub tail : List Line
  pub is : ls ≡ head ∷ tail
  pub first : head.first ≡ w

head_line : (w : LineWord) (ls : List Line) → HasHead w (before_lines w ls)
head_line w [] = record { head = record { first = w; rest = [] }; tail = []; is = refl; first = refl }
head_line w (l ∷ ls) = by (eqb w.line l.first.line) refl
  where
    by : (t : Bool) → eqb w.line l.first.line ≡ t → HasHead w (before_lines w (l ∷ ls))
    by true e = record { head = record { first = w; rest = l.first ∷ l.rest }; tail = ls; is = rw e refl; first = refl }
    by false e = record { head = record { first = w; rest = [] }; tail = l ∷ ls; is = rw e refl; first = refl }

-- a word before a line of another number is a line of its own
alone : (w : LineWord) (l : Line) (ls : List Line) → l.first.line ≢ w.line → before_lines w (l ∷ ls) ≡ record { first = w; rest = [] } ∷ l ∷ ls
alone w l ls other = rw (ne_eqb w.line l.first.line (λ (e : w.line ≡ l.first.line). other (sym e))) refl

-- a word before a line of its number is the first of it
joined : (w : LineWord) (l : Line) (ls : List Line) → w.line ≡ l.first.line → before_lines w (l ∷ ls) ≡ record { first = w; rest = l.first ∷ l.rest } ∷ ls
joined w l ls same = rw (eq-eqb w.line l.first.line same) refl

-- words of a line, with what is behind it
pub cut : (text : List ℕ) (first : Word) (rest : List Word) (ahead : Option Word) (behind : List Word)
    → All (λ (w : Word). w.line ≡ first.line) rest → IsBehindLine first.line ahead behind
    → by_line (map (word_in text) (first ∷ (rest ++ (ahead_words ahead ++ behind)))) ≡ line_in text first rest ∷ by_line (map (word_in text) (ahead_words ahead ++ behind))
cut text first [] None behind same next = rw next refl
cut text first [] (Some v) behind same next =
    let h = head_line (word_in text v) (by_line (map (word_in text) behind)) in
    let other : h.head.first.line ≢ first.line = λ e. next (sym (ap (λ (w : LineWord). w.line) h.first) ∙ e) in
    ap (before_lines (word_in text first)) h.is ∙ alone (word_in text first) h.head h.tail other ∙ ap (λ (ls : List Line). record { first = word_in text first; rest = [] } ∷ ls) (sym h.is)
cut text first (r ∷ rest) ahead behind same next =
    let here : r.line ≡ first.line = same 0 r (omega arith) in
    let more : All (λ (w : Word). w.line ≡ r.line) rest = λ k d within. same (suc k) d (omega arith) ∙ sym here in
    let P : ℕ → Type 0 = λ (n : ℕ). IsBehindLine n ahead behind in
    ap (before_lines (word_in text first)) (cut text r rest ahead behind more (subst P (sym here) next))
    ∙ joined (word_in text first) (line_in text r rest) (by_line (map (word_in text) (ahead_words ahead ++ behind))) (sym here)

-- a line before others is judged first; a comment is passed over
added_first : (before : List Statement) (l : Line) (ls : List Line) → all_said before (filter (λ (l : Line). not (is_comment l)) (l ∷ ls))
    ≡ (added before l >>= λ (after : List Statement). all_said after (filter (λ (l : Line). not (is_comment l)) ls))
added_first before l ls = by (is_comment l) refl
  where
    others : List Line
    others = filter (λ (l : Line). not (is_comment l)) ls

    chained : (r : Result Statement NetFault) → (r >>= λ (s : Statement). all_said (before ++ s ∷ []) others)
        ≡ ((r >>= λ (s : Statement). Ok (before ++ s ∷ [])) >>= λ (after : List Statement). all_said after others)
    chained (Ok s) = refl
    chained (Err e) = refl

    by : (t : Bool) → is_comment l ≡ t → all_said before (filter (λ (l : Line). not (is_comment l)) (l ∷ ls))
        ≡ (added before l >>= λ (after : List Statement). all_said after (filter (λ (l : Line). not (is_comment l)) ls))
    by true e = rw e refl
    by false e = rw e (chained (line_said before l))

pub next_line : (text : List ℕ) (before : List Statement) (first : Word) (words rest : List Word) (ahead : Option Word) (behind : List Word)
    → words ≡ rest ++ (ahead_words ahead ++ behind) → All (λ (w : Word). w.line ≡ first.line) rest → IsBehindLine first.line ahead behind
    → all_said before (lines_from text (first ∷ words)) ≡ (added before (line_in text first rest) >>= λ (after : List Statement). all_said after (lines_from text (ahead_words ahead ++ behind)))
next_line text before first words rest ahead behind is same next =
    ap (λ (ws : List Word). all_said before (lines_from text (first ∷ ws))) is
    ∙ ap (λ (ls : List Line). all_said before (filter (λ (l : Line). not (is_comment l)) ls)) (cut text first rest ahead behind same next)
    ∙ added_first before (line_in text first rest) (by_line (map (word_in text) (ahead_words ahead ++ behind)))

-- ---- behind one line more

ended : (line : ℕ) (ahead : Option Word) (behind : List Word) → IsBehindLine line ahead behind → IfNone ahead (behind ≡ [])
ended line None behind next = next
ended line (Some w) behind next = tt

pub behind_more : {U : Type 0} (d e : Draft) (text : List ℕ) (first : Word) (words rest : List Word) (ahead : Option Word) (behind : List Word) (u : U)
    → IsBehind d text (Some first) words → IsLineTaken first words rest ahead behind → IfSome ahead (IsWordIn text)
    → ((before : List Statement) → Reflects d before → Holds e (Ok u) (added before (line_in text first rest))) → IsBehind e text ahead behind
behind_more d e text first words rest ahead behind u b t within said =
    let h = said b.before b.reflects in
    let next : all_said b.before (lines_from text (first ∷ words)) ≡ all_said h.0 (lines_from text (ahead_words ahead ++ behind)) =
    next_line text b.before first words rest ahead behind t.words t.same t.next
    ∙ ap (λ (r : Result (List Statement) NetFault). r >>= λ (after : List Statement). all_said after (lines_from text (ahead_words ahead ++ behind))) h.1 in
    record { before = h.0; reflects = h.2; same = sym next ∙ b.same; within = within; end = ended first.line ahead behind t.next }

pub behind_fault : (d : Draft) (text : List ℕ) (first : Word) (words rest : List Word) (ahead : Option Word) (behind : List Word) (error : ReadError)
    → IsBehind d text (Some first) words → IsLineTaken first words rest ahead behind
    → ((before : List Statement) → Reflects d before → Fails error (added before (line_in text first rest))) → Fails error (all_said [] (lines_of text))
behind_fault d text first words rest ahead behind (errors.Fault f) b t said =
    sym b.same ∙ next_line text b.before first words rest ahead behind t.words t.same t.next
    ∙ ap (λ (r : Result (List Statement) NetFault). r >>= λ (after : List Statement). all_said after (lines_from text (ahead_words ahead ++ behind))) (said b.before b.reflects)
behind_fault d text first words rest ahead behind errors.NoMemory b t said = tt

-- a fault is handed on as it is
pub fails_from : (r : Result Draft ReadError) (error : ReadError) (said : Result (List Statement) NetFault) → IsErr r × IsErrAnd r (λ (x : ReadError). x ≡ error) → Fails error said → DraftOf r said
fails_from (Ok d) error said h f = absurd (false≢true h.0)
fails_from (Err x) error said h f = subst (λ (y : ReadError). Fails y said) (sym h.1) f
