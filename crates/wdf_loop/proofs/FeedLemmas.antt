-- One feed more, and what the feeds leave.
use Rattle.std.proofs.Common.{◌≡◌, ℕ, zero, suc, ◌+◌, ◌<◌, ◌≤◌, Bool, true, false, not, ◌&&◌, ◌==◌, if◌then◌else◌, List, [], ◌∷◌, length, drop, refl, ap, sym, ◌∙◌, subst, arith}
use Rattle.std.specs.Prelude.{ℤ, pos, slice_set, slice_index_or}
use Rattle.std.proofs.lemmas.Bool.{cases_lt, eq-eqb, ne_eqb}
use mathlib.Core.Logic.{◌⊎◌, inl, inr}
use Rattle.wdf_law.specs.Elements.{signed}
use Rattle.wdf_loop.specs.declared.cell.Cell.{Cell}
use Rattle.wdf_loop.specs.declared.chain.Chain.{Chain}
use Rattle.wdf_loop.specs.declared.feed.Feed.{Feed}
use Rattle.wdf_loop.specs.Cells.{fed_with, given, under_with}
use Rattle.wdf_loop.specs.Layouts.{fed_by, feed_at, is_beside, is_under}
use Rattle.wdf_loop.specs.RunCells.{cell_in, wave_in}
use Rattle.wdf_loop.specs.Runs.{cell_at}
use Rattle.wdf_loop.specs.Shows.{AreFed, IsFedAnew, fed_or, values_in}
use Rattle.wdf_loop.proofs.PassLemmas.{row_here, row_other}

-- ---- one feed more, in front of those that were put

-- at its stage
feed-here : (f : Feed) (fs : List Feed) (z : ℤ) (zs : List ℤ) (c d : Cell) → IsFedAnew fs zs f.stage c d → IsFedAnew (f ∷ fs) (z ∷ zs) f.stage c (given f z d)
feed-here f fs z zs c d old = by f.beside refl
  where
    here : (f.stage == f.stage) ≡ true
    here = eq-eqb f.stage f.stage refl

    by : (b : Bool) → f.beside ≡ b → IsFedAnew (f ∷ fs) (z ∷ zs) f.stage c (given f z d)
    by true e =
        let cell : given f z d ≡ fed_with (signed f.flip z) d = ap (λ (b : Bool). if b then fed_with (signed f.flip z) d else under_with (signed f.flip z) d) e in
        let is : is_beside f.stage f ≡ true = λ i. e i && here i in
        let not_is : is_under f.stage f ≡ false = λ i. not (e i) && here i in
        record {
          fed = ap (λ (x : Cell). x.fed) cell ∙ sym (ap (λ (b : Bool). if b then signed f.flip z else fed_or c.fed (is_beside f.stage) fs zs) is);
          under = ap (λ (x : Cell). x.under) cell ∙ (old.under ∙ sym (ap (λ (b : Bool). if b then signed f.flip z else fed_or c.under (is_under f.stage) fs zs) not_is));
          up = ap (λ (x : Cell). x.up) cell ∙ old.up;
          below = ap (λ (x : Cell). x.below) cell ∙ old.below;
          raw = ap (λ (x : Cell). x.raw) cell ∙ old.raw;
          down = ap (λ (x : Cell). x.down) cell ∙ old.down;
          onward = ap (λ (x : Cell). x.onward) cell ∙ old.onward;
        }
    by false e =
        let cell : given f z d ≡ under_with (signed f.flip z) d = ap (λ (b : Bool). if b then fed_with (signed f.flip z) d else under_with (signed f.flip z) d) e in
        let not_is : is_beside f.stage f ≡ false = λ i. e i && here i in
        let is : is_under f.stage f ≡ true = λ i. not (e i) && here i in
        record {
          fed = ap (λ (x : Cell). x.fed) cell ∙ (old.fed ∙ sym (ap (λ (b : Bool). if b then signed f.flip z else fed_or c.fed (is_beside f.stage) fs zs) not_is));
          under = ap (λ (x : Cell). x.under) cell ∙ sym (ap (λ (b : Bool). if b then signed f.flip z else fed_or c.under (is_under f.stage) fs zs) is);
          up = ap (λ (x : Cell). x.up) cell ∙ old.up;
          below = ap (λ (x : Cell). x.below) cell ∙ old.below;
          raw = ap (λ (x : Cell). x.raw) cell ∙ old.raw;
          down = ap (λ (x : Cell). x.down) cell ∙ old.down;
          onward = ap (λ (x : Cell). x.onward) cell ∙ old.onward;
        }

and_false : (b : Bool) → (b && false) ≡ false
and_false true = refl
and_false false = refl

-- and elsewhere
feed-other : (f : Feed) (fs : List Feed) (z : ℤ) (zs : List ℤ) (j : ℕ) (c d : Cell) → (f.stage == j) ≡ false → IsFedAnew fs zs j c d → IsFedAnew (f ∷ fs) (z ∷ zs) j c d
feed-other f fs z zs j c d apart old =
    let beside : is_beside j f ≡ false = ap (λ (b : Bool). f.beside && b) apart ∙ and_false f.beside in
    let under : is_under j f ≡ false = ap (λ (b : Bool). not f.beside && b) apart ∙ and_false (not f.beside) in
    record {
      fed = old.fed ∙ sym (ap (λ (b : Bool). if b then signed f.flip z else fed_or c.fed (is_beside j) fs zs) beside);
      under = old.under ∙ sym (ap (λ (b : Bool). if b then signed f.flip z else fed_or c.under (is_under j) fs zs) under);
      up = old.up;
      below = old.below;
      raw = old.raw;
      down = old.down;
      onward = old.onward;
    }

-- in the row of its stage
pub feed_more : (fs : List Feed) (zs : List ℤ) (f : Feed) (z : ℤ) (j c : ℕ) (before cells : List (List Cell)) (row : List Cell) → f.stage < length cells
    → cell_in row c ≡ given f z (cell_at cells f.stage c) → ((k : ℕ) → IsFedAnew fs zs k (cell_at before k c) (cell_at cells k c))
    → IsFedAnew (f ∷ fs) (z ∷ zs) j (cell_at before j c) (cell_at (slice_set cells f.stage row) j c)
feed_more fs zs f z j c before cells row inside put old = by (cases_lt j f.stage) (cases_lt f.stage j)
  where
    other : (j < f.stage) ⊎ (f.stage < j) → (f.stage == j) ≡ false → IsFedAnew (f ∷ fs) (z ∷ zs) j (cell_at before j c) (cell_at (slice_set cells f.stage row) j c)
    other side apart =
        subst (λ (r : List Cell). IsFedAnew (f ∷ fs) (z ∷ zs) j (cell_at before j c) (cell_in r c)) (sym (row_other cells f.stage row j side))
        (feed-other f fs z zs j (cell_at before j c) (cell_at cells j c) apart (old j))

    by : (j < f.stage) ⊎ (f.stage ≤ j) → (f.stage < j) ⊎ (j ≤ f.stage) → IsFedAnew (f ∷ fs) (z ∷ zs) j (cell_at before j c) (cell_at (slice_set cells f.stage row) j c)
    by (inl less) side = other (inl less) (ne_eqb f.stage j (λ e. absurd (omega arith)))
    by (inr least) (inl more) = other (inr more) (ne_eqb f.stage j (λ e. absurd (omega arith)))
    by (inr least) (inr most) =
        let at : f.stage ≡ j = omega arith in
        subst (λ (k : ℕ). IsFedAnew (f ∷ fs) (z ∷ zs) k (cell_at before k c) (cell_at (slice_set cells f.stage row) k c)) at
        (subst (λ (d : Cell). IsFedAnew (f ∷ fs) (z ∷ zs) f.stage (cell_at before f.stage c) d) (sym (ap (λ (x : List Cell). cell_in x c) (row_here cells f.stage row inside) ∙ put))
        (feed-here f fs z zs (cell_at before f.stage c) (cell_at cells f.stage c) (old f.stage)))

-- the feeds and the values from a number on
pub feeds_from : (feeds : List Feed) (i : ℕ) → i < length feeds → drop i feeds ≡ feed_at feeds i ∷ drop (i + 1) feeds
feeds_from [] i h = absurd (omega arith)
feeds_from (f ∷ fs) zero h = refl
feeds_from (f ∷ fs) (suc i) h = let next : suc i + 1 ≡ suc (i + 1) = omega arith in rw next (feeds_from fs i (omega arith))

pub values_from : (rows : List (List ℤ)) (c i : ℕ) → i < length rows → drop i (values_in rows c) ≡ wave_in (slice_index_or rows i []) c ∷ drop (i + 1) (values_in rows c)
values_from [] c i h = absurd (omega arith)
values_from (r ∷ rs) c zero h = refl
values_from (r ∷ rs) c (suc i) h = let next : suc i + 1 ≡ suc (i + 1) = omega arith in rw next (values_from rs c i (omega arith))

-- before any
pub feed_none : (j : ℕ) (c : Cell) → IsFedAnew [] [] j c c
feed_none j c = record { fed = refl; under = refl; up = refl; below = refl; raw = refl; down = refl; onward = refl }

-- ---- so the parts that were fed other values are fed these

pub fed_nothing : (is : Feed → Bool) (fs : List Feed) → fed_by is fs [] ≡ pos 0
fed_nothing is [] = refl
fed_nothing is (f ∷ fs) = refl

pub fed_or-new : (is : Feed → Bool) (fs : List Feed) (old zs : List ℤ) → length zs ≡ length fs → fed_or (fed_by is fs old) is fs zs ≡ fed_by is fs zs
fed_or-new is [] old zs h = refl
fed_or-new is (f ∷ fs) old [] h = absurd (omega arith)
fed_or-new is (f ∷ fs) old (z ∷ zs) h = by (λ ys. fed_or-new is fs ys zs (omega arith)) (is f) refl old
  where
    by : ((ys : List ℤ) → fed_or (fed_by is fs ys) is fs zs ≡ fed_by is fs zs) → (b : Bool) → is f ≡ b → (ys : List ℤ)
        → fed_or (fed_by is (f ∷ fs) ys) is (f ∷ fs) (z ∷ zs) ≡ fed_by is (f ∷ fs) (z ∷ zs)
    by rest true e ys =
        ap (λ (b : Bool). if b then signed f.flip z else fed_or (fed_by is (f ∷ fs) ys) is fs zs) e ∙ sym (ap (λ (b : Bool). if b then signed f.flip z else fed_by is fs zs) e)
    by rest false e [] =
        ap (λ (b : Bool). if b then signed f.flip z else fed_or (pos 0) is fs zs) e
        ∙ ((λ i. fed_or (sym (fed_nothing is fs) i) is fs zs) ∙ (rest [] ∙ sym (ap (λ (b : Bool). if b then signed f.flip z else fed_by is fs zs) e)))
    by rest false e (y ∷ ys) =
        ap (λ (b : Bool). if b then signed f.flip z else fed_or (fed_by is (f ∷ fs) (y ∷ ys)) is fs zs) e
        ∙ ((λ i. fed_or (ap (λ (b : Bool). if b then signed f.flip y else fed_by is fs ys) e i) is fs zs)
        ∙ (rest ys ∙ sym (ap (λ (b : Bool). if b then signed f.flip z else fed_by is fs zs) e)))

pub fed_anew : (root : ℕ) (chains : List Chain) (feeds : List Feed) (old zs : List ℤ) (before cells : List (List Cell)) (c : ℕ) → length zs ≡ length feeds → AreFed root chains feeds old before c
    → ((j : ℕ) → IsFedAnew feeds zs j (cell_at before j c) (cell_at cells j c)) → AreFed root chains feeds zs cells c
fed_anew root chains feeds old zs before cells c each fed anew = record {
  beside = λ j h free. (anew j).fed ∙ ((λ i. fed_or (fed.beside j h free i) (is_beside j) feeds zs) ∙ fed_or-new (is_beside j) feeds old zs each);
  under = λ j h. (anew j).under ∙ ((λ i. fed_or (fed.under j h i) (is_under j) feeds zs) ∙ fed_or-new (is_under j) feeds old zs each);
}
