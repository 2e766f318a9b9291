-- Cells that show values tell the value of each slot that is shown.
use Rattle.std.proofs.Common.{◌≡◌, ℕ, zero, suc, ◌<◌, ◌≤◌, Bool, true, false, ◌&&◌, ◌==◌, cond, if◌then◌else◌, List, [], ◌∷◌, length, refl, ap, ◌∙◌, subst, arith}
use Rattle.std.specs.Prelude.{ℤ}
use mathlib.Core.Logic.{◌⊎◌, inl, inr}
use Rattle.std.proofs.lemmas.Bool.{cases_lt, eqb-true, eq-eqb}
use Rattle.wdf_sched.specs.Operations.{Slots}
use Rattle.wdf_sched.specs.Schedules.{ScheduleValue}
use Rattle.wdf_loop.specs.declared.cell.Cell.{Cell}
use Rattle.wdf_loop.specs.declared.chain.Chain.{Chain}
use Rattle.wdf_loop.specs.declared.feed.Feed.{Feed}
use Rattle.wdf_loop.specs.declared.mark.Mark.{Mark}
use Rattle.wdf_loop.specs.declared.share.Share.{Share}
use Rattle.wdf_loop.specs.Layouts.{IsLayout, ShowsSlot, mark_at, share_at}
use Rattle.wdf_loop.specs.RunCells.{cell_in}
use Rattle.wdf_loop.specs.Runs.{cell_at}
use Rattle.wdf_loop.specs.Shows.{AllShow, Shows}
use Rattle.wdf_loop.specs.SlotValues.{value_in, value_or}

-- a cell shows what its stage has
record ShowsWhole (s : Share) (k : Mark) (g : Slots) (d : Cell) : Type 0 where
  waves : Shows k g d
  raw : s.parallel ≡ true → d.raw ≡ g k.raw

-- one of a choice
chosen : (i j : ℕ) (d z : ℤ) (g : Slots) → d ≡ g j → ((j ≡ i → ⊥) → z ≡ g i) → (if j == i then d else z) ≡ g i
chosen i j d z g own rest = by (j == i) refl
  where
    by : (b : Bool) → (j == i) ≡ b → cond b d z ≡ g i
    by true e = own ∙ ap g (eqb-true j i e)
    by false e = rest (λ same. let yes = eq-eqb j i same in absurd (cc))

chosen_if : (p : Bool) (i j : ℕ) (d z : ℤ) (g : Slots) → (p ≡ true → d ≡ g j) → (((p ≡ true) × (j ≡ i) → ⊥) → z ≡ g i) → (if p && (j == i) then d else z) ≡ g i
chosen_if true i j d z g own rest = chosen i j d z g (own refl) (λ none. rest (λ h. none h.1))
chosen_if false i j d z g own rest = rest (λ h. let no = h.0 in absurd (cc))

value_here : (z : ℤ) (s : Share) (k : Mark) (g : Slots) (d : Cell) (i : ℕ) → ShowsWhole s k g d → ((ShowsSlot s k i → ⊥) → z ≡ g i) → value_or z s k d i ≡ g i
value_here z s k g d i own rest =
    chosen i k.up d.up (if k.below == i then d.below else if k.down == i then d.down else if k.onward == i then d.onward else if s.parallel && (k.raw == i) then d.raw else z) g own.waves.up
    (λ a. chosen i k.below d.below (if k.down == i then d.down else if k.onward == i then d.onward else if s.parallel && (k.raw == i) then d.raw else z) g own.waves.below
    (λ b. chosen i k.down d.down (if k.onward == i then d.onward else if s.parallel && (k.raw == i) then d.raw else z) g own.waves.down
    (λ x. chosen i k.onward d.onward (if s.parallel && (k.raw == i) then d.raw else z) g own.waves.onward
    (λ y. chosen_if s.parallel i k.raw d.raw z g own.raw
    (λ w. rest (none a b x y w))))))
  where
    none : (k.up ≡ i → ⊥) → (k.below ≡ i → ⊥) → (k.down ≡ i → ⊥) → (k.onward ≡ i → ⊥) → ((s.parallel ≡ true) × (k.raw ≡ i) → ⊥) → ShowsSlot s k i → ⊥
    none a b x y w (inl h) = a h
    none a b x y w (inr (inl h)) = b h
    none a b x y w (inr (inr (inl h))) = x h
    none a b x y w (inr (inr (inr (inl h)))) = y h
    none a b x y w (inr (inr (inr (inr h)))) = w h

value_shown : (shares : List Share) (marks : List Mark) (g : Slots) (cells : List (List Cell)) (c i : ℕ) → length shares ≡ length marks → length cells ≡ length marks
    → ((j : ℕ) → j < length marks → ShowsWhole (share_at shares j) (mark_at marks j) g (cell_at cells j c))
    → (j : ℕ) → j < length marks → ShowsSlot (share_at shares j) (mark_at marks j) i → value_in shares marks cells c i ≡ g i
value_shown [] [] g cells c i same long all j small shown = absurd (omega (arith, small))
value_shown [] (k ∷ marks) g cells c i same long all j small shown = absurd (omega (arith, same))
value_shown (s ∷ shares) [] g cells c i same long all j small shown = absurd (omega (arith, small))
value_shown (s ∷ shares) (k ∷ marks) g [] c i same long all j small shown = absurd (omega (arith, long))
value_shown (s ∷ shares) (k ∷ marks) g (row ∷ cells) c i same long all zero small shown =
    value_here (value_in shares marks cells c i) s k g (cell_in row c) i (all 0 (omega arith)) (λ none. absurd (none shown))
value_shown (s ∷ shares) (k ∷ marks) g (row ∷ cells) c i same long all (suc j) small shown =
    value_here (value_in shares marks cells c i) s k g (cell_in row c) i (all 0 (omega arith))
    (λ none. value_shown shares marks g cells c i (omega (arith, same)) (omega (arith, long)) (λ m h. all (suc m) (omega (arith, h))) j (omega (arith, small)) shown)

-- so it is with each slot of a layout
pub value_is : (s : ScheduleValue) (shares : List Share) (marks : List Mark) (chains : List Chain) (feeds : List Feed) (g : Slots) (cells : List (List Cell)) (c i : ℕ) → (lay : IsLayout s shares marks chains feeds)
    → length cells ≡ length shares → AllShow lay.root shares marks g cells c → i < s.slot_count → value_in shares marks cells c i ≡ g i
value_is s shares marks chains feeds g cells c i lay long shows small =
    let place = lay.shown i small in
    value_shown shares marks g cells c i (omega (arith, lay.shares_count, lay.marks_count)) (omega (arith, long, lay.shares_count, lay.marks_count))
    (λ j h. let most : j ≤ lay.root = omega (arith, h, lay.marks_count) in record { waves = shows.stages j most; raw = λ e. raw j most e (cases_lt j lay.root) })
    place.0 (omega (arith, place.1.0, lay.marks_count)) place.1.1
  where
    raw : (j : ℕ) → j ≤ lay.root → (share_at shares j).parallel ≡ true → (j < lay.root) ⊎ (lay.root ≤ j) → (cell_at cells j c).raw ≡ g (mark_at marks j).raw
    raw j most e (inl less) = shows.raws j less e
    raw j most e (inr high) =
        let at : j ≡ lay.root = omega (arith, most, high) in
        let own : (share_at shares lay.root).parallel ≡ true = subst (λ (x : ℕ). (share_at shares x).parallel ≡ true) at e in
        let plain = lay.plain in
        absurd (cc)
