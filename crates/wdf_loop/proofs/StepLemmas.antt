-- The sources fed and a frame done: the cells show what follows.
use Rattle.std.proofs.Common.{◌≡◌, ℕ, suc, ◌+◌, ◌<◌, ◌≤◌, Bool, true, false, List, [], ◌∷◌, length, refl, ap, sym, ◌∙◌, subst, arith}
use Rattle.std.specs.Prelude.{ℤ, unsigned_abs}
use Rattle.std.proofs.lemmas.Bool.{cases_lt}
use mathlib.Core.Logic.{◌⊎◌, inl, inr}
use Rattle.wdf_law.specs.Network.{unit_of}
use Rattle.wdf_sched.specs.Operations.{Slots}
use Rattle.wdf_sched.specs.Schedules.{ScheduleValue}
use Rattle.wdf_loop.specs.declared.cell.Cell.{Cell}
use Rattle.wdf_loop.specs.declared.chain.Chain.{Chain}
use Rattle.wdf_loop.specs.declared.feed.Feed.{Feed}
use Rattle.wdf_loop.specs.declared.mark.Mark.{Mark}
use Rattle.wdf_loop.specs.declared.share.Share.{Share}
use Rattle.wdf_loop.specs.Frames.{AllRun, AreDone, AreSigns, Begins, IsDone, IsRun, RunValues}
use Rattle.wdf_loop.specs.Layouts.{HasChain, IsElement, IsLayout, fed_by, is_beside, mark_at, share_at}
use Rattle.wdf_loop.specs.Runs.{AreShares, cell_at}
use Rattle.wdf_loop.specs.Shows.{AllShow, AreFed, HaveBeenFed, IsFedAnew, values_in}
use Rattle.wdf_loop.specs.Steps.{AllCanStep, CanStep, HaveStepped}
use Rattle.wdf_loop.proofs.FeedLemmas.{fed_anew}
use Rattle.wdf_loop.proofs.ShowLemmas.{begins, fed_after, is-run, run_of, shown_after}

-- ---- what a layout has for the passes

pub are-shares : (s : ScheduleValue) (shares : List Share) (marks : List Mark) (chains : List Chain) (feeds : List Feed) → IsLayout s shares marks chains feeds → AreShares (unit_of s.net) shares
are-shares s shares marks chains feeds lay j h = record { whole = whole (cases_lt j lay.root); sign = sign (lay.beside j inside) }
  where
    inside : j ≤ lay.root
    inside = let count = lay.shares_count in omega arith

    kind : j < lay.root → (b : Bool) → (share_at shares j).parallel ≡ b → (share_at shares j).m + (share_at shares j).n ≡ unit_of s.net
    kind less true e = ((lay.junctions j less).1 e).whole
    kind less false e = ((lay.junctions j less).0 e).whole

    whole : (j < lay.root) ⊎ (lay.root ≤ j) → (share_at shares j).m + (share_at shares j).n ≡ unit_of s.net
    whole (inl less) = kind less (share_at shares j).parallel refl
    whole (inr more) =
        let count = lay.shares_count in
        let at : lay.root ≡ j = omega arith in
        subst (λ (k : ℕ). (share_at shares k).m + (share_at shares k).n ≡ unit_of s.net) at lay.turn.whole

    sign : IsElement s (mark_at marks j).up (mark_at marks j).down (share_at shares j).sign (fed_by (is_beside j) feeds) ⊎ HasChain chains j (share_at shares j).sign
        → unsigned_abs (share_at shares j).sign ≤ 1
    sign (inl e) = e.size
    sign (inr c) = let none : unsigned_abs (share_at shares j).sign ≡ 0 = ap unsigned_abs c.still in omega arith

pub are-signs : (s : ScheduleValue) (shares : List Share) (marks : List Mark) (chains : List Chain) (feeds : List Feed) → IsLayout s shares marks chains feeds → AreSigns chains
are-signs s shares marks chains feeds lay t h = (lay.bottoms t h).size

-- ---- the cells when the sources are fed

shows_anew : (root : ℕ) (shares : List Share) (marks : List Mark) (feeds : List Feed) (zs : List ℤ) (g : Slots) (before cells : List (List Cell)) (c : ℕ) → AllShow root shares marks g before c
    → ((j : ℕ) → IsFedAnew feeds zs j (cell_at before j c) (cell_at cells j c)) → AllShow root shares marks g cells c
shows_anew root shares marks feeds zs g before cells c shows anew = record {
  stages = λ j h.
      let a = anew j in
      let s = shows.stages j h in
      record { up = a.up ∙ s.up; below = a.below ∙ s.below; down = a.down ∙ s.down; onward = a.onward ∙ s.onward };
  raws = λ j h e. (anew j).raw ∙ shows.raws j h e;
}

-- one value of each source
values-long : (rows : List (List ℤ)) (c : ℕ) → length (values_in rows c) ≡ length rows
values-long [] c = refl
values-long (row ∷ rows) c = ap suc (values-long rows c)

-- the run that the frame then makes
record IsReady (q root : ℕ) (shares : List Share) (chains : List Chain) (r : RunValues) (cells : List (List Cell)) (c : ℕ) : Type 0 where
  run : IsRun q root shares chains r
  starts : Begins q root shares chains r cells c

ready : (q root : ℕ) (shares : List Share) (chains : List Chain) (feeds : List Feed) (before cells : List (List Cell)) (zs : List ℤ) (c : ℕ) → length zs ≡ length feeds
    → ((j : ℕ) → IsFedAnew feeds zs j (cell_at before j c) (cell_at cells j c)) → (p : CanStep q root shares chains feeds before zs c)
    → IsReady q root shares chains (run_of p.layout.root shares p.marks chains p.before p.after) cells c
ready q root shares chains feeds before cells zs c each anew p =
    let lay = p.layout in
    let shows = shows_anew p.layout.root shares p.marks feeds zs p.before before cells c p.shows anew in
    let fed = fed_anew p.layout.root chains feeds p.old zs before cells c each p.fed anew in
    let own : IsReady (unit_of p.schedule.net) p.layout.root shares chains (run_of p.layout.root shares p.marks chains p.before p.after) cells c = record {
      run = is-run p.schedule shares p.marks chains feeds p.limit p.before p.after p.layout p.words p.follows.holds p.follows.within;
      starts = begins p.schedule shares p.marks chains feeds p.limit p.states zs p.before p.after cells c p.layout p.words p.follows shows fed;
    } in
    subst (λ (u : ℕ). IsReady u root shares chains (run_of p.layout.root shares p.marks chains p.before p.after) cells c) p.unit
    (subst (λ (k : ℕ). IsReady (unit_of p.schedule.net) k shares chains (run_of p.layout.root shares p.marks chains p.before p.after) cells c) p.last own)

pub all_run : (count q root : ℕ) (shares : List Share) (chains : List Chain) (feeds : List Feed) (before cells : List (List Cell)) (rows : List (List ℤ)) → length rows ≡ length feeds
    → AllCanStep count q root shares chains feeds before rows → HaveBeenFed count feeds rows before cells → AllRun count q root shares chains cells
all_run count q root shares chains feeds before cells rows each all fed c small =
    let p = all c small in
    let long : length (values_in rows c) ≡ length feeds = values-long rows c ∙ each in
    let own = ready q root shares chains feeds before cells (values_in rows c) c long (fed c small) (all c small) in
    (run_of p.layout.root shares p.marks chains p.before p.after, own.run, own.starts)

pub all_stepped : (count q root : ℕ) (shares : List Share) (chains : List Chain) (feeds : List Feed) (before cells after : List (List Cell)) (rows : List (List ℤ)) → length rows ≡ length feeds
    → HaveBeenFed count feeds rows before cells → AreDone count q root shares chains cells after → HaveStepped count q root shares chains feeds before rows after
all_stepped count q root shares chains feeds before cells after rows each fed all c small p =
    let long : length (values_in rows c) ≡ length feeds = values-long rows c ∙ each in
    let r = run_of p.layout.root shares p.marks chains p.before p.after in
    let own = ready q root shares chains feeds before cells (values_in rows c) c long (fed c small) p in
    let done = all c small (run_of p.layout.root shares p.marks chains p.before p.after) own.run own.starts in
    let anew = fed_anew p.layout.root chains feeds p.old (values_in rows c) before cells c long p.fed (fed c small) in
    let there : AreFed root chains feeds (values_in rows c) cells c = subst (λ (k : ℕ). AreFed k chains feeds (values_in rows c) cells c) p.last anew in
    let behind = fed_after q root shares chains feeds (run_of p.layout.root shares p.marks chains p.before p.after) (values_in rows c) cells after c own.starts done there in
    let shown : AllShow p.layout.root shares p.marks p.after after c =
    shown_after p.layout.root shares p.marks chains p.before p.after cells after c
    (subst (λ (k : ℕ). IsDone k shares (run_of p.layout.root shares p.marks chains p.before p.after) cells after c) (sym p.last) done) in
    (shown, subst (λ (k : ℕ). AreFed k chains feeds (values_in rows c) after c) (sym p.last) behind)
