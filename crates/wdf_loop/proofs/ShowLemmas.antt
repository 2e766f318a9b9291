-- The values of a schedule's slots in a frame are those of a run over its layout, and the cells that have these show them.
use Rattle.std.proofs.Common.{◌≡◌, ℕ, ◌+◌, ◌*◌, ◌<◌, ◌≤◌, ◌^◌, Bool, true, false, if◌then◌else◌, List, length, refl, ap, sym, ◌∙◌, subst, arith}
use Rattle.std.specs.Prelude.{ℤ, pos, ◌+ℤ◌, ◌-ℤ◌, ◌*ℤ◌, unsigned_abs, IsTrue}
use Rattle.std.proofs.Math.Dec.{ltb}
use Rattle.std.proofs.Math.Nat.{mul-le-mul_left}
use Rattle.std.proofs.lemmas.Bool.{cases_lt, lt-ltb, le-ltb}
use mathlib.Core.Logic.{◌⊎◌, inl, inr}
use Rattle.wdf_algebra.proofs.RingLaws.{linear, zero-mul}
use Rattle.wdf_law.specs.Network.{unit_of, elements, has_reactance}
use Rattle.wdf_sched.specs.Operations.{AreWithin, HoldAll, IsAtMost, Slots}
use Rattle.wdf_sched.specs.Schedules.{ScheduleValue}
use Rattle.wdf_loop.specs.declared.cell.Cell.{Cell}
use Rattle.wdf_loop.specs.declared.chain.Chain.{Chain}
use Rattle.wdf_loop.specs.declared.feed.Feed.{Feed}
use Rattle.wdf_loop.specs.declared.mark.Mark.{Mark}
use Rattle.wdf_loop.specs.declared.share.Share.{Share}
use Rattle.wdf_loop.specs.Cells.{IsWord}
use Rattle.wdf_loop.specs.Frames.{Begins, IsDone, IsFed, IsRun, RunValues, end_of, first_of, to_of}
use Rattle.wdf_loop.specs.Layouts.{HasChain, IsElement, IsLayout, IsLinked, chain_at, fed_by, is_beside, is_under, mark_at, share_at}
use Rattle.wdf_loop.specs.Runs.{IsClimb, IsDescent, IsJunction, Values}
use Rattle.wdf_loop.specs.Shows.{AllShow, AreFed, Follows}
use Rattle.wdf_loop.proofs.LineLemmas.{end-root, first-end, last_or_next}

-- ---- the values of a run: those of the slots

abbrev pub stage_values : List Share → List Mark → Slots → Slots → ℕ → Values
stage_values shares marks before g j = record {
  fed = g (mark_at marks j).up -ℤ (share_at shares j).sign *ℤ before (mark_at marks j).down;
  up = g (mark_at marks j).up;
  below = g (mark_at marks j).below;
  raw = g (mark_at marks j).raw;
  out = g (mark_at marks j).out;
  sent = g (mark_at marks j).sent;
  down = g (mark_at marks j).down;
  onward = g (mark_at marks j).onward;
}

-- the slots at the top of a chain
abbrev pub top_up : ℕ → List Mark → List Chain → ℕ → ℕ
top_up root marks chains t = if ltb (t + 1) (length chains) then (mark_at marks (to_of chains t)).up else (mark_at marks root).below

abbrev pub top_down : ℕ → List Mark → List Chain → ℕ → ℕ
top_down root marks chains t = if ltb (t + 1) (length chains) then (mark_at marks (to_of chains t)).down else (mark_at marks root).onward

abbrev pub run_of : ℕ → List Share → List Mark → List Chain → Slots → Slots → RunValues
run_of root shares marks chains before g = record {
  stage = stage_values shares marks before g;
  height = λ t j. if ltb j (end_of chains t) then g (mark_at marks j).below else g (top_up root marks chains t);
  depth = λ t j. if ltb j (end_of chains t) then g (mark_at marks j).onward else g (top_down root marks chains t);
}

inside : (a b : ℕ) (x y : ℤ) → a < b → (if ltb a b then x else y) ≡ x
inside a b x y h = ap (λ (c : Bool). if c then x else y) (lt-ltb a b h)

outside : (a b : ℕ) (x y : ℤ) → b ≤ a → (if ltb a b then x else y) ≡ y
outside a b x y h = ap (λ (c : Bool). if c then x else y) (le-ltb a b h)

top_more : (a b x y : ℕ) → a < b → (if ltb a b then x else y) ≡ x
top_more a b x y h = ap (λ (c : Bool). if c then x else y) (lt-ltb a b h)

top_last : (a b x y : ℕ) → b ≤ a → (if ltb a b then x else y) ≡ y
top_last a b x y h = ap (λ (c : Bool). if c then x else y) (le-ltb a b h)

-- ---- sizes

word : (q limit : ℕ) (z : ℤ) → q * limit ≤ 2 ^ 60 → IsAtMost limit z → IsWord q z
word q limit z h few = let least : q * unsigned_abs z ≤ q * limit = mul-le-mul_left q few in omega arith

-- ---- links: the slots at the chain's top are those that it is linked with

linked : (s : ScheduleValue) (shares : List Share) (marks : List Mark) (chains : List Chain) (feeds : List Feed) → (lay : IsLayout s shares marks chains feeds) → (t : ℕ) → t < length chains
    → IsLinked marks (chain_at chains t) (top_up lay.root marks chains t) (top_down lay.root marks chains t)
linked s shares marks chains feeds lay t h = by (last_or_next t (length chains) h)
  where
    by : (t + 1 < length chains) ⊎ (t + 1 ≡ length chains) → IsLinked marks (chain_at chains t) (top_up lay.root marks chains t) (top_down lay.root marks chains t)
    by (inl more) =
        let up = top_more (t + 1) (length chains) (mark_at marks (to_of chains t)).up (mark_at marks lay.root).below more in
        let down = top_more (t + 1) (length chains) (mark_at marks (to_of chains t)).down (mark_at marks lay.root).onward more in
        subst (λ (a : ℕ). IsLinked marks (chain_at chains t) a (top_down lay.root marks chains t)) (sym up)
        (subst (λ (b : ℕ). IsLinked marks (chain_at chains t) (mark_at marks (to_of chains t)).up b) (sym down) (lay.hung t more))
    by (inr last) =
        let up = top_last (t + 1) (length chains) (mark_at marks (to_of chains t)).up (mark_at marks lay.root).below (omega arith) in
        let down = top_last (t + 1) (length chains) (mark_at marks (to_of chains t)).down (mark_at marks lay.root).onward (omega arith) in
        subst (λ (a : ℕ). IsLinked marks (chain_at chains t) a (top_down lay.root marks chains t)) (sym up)
        (subst (λ (b : ℕ). IsLinked marks (chain_at chains t) (mark_at marks lay.root).below b) (sym down) (lay.last t last))

-- a junction's law at the values
junction : (s : ScheduleValue) (shares : List Share) (marks : List Mark) (chains : List Chain) (feeds : List Feed) (limit : ℕ) (before g : Slots) → (lay : IsLayout s shares marks chains feeds)
    → unit_of s.net * limit ≤ 2 ^ 60 → HoldAll (unit_of s.net) g s.ops → AreWithin (unit_of s.net) limit g s.ops → (j : ℕ) → j < lay.root
    → IsJunction (unit_of s.net) (share_at shares j) (stage_values shares marks before g j)
junction s shares marks chains feeds limit before g lay few holds within j h =
    let q = unit_of s.net in
    let small = (lay.small j (omega arith)).waves limit g within in
    let law = lay.junctions j h in
    record {
      series = λ e. let l = law.0 e in record { rises = l.rises g holds; down = l.down g holds; onward = l.onward g holds };
      parallel = λ e. let l = law.1 e in record { raw = l.raw g holds; rises = l.rises g holds; down = l.down g holds; onward = l.onward g holds };
      up = word q limit (g (mark_at marks j).up) few small.0;
      below = word q limit (g (mark_at marks j).below) few small.1;
      sent = word q limit (g (mark_at marks j).sent) few (sent (share_at shares j).parallel refl);
    }
  where
    sent : (b : Bool) → (share_at shares j).parallel ≡ b → IsAtMost limit (g (mark_at marks j).sent)
    sent true e = (((lay.junctions j h).1 e).sent limit g within).0
    sent false e = ((lay.junctions j h).0 e).sent limit g within

-- ---- what elements are fed

cancel : (p u : ℤ) → p +ℤ (u -ℤ p) ≡ u
cancel p u = omega (arith, linear)

rest : (p r f u : ℤ) → u ≡ p +ℤ f → p ≡ r → f ≡ u -ℤ r
rest p r f u e same = omega (arith, linear)

element-fed : (s : ScheduleValue) (limit : ℕ) (x : ℕ → ℤ) (zs : List ℤ) (before g : Slots) (up down : ℕ) (sign : ℤ) (fed : List ℤ → ℤ) → Follows s limit x zs before g → IsElement s up down sign fed
    → (fed zs ≡ g up -ℤ sign *ℤ before down) × (g up ≡ sign *ℤ before down +ℤ fed zs)
element-fed s limit x zs before g up down sign fed f e = (
  rest (sign *ℤ x up) (sign *ℤ before down) (fed zs) (g up) own (state e.state),
  own ∙ ap (λ (p : ℤ). p +ℤ fed zs) (state e.state),
)
  where
    own : g up ≡ sign *ℤ x up +ℤ fed zs
    own = e.reflects x zs g f.starts

    state : (sign ≡ pos 0) ⊎ (IsTrue (has_reactance (elements s.net) up) × ((ys : List ℤ) → fed ys ≡ pos 0)) → sign *ℤ x up ≡ sign *ℤ before down
    state (inl none) = (λ i. none i *ℤ x up) ∙ (zero-mul (x up) ∙ sym ((λ i. none i *ℤ before down) ∙ zero-mul (before down)))
    state (inr some) = ap (λ (z : ℤ). sign *ℤ z) (f.states up some.0 ∙ ap before (sym e.listed))

-- ---- the frame's equations

minus_none : (u sign z : ℤ) → sign ≡ pos 0 → u ≡ u -ℤ sign *ℤ z
minus_none u sign z none =
    let nothing : sign *ℤ z ≡ pos 0 = (λ i. none i *ℤ z) ∙ zero-mul z in
    omega (arith, linear)

climb-of : (s : ScheduleValue) (shares : List Share) (marks : List Mark) (chains : List Chain) (feeds : List Feed) (limit : ℕ) (before g : Slots) → (lay : IsLayout s shares marks chains feeds)
    → unit_of s.net * limit ≤ 2 ^ 60 → HoldAll (unit_of s.net) g s.ops → AreWithin (unit_of s.net) limit g s.ops → (t : ℕ) → t < length chains
    → IsClimb (unit_of s.net) shares (first_of chains t) (end_of chains t) (run_of lay.root shares marks chains before g).stage ((run_of lay.root shares marks chains before g).height t)
climb-of s shares marks chains feeds limit before g lay few holds within t h =
    let top = end-root lay.root chains lay.row t h in
    record {
      junctions = λ j low high. junction s shares marks chains feeds limit before g lay few holds within j (omega arith);
      below = λ j low high. inside j (end_of chains t) (g (mark_at marks j).below) (g (top_up lay.root marks chains t)) high;
      out = λ j low high. out j low (last_or_next j (end_of chains t) high);
    }
  where
    out : (j : ℕ) → first_of chains t ≤ j → (j + 1 < end_of chains t) ⊎ (j + 1 ≡ end_of chains t)
        → (if ltb (j + 1) (end_of chains t) then g (mark_at marks (j + 1)).below else g (top_up lay.root marks chains t)) ≡ g (mark_at marks j).out
    out j low (inl more) =
        inside (j + 1) (end_of chains t) (g (mark_at marks (j + 1)).below) (g (top_up lay.root marks chains t)) more
        ∙ ap g (sym ((linked s shares marks chains feeds lay t h).inner j low more).0)
    out j low (inr last) =
        outside (j + 1) (end_of chains t) (g (mark_at marks (j + 1)).below) (g (top_up lay.root marks chains t)) (omega arith)
        ∙ ap g (sym ((linked s shares marks chains feeds lay t h).top j low last).0)

descent-of : (s : ScheduleValue) (shares : List Share) (marks : List Mark) (chains : List Chain) (feeds : List Feed) (limit : ℕ) (before g : Slots) → (lay : IsLayout s shares marks chains feeds)
    → unit_of s.net * limit ≤ 2 ^ 60 → HoldAll (unit_of s.net) g s.ops → AreWithin (unit_of s.net) limit g s.ops → (t : ℕ) → t < length chains
    → IsDescent (unit_of s.net) shares (first_of chains t) (end_of chains t) (run_of lay.root shares marks chains before g).stage ((run_of lay.root shares marks chains before g).depth t)
descent-of s shares marks chains feeds limit before g lay few holds within t h =
    let top = end-root lay.root chains lay.row t h in
    record {
      junctions = λ j low high. junction s shares marks chains feeds limit before g lay few holds within j (omega arith);
      sent = λ j low high. sent j low (last_or_next j (end_of chains t) high);
      onward = λ j low high. inside j (end_of chains t) (g (mark_at marks j).onward) (g (top_down lay.root marks chains t)) high;
    }
  where
    sent : (j : ℕ) → first_of chains t ≤ j → (j + 1 < end_of chains t) ⊎ (j + 1 ≡ end_of chains t)
        → (if ltb (j + 1) (end_of chains t) then g (mark_at marks (j + 1)).onward else g (top_down lay.root marks chains t)) ≡ g (mark_at marks j).sent
    sent j low (inl more) =
        inside (j + 1) (end_of chains t) (g (mark_at marks (j + 1)).onward) (g (top_down lay.root marks chains t)) more
        ∙ ap g (sym ((linked s shares marks chains feeds lay t h).inner j low more).1)
    sent j low (inr last) =
        outside (j + 1) (end_of chains t) (g (mark_at marks (j + 1)).onward) (g (top_down lay.root marks chains t)) (omega arith)
        ∙ ap g (sym ((linked s shares marks chains feeds lay t h).top j low last).1)

-- what comes up to a chain's first stage, or from it where it has none
bottom-height : (s : ScheduleValue) (shares : List Share) (marks : List Mark) (chains : List Chain) (feeds : List Feed) (before g : Slots) → (lay : IsLayout s shares marks chains feeds) → (t : ℕ) → t < length chains
    → (run_of lay.root shares marks chains before g).height t (first_of chains t) ≡ g (mark_at marks (first_of chains t)).below
bottom-height s shares marks chains feeds before g lay t h = by (last_or_next t (length chains) h) (cases_lt (first_of chains t) (end_of chains t))
  where
    by : (t + 1 < length chains) ⊎ (t + 1 ≡ length chains) → (first_of chains t < end_of chains t) ⊎ (end_of chains t ≤ first_of chains t)
        → (run_of lay.root shares marks chains before g).height t (first_of chains t) ≡ g (mark_at marks (first_of chains t)).below
    by side (inl some) = inside (first_of chains t) (end_of chains t) (g (mark_at marks (first_of chains t)).below) (g (top_up lay.root marks chains t)) some
    by (inl more) (inr none) = let filled = lay.row.filled t more in absurd (omega arith)
    by (inr last) (inr none) =
        let order = (lay.row.last t last).0 in
        let top = (lay.row.last t last).1 in
        let at : lay.root ≡ first_of chains t = omega arith in
        outside (first_of chains t) (end_of chains t) (g (mark_at marks (first_of chains t)).below) (g (top_up lay.root marks chains t)) none
        ∙ (ap g (top_last (t + 1) (length chains) (mark_at marks (to_of chains t)).up (mark_at marks lay.root).below (omega arith)) ∙ ap (λ (k : ℕ). g (mark_at marks k).below) at)

-- a part where a chain hangs is no element, so that it has no state
still : (s : ScheduleValue) (shares : List Share) (marks : List Mark) (chains : List Chain) (feeds : List Feed) → (lay : IsLayout s shares marks chains feeds) → (t : ℕ) → t + 1 < length chains
    → (share_at shares (to_of chains t)).sign ≡ pos 0
still s shares marks chains feeds lay t more = by (lay.beside (to_of chains t) (lay.row.to t more).1)
  where
    by : IsElement s (mark_at marks (to_of chains t)).up (mark_at marks (to_of chains t)).down (share_at shares (to_of chains t)).sign (fed_by (is_beside (to_of chains t)) feeds)
        ⊎ HasChain chains (to_of chains t) (share_at shares (to_of chains t)).sign → (share_at shares (to_of chains t)).sign ≡ pos 0
    by (inl e) = let small = e.number in let large = lay.trees t more in absurd (omega arith)
    by (inr c) = c.still

pub is-run : (s : ScheduleValue) (shares : List Share) (marks : List Mark) (chains : List Chain) (feeds : List Feed) (limit : ℕ) (before g : Slots) → (lay : IsLayout s shares marks chains feeds)
    → unit_of s.net * limit ≤ 2 ^ 60 → HoldAll (unit_of s.net) g s.ops → AreWithin (unit_of s.net) limit g s.ops
    → IsRun (unit_of s.net) lay.root shares chains (run_of lay.root shares marks chains before g)
is-run s shares marks chains feeds limit before g lay few holds within =
    let q = unit_of s.net in
    let up = top_up lay.root marks chains in
    let down = top_down lay.root marks chains in
    let same : lay.root ≤ lay.root = omega arith in
    let small = (lay.small lay.root same).waves limit g within in
    record {
      climbs = λ t h. climb-of s shares marks chains feeds limit before g lay few holds within t h;
      descends = λ t h. descent-of s shares marks chains feeds limit before g lay few holds within t h;
      delivered = λ t more.
          outside (end_of chains t) (end_of chains t) (g (mark_at marks (end_of chains t)).below) (g (up t)) (omega arith)
          ∙ (ap g (top_more (t + 1) (length chains) (mark_at marks (to_of chains t)).up (mark_at marks lay.root).below more)
          ∙ minus_none (g (mark_at marks (to_of chains t)).up) (share_at shares (to_of chains t)).sign (before (mark_at marks (to_of chains t)).down) (still s shares marks chains feeds lay t more));
      collected = λ t more.
          outside (end_of chains t) (end_of chains t) (g (mark_at marks (end_of chains t)).onward) (g (down t)) (omega arith)
          ∙ ap g (top_more (t + 1) (length chains) (mark_at marks (to_of chains t)).down (mark_at marks lay.root).onward more);
      arrives = λ t last.
          outside (end_of chains t) (end_of chains t) (g (mark_at marks (end_of chains t)).below) (g (up t)) (omega arith)
          ∙ ap g (top_last (t + 1) (length chains) (mark_at marks (to_of chains t)).up (mark_at marks lay.root).below (omega arith));
      returns = λ t last.
          outside (end_of chains t) (end_of chains t) (g (mark_at marks (end_of chains t)).onward) (g (down t)) (omega arith)
          ∙ ap g (top_last (t + 1) (length chains) (mark_at marks (to_of chains t)).down (mark_at marks lay.root).onward (omega arith));
      turns = record { down = lay.turn.down g holds; onward = lay.turn.onward g holds };
      root_up = word q limit (g (mark_at marks lay.root).up) few small.0;
      root_below = word q limit (g (mark_at marks lay.root).below) few small.1;
      bottoms = λ t h.
          let first = first-end lay.root chains lay.row t h in
          let top = end-root lay.root chains lay.row t h in
          let sizes = (lay.small (first_of chains t) (omega arith)).waves limit g within in
          subst (IsWord (unit_of s.net)) (sym (bottom-height s shares marks chains feeds before g lay t h)) (word (unit_of s.net) limit (g (mark_at marks (first_of chains t)).below) few sizes.1);
    }

pub begins : (s : ScheduleValue) (shares : List Share) (marks : List Mark) (chains : List Chain) (feeds : List Feed) (limit : ℕ) (x : ℕ → ℤ) (zs : List ℤ) (before g : Slots) (cells : List (List Cell)) (c : ℕ)
    → (lay : IsLayout s shares marks chains feeds) → unit_of s.net * limit ≤ 2 ^ 60 → Follows s limit x zs before g → AllShow lay.root shares marks before cells c → AreFed lay.root chains feeds zs cells c
    → Begins (unit_of s.net) lay.root shares chains (run_of lay.root shares marks chains before g) cells c
begins s shares marks chains feeds limit x zs before g cells c lay few f shows fed = record {
  up = λ j h. (λ i. (share_at shares j).sign *ℤ (shows.stages j h).down i +ℤ (g (mark_at marks j).up -ℤ (share_at shares j).sign *ℤ before (mark_at marks j).down))
      ∙ cancel ((share_at shares j).sign *ℤ before (mark_at marks j).down) (g (mark_at marks j).up);
  down = λ j h. subst (IsWord (unit_of s.net)) (sym (shows.stages j h).down) (word (unit_of s.net) limit (before (mark_at marks j).down) few ((lay.small j h).waves limit before f.small).2);
  onward = λ j h. subst (IsWord (unit_of s.net)) (sym (shows.stages j h).onward) (word (unit_of s.net) limit (before (mark_at marks j).onward) few ((lay.small j h).waves limit before f.small).3);
  fed = λ j h free. fed.beside j h free ∙ beside j free (lay.beside j h);
  bottoms = λ t h.
      let first = first-end lay.root chains lay.row t h in
      let top = end-root lay.root chains lay.row t h in
      let low : first_of chains t ≤ lay.root = omega arith in
      (λ i. (chain_at chains t).sign *ℤ (shows.stages (first_of chains t) low).onward i +ℤ fed.under (first_of chains t) low i)
      ∙ (sym (element-fed s limit x zs before g (mark_at marks (first_of chains t)).below (mark_at marks (first_of chains t)).onward (chain_at chains t).sign (fed_by (is_under (first_of chains t)) feeds) f (lay.bottoms t h)).1
      ∙ sym (bottom-height s shares marks chains feeds before g lay t h));
}
  where
    beside : (j : ℕ) → IsFed chains 0 j
        → IsElement s (mark_at marks j).up (mark_at marks j).down (share_at shares j).sign (fed_by (is_beside j) feeds) ⊎ HasChain chains j (share_at shares j).sign
        → fed_by (is_beside j) feeds zs ≡ g (mark_at marks j).up -ℤ (share_at shares j).sign *ℤ before (mark_at marks j).down
    beside j free (inl e) = (element-fed s limit x zs before g (mark_at marks j).up (mark_at marks j).down (share_at shares j).sign (fed_by (is_beside j) feeds) f e).0
    beside j free (inr chain) = absurd (free chain.chain (omega arith) chain.more chain.here)

-- ---- behind the frame

pub shown_after : (root : ℕ) (shares : List Share) (marks : List Mark) (chains : List Chain) (before g : Slots) (cells after : List (List Cell)) (c : ℕ)
    → IsDone root shares (run_of root shares marks chains before g) cells after c → AllShow root shares marks g after c
shown_after root shares marks chains before g cells after c done = record {
  stages = λ j h. record { up = (done.ups j h).up; below = (done.ups j h).below; down = (done.downs j h).down; onward = (done.downs j h).onward };
  raws = done.raws;
}

pub fed_after : (q root : ℕ) (shares : List Share) (chains : List Chain) (feeds : List Feed) (r : RunValues) (zs : List ℤ) (cells after : List (List Cell)) (c : ℕ)
    → Begins q root shares chains r cells c → IsDone root shares r cells after c → AreFed root chains feeds zs cells c → AreFed root chains feeds zs after c
fed_after q root shares chains feeds r zs cells after c starts done fed = record {
  beside = λ j h free. done.fed j h ∙ (sym (starts.fed j h free) ∙ fed.beside j h free);
  under = λ j h. done.under j h ∙ fed.under j h;
}
