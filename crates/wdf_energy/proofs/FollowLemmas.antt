-- An account that holds the frames of a run has room for a block of them more, and holds it then.
use Rattle.std.proofs.Common.{◌≡◌, ℕ, zero, suc, ◌+◌, ◌<◌, ◌≤◌, List, [], ◌∷◌, length, map, refl, ap, sym, ◌∙◌, subst, arith}
use Rattle.std.specs.Prelude.{ℤ, Some, slice_get}
use Rattle.wdf_law.specs.Network.{Network, elements, reactances, source_numbers}
use Rattle.wdf_law.specs.Step.{Frame, IsStep, sent_in}
use Rattle.wdf_law.specs.Run.{states}
use Rattle.wdf_bounds.specs.Plans.{PlanOf}
use Rattle.wdf_bounds.specs.HeldWords.{IsInput}
use Rattle.wdf_energy.specs.Accounts.{AccountOf, HasRoom, noted, all_noted}
use Rattle.wdf_energy.specs.LedgerLaws.{HoldsFrames, FollowsFrames}
use Rattle.wdf_energy.specs.Blocks.{AreLast, FollowsBlocks, NotesOver, StepsFrom, StepsOver}

-- ---- one frame, by the waves that it sent

-- noted by the step's own numbers
noted-so : (n : Network) (plan : PlanOf) (e sent : ℕ → ℤ) (es : List ℤ) (zs : List ℤ) (a : AccountOf) → FollowsFrames n plan → es ≡ map e (source_numbers n)
    → (s : StepsFrom n zs e sent) → noted n (map e (source_numbers n)) (sent_in n s.frame) a ≡ noted n es sent a
noted-so n plan e sent es zs a follows driven s =
    follows.noted_alike (map e (source_numbers n)) (sent_in n s.frame) sent a (λ j here. sym (s.waves j here))
    ∙ ap (λ (l : List ℤ). noted n l sent a) (sym driven)

step-from : (n : Network) (e sent before : ℕ → ℤ) (zs : List ℤ) → zs ≡ map before (reactances n) → (s : StepsFrom n zs e sent)
    → IsStep n (states n (map before (reactances n))) e s.frame
step-from n e sent before zs is s = subst (λ (l : List ℤ). IsStep n (states n l) e s.frame) is s.step

one-held : (n : Network) (plan : PlanOf) (done : ℕ) (before e sent : ℕ → ℤ) (es zs : List ℤ) (a b : AccountOf) → FollowsFrames n plan
    → zs ≡ map before (reactances n) → IsInput n plan e → es ≡ map e (source_numbers n) → StepsFrom n zs e sent → HoldsFrames n plan done before a
    → b ≡ noted n es sent a → HoldsFrames n plan (done + 1) sent b
one-held n plan done before e sent es zs a b follows is allowed driven s held notes =
    let next = follows.goes_on done before e a s.frame allowed (step-from n e sent before zs is s) held in
    let alike = follows.held_alike (done + 1) (sent_in n s.frame) sent (noted n (map e (source_numbers n)) (sent_in n s.frame) a) (λ j here. sym (s.waves j here)) next in
    subst (HoldsFrames n plan (done + 1) sent) (noted-so n plan e sent es zs a follows driven s ∙ sym notes) alike

one-room : (n : Network) (plan : PlanOf) (done : ℕ) (before e sent : ℕ → ℤ) (es zs : List ℤ) (a b : AccountOf) → FollowsFrames n plan → done < plan.frames
    → zs ≡ map before (reactances n) → IsInput n plan e → es ≡ map e (source_numbers n) → StepsFrom n zs e sent → HoldsFrames n plan done before a
    → b ≡ noted n es sent a → HasRoom b
one-room n plan done before e sent es zs a b follows few is allowed driven s held notes =
    subst HasRoom (noted-so n plan e sent es zs a follows driven s ∙ sym notes)
    (follows.room done before e a s.frame few allowed (step-from n e sent before zs is s) held)

-- ---- all frames of a block

-- what is known before the frame f: a state, and an account that holds the frames before it
record Before (n : Network) (plan : PlanOf) (done f : ℕ) (zs : List ℤ) (a : AccountOf) : Type 0 where
  pub sent : ℕ → ℤ
  pub state : zs ≡ map sent (reactances n)
  pub holds : HoldsFrames n plan (done + f) sent a

before-each : (n : Network) (plan : PlanOf) (done count : ℕ) (before : ℕ → ℤ) (values : ℕ → List ℤ) (sent : ℕ → ℕ → ℤ) (a b : AccountOf) → FollowsFrames n plan
    → (h : StepsOver n plan before count values sent) → HoldsFrames n plan done before a → (g : NotesOver n count values sent a b)
    → (f : ℕ) → f < count → Before n plan done f (h.state f) (g.account f)
before-each n plan done count before values sent a b follows h held g zero below =
    let e : done ≡ done + 0 = omega arith in
    record {
      sent = before;
      state = h.begins;
      holds = subst (λ (k : ℕ). HoldsFrames n plan k before (g.account 0)) e (subst (HoldsFrames n plan done before) (sym g.opens) held);
    }
before-each n plan done count before values sent a b follows h held g (suc f) below =
    let under : f < count = omega arith in
    let on : f + 1 ≡ suc f = omega arith in
    let sum : done + f + 1 ≡ done + suc f = omega arith in
    let p = before-each n plan done count before values sent a b follows h held g f under in
    let next = one-held n plan (done + f) p.sent (h.inputs f) (sent f) (values f) (h.state f) (g.account f) (g.account (f + 1)) follows p.state (h.allowed f under) (h.driven f under)
    (h.steps f under) p.holds (g.notes f under) in
    record {
      sent = sent f;
      state = subst (λ (k : ℕ). h.state k ≡ map (sent f) (reactances n)) on (h.next f under);
      holds = subst (λ (k : ℕ). HoldsFrames n plan k (sent f) (g.account (suc f))) sum (subst (λ (k : ℕ). HoldsFrames n plan (done + f + 1) (sent f) (g.account k)) on next);
    }

room : (n : Network) (plan : PlanOf) (done count : ℕ) (before : ℕ → ℤ) (values : ℕ → List ℤ) (sent : ℕ → ℕ → ℤ) (a b : AccountOf) → FollowsFrames n plan
    → 0 < count → done + count ≤ plan.frames → StepsOver n plan before count values sent → HoldsFrames n plan done before a
    → NotesOver n count values sent a b → HasRoom b
room n plan done zero before values sent a b follows some few h held g = absurd (omega arith)
room n plan done (suc f) before values sent a b follows some few h held g =
    let under : f < suc f = omega arith in
    let on : f + 1 ≡ suc f = omega arith in
    let p = before-each n plan done (suc f) before values sent a b follows h held g f under in
    one-room n plan (done + f) p.sent (h.inputs f) (sent f) (values f) (h.state f) (g.account f) b follows (omega arith) p.state (h.allowed f under) (h.driven f under)
    (h.steps f under) p.holds (sym g.closes ∙ (ap g.account (sym on) ∙ g.notes f under))

goes-on : (n : Network) (plan : PlanOf) (done count : ℕ) (before last : ℕ → ℤ) (values : ℕ → List ℤ) (sent : ℕ → ℕ → ℤ) (a b : AccountOf) → FollowsFrames n plan
    → 0 < count → StepsOver n plan before count values sent → AreLast n count sent last → HoldsFrames n plan done before a
    → NotesOver n count values sent a b → HoldsFrames n plan (done + count) last b
goes-on n plan done zero before last values sent a b follows some h are held g = absurd (omega arith)
goes-on n plan done (suc f) before last values sent a b follows some h are held g =
    let under : f < suc f = omega arith in
    let on : f + 1 ≡ suc f = omega arith in
    let sum : done + f + 1 ≡ done + suc f = omega arith in
    let p = before-each n plan done (suc f) before values sent a b follows h held g f under in
    let next = one-held n plan (done + f) p.sent (h.inputs f) (sent f) (values f) (h.state f) (g.account f) b follows p.state (h.allowed f under) (h.driven f under)
    (h.steps f under) p.holds (sym g.closes ∙ (ap g.account (sym on) ∙ g.notes f under)) in
    follows.held_alike (done + suc f) (sent f) last b (λ j here. sym (are f j on here)) (subst (λ (k : ℕ). HoldsFrames n plan k (sent f) b) sum next)

-- ---- by lists

-- the block without its first frame
behind-first : (n : Network) (count : ℕ) (values : ℕ → List ℤ) (sent : ℕ → ℕ → ℤ) (a b : AccountOf) → (g : NotesOver n (suc count) values sent a b)
    → NotesOver n count (λ (f : ℕ). values (f + 1)) (λ (f : ℕ). sent (f + 1)) (noted n (values 0) (sent 0) a) b
behind-first n count values sent a b g =
    let on : count + 1 ≡ suc count = omega arith in
    record {
      account = λ (f : ℕ). g.account (f + 1);
      opens = g.notes 0 (omega arith) ∙ ap (noted n (values 0) (sent 0)) g.opens;
      notes = λ f below. g.notes (f + 1) (omega arith);
      closes = ap g.account on ∙ g.closes;
    }

listed : (n : Network) (plan : PlanOf) (es : List (ℕ → ℤ)) (ss : List Frame) (values : ℕ → List ℤ) (sent : ℕ → ℕ → ℤ) (a b : AccountOf) → FollowsFrames n plan
    → length ss ≡ length es
    → ((f : ℕ) (e : ℕ → ℤ) → slice_get es f ≡ Some e → values f ≡ map e (source_numbers n))
    → ((f : ℕ) (s : Frame) → slice_get ss f ≡ Some s → (j : ℕ) → j < length (elements n) → sent f j ≡ sent_in n s j)
    → NotesOver n (length es) values sent a b → b ≡ all_noted n es ss a
listed n plan [] ss values sent a b follows long driven waves g = sym g.closes ∙ g.opens
listed n plan (e ∷ es) [] values sent a b follows long driven waves g = absurd (omega arith)
listed n plan (e ∷ es) (s ∷ ss) values sent a b follows long driven waves g =
    let count : length (e ∷ es) ≡ suc (length es) = omega arith in
    let first : noted n (values 0) (sent 0) a ≡ noted n (map e (source_numbers n)) (sent_in n s) a
    = ap (λ (l : List ℤ). noted n l (sent 0) a) (driven 0 e refl) ∙ follows.noted_alike (map e (source_numbers n)) (sent 0) (sent_in n s) a (waves 0 s refl) in
    let rest = behind-first n (length es) values sent a b (subst (λ (k : ℕ). NotesOver n k values sent a b) count g) in
    listed n plan es ss (λ (f : ℕ). values (f + 1)) (λ (f : ℕ). sent (f + 1)) (noted n (values 0) (sent 0) a) b follows (omega arith)
    (λ f x is. driven (f + 1) x (next f e es x is)) (λ f x is. waves (f + 1) x (next f s ss x is)) rest
    ∙ ap (all_noted n es ss) first
  where
    next : {A : Type 0} (f : ℕ) (y : A) (ys : List A) (x : A) → slice_get ys f ≡ Some x → slice_get (y ∷ ys) (f + 1) ≡ Some x
    next f y ys x is = let on : f + 1 ≡ suc f = omega arith in ap (slice_get (y ∷ ys)) on ∙ is

pub follows-blocks : (n : Network) (plan : PlanOf) → FollowsFrames n plan → FollowsBlocks n plan
follows-blocks n plan follows = record {
  room = λ done count before values sent a b some few h held g. room n plan done count before values sent a b follows some few h held g;
  goes_on = λ done count before last values sent a b some h are held g. goes-on n plan done count before last values sent a b follows some h are held g;
  listed = λ es ss values sent a b long driven waves g. listed n plan es ss values sent a b follows long driven waves g;
}
