-- The engine as clauses see it: its network and plan, the frames done, and the down waves of the last frame.
use Rattle.std.specs.Prelude.{◌≡◌, ℕ, ◌+◌, ◌<◌, ◌≤◌, Bool, ℤ, pos, List, length, take, replicate, refl}
use Rattle.std.specs.Coded.{Coded, code_by, coded×, coded_ℕ, coded_ℤ, coded_list}
use Rattle.wdf_law.specs.Trees.{AdaptorTree}
use Rattle.wdf_law.specs.Network.{Network, elements, reactances, source_numbers}
use Rattle.wdf_law.specs.NetworkCode.{network_code}
use Rattle.wdf_law.specs.Step.{Frame, IsStep, sent_in, after}
use Rattle.wdf_law.specs.Run.{states, at_rest}
use Rattle.wdf_law.specs.OutputRule.{drive, load_wave, outlet_element, is_flipped}
use Rattle.wdf_bounds.specs.Plans.{PlanOf}
use Rattle.wdf_bounds.specs.HeldWords.{IsReached}
use Rattle.wdf_bounds.specs.WordBound.{Fits}
use Rattle.wdf_tree.specs.Places.{at_place, gathered}

pub record EngineValue : Type 0 where
  pub net : Network
  pub plan : PlanOf
  pub done : ℕ
  -- by the elements' numbers; each 0 before the first frame
  pub downs : List ℤ

-- its state: the down waves of the reactances, in netlist order
abbrev pub state_of : EngineValue → List ℤ
state_of a = gathered a.net a.downs

-- what the type keeps, by its fields: the trees, the lists and the outlet are the network's, the plan fits it, and the
-- stored energy of the state is at most what the sources can have sent in, done·(amp·2^guard)²·G
pub record IsEngine (n : Network) (plan : PlanOf) (left right : AdaptorTree) (sources reactive : List ℕ) (outlet : ℕ) (flip : Bool) (downs state : List ℤ) (done : ℕ) : Type 0 where
  pub fits : Fits n plan
  pub left_tree : left ≡ n.left
  pub right_tree : right ≡ n.right
  pub numbers : sources ≡ source_numbers n
  pub reactive_numbers : reactive ≡ reactances n
  pub few : length (elements n) ≤ 128
  pub outlet_number : outlet ≡ outlet_element n
  pub outlet_below : outlet < length (elements n)
  pub outlet_flip : flip ≡ is_flipped (elements n) (outlet_element n)
  pub state_list : take (length reactive) state ≡ gathered n downs
  pub frames : done ≤ plan.frames
  pub energy : IsReached n plan done (gathered n downs)

-- the same as callers see it
pub record KeepsPlan (a : EngineValue) : Type 0 where
  pub fits : Fits a.net a.plan
  pub frames : a.done ≤ a.plan.frames
  pub reached : IsReached a.net a.plan a.done (state_of a)

-- a new engine
pub record IsFresh (a : EngineValue) (n : Network) (plan : PlanOf) : Type 0 where
  pub net : a.net ≡ n
  pub plans : a.plan ≡ plan
  pub done : a.done ≡ 0
  pub state : state_of a ≡ at_rest n
  pub downs : a.downs ≡ replicate (length (elements n)) (pos 0)

-- The engine a after one frame more, with the load wave w: there is a step from its state, driven by the samples, that has
-- this load wave and leaves these states and down waves.
pub record IsNext (a : EngineValue) (samples : List ℤ) (w : ℤ) (b : EngineValue) : Type 0 where
  pub frame : Frame
  pub step : IsStep a.net (states a.net (state_of a)) (drive a.plan.guard a.net samples) frame
  pub wave : w ≡ load_wave a.net frame
  pub state : state_of b ≡ after a.net frame
  pub downs : (i : ℕ) → i < length (elements a.net) → at_place b.downs i ≡ sent_in a.net frame i
  pub net : b.net ≡ a.net
  pub plan : b.plan ≡ a.plan
  pub done : b.done ≡ a.done + 1

-- ---- the code that the model of its type wants

abbrev pub PlanParts : Type 0
PlanParts = ℕ × (ℕ × (ℕ × (ℕ × (ℕ × ℕ))))

abbrev pub EngineParts : Type 0
EngineParts = Network × (PlanParts × (ℕ × List ℤ))

abbrev pub parts_of : EngineValue → EngineParts
parts_of a = (a.net, ((a.plan.k, (a.plan.guard, (a.plan.shift, (a.plan.frames, (a.plan.amp, a.plan.bits))))), (a.done, a.downs)))

abbrev pub engine_from : EngineParts → EngineValue
engine_from p = record {
  net = p.0;
  plan = record { k = p.1.0.0; guard = p.1.0.1.0; shift = p.1.0.1.1.0; frames = p.1.0.1.1.1.0; amp = p.1.0.1.1.1.1.0; bits = p.1.0.1.1.1.1.1 };
  done = p.1.1.0;
  downs = p.1.1.1;
}

abbrev pub coded_plan : Coded PlanParts
coded_plan = coded× coded_ℕ (coded× coded_ℕ (coded× coded_ℕ (coded× coded_ℕ (coded× coded_ℕ coded_ℕ))))

abbrev pub engine_code : Coded EngineValue
engine_code = code_by EngineParts (coded× network_code (coded× coded_plan (coded× coded_ℕ (coded_list coded_ℤ)))) parts_of engine_from (λ _. refl)
