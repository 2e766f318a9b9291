-- Before any frame every cell is silent.
use Rattle.std.proofs.Common.{◌≡◌, ℕ, zero, suc, List, [], refl, ap, sym, ◌∙◌}
use Rattle.std.specs.Prelude.{replicate}
use Rattle.wdf_bounds.specs.HeldWords.{HoldsWords}
use Rattle.wdf_bounds.specs.Plans.{PlanOf}
use Rattle.wdf_sched.specs.Schedules.{ScheduleValue}
use Rattle.wdf_loop.specs.declared.cell.Cell.{Cell}
use Rattle.wdf_loop.specs.declared.chain.Chain.{Chain}
use Rattle.wdf_loop.specs.declared.feed.Feed.{Feed}
use Rattle.wdf_loop.specs.declared.mark.Mark.{Mark}
use Rattle.wdf_loop.specs.declared.share.Share.{Share}
use Rattle.wdf_loop.specs.Advances.{AllAreAt, root_of}
use Rattle.wdf_loop.specs.Layouts.{is_beside, is_under}
use Rattle.wdf_loop.specs.RunCells.{cell_in, silent}
use Rattle.wdf_loop.specs.Runs.{cell_at}
use Rattle.wdf_loop.specs.Shows.{AllShow}
use Rattle.wdf_loop.proofs.FeedLemmas.{fed_nothing}
use Rattle.wdf_loop.proofs.NextLemmas.{at-rest, silence}

silent_in : (runs c : ℕ) → cell_in (replicate runs silent) c ≡ silent
silent_in zero c = refl
silent_in (suc runs) zero = refl
silent_in (suc runs) (suc c) = silent_in runs c

pub silent_at : (stages runs j c : ℕ) → cell_at (replicate stages (replicate runs silent)) j c ≡ silent
silent_at zero runs j c = refl
silent_at (suc stages) runs zero c = silent_in runs c
silent_at (suc stages) runs (suc j) c = silent_at stages runs j c

pub silent_shows : (root runs stages c : ℕ) (shares : List Share) (marks : List Mark) → AllShow root shares marks silence (replicate stages (replicate runs silent)) c
silent_shows root runs stages c shares marks = record {
  stages = λ j h. record {
    up = ap (λ (d : Cell). d.up) (silent_at stages runs j c);
    below = ap (λ (d : Cell). d.below) (silent_at stages runs j c);
    down = ap (λ (d : Cell). d.down) (silent_at stages runs j c);
    onward = ap (λ (d : Cell). d.onward) (silent_at stages runs j c);
  };
  raws = λ j h e. ap (λ (d : Cell). d.raw) (silent_at stages runs j c);
}

pub all_at_rest : (runs stages : ℕ) (s : ScheduleValue) (plan : PlanOf) (shares : List Share) (marks : List Mark) (chains : List Chain) (feeds : List Feed) → HoldsWords s.net plan
    → AllAreAt runs s plan 0 shares marks chains feeds (replicate stages (replicate runs silent))
all_at_rest runs stages s plan shares marks chains feeds words c small = record {
  slots = silence;
  values = [];
  stands = at-rest s plan words;
  shows = silent_shows (root_of shares) runs stages c shares marks;
  fed = record {
    beside = λ j h free. ap (λ (d : Cell). d.fed) (silent_at stages runs j c) ∙ sym (fed_nothing (is_beside j) feeds);
    under = λ j h. ap (λ (d : Cell). d.under) (silent_at stages runs j c) ∙ sym (fed_nothing (is_under j) feeds);
  };
}
