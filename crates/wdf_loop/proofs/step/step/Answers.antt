use Rattle.std.proofs.Common.{◌≡◌, ◌+◌, ◌*◌, ◌<◌, ◌≤◌, ◌^◌, length, map, ◌∙◌, arith}
use Rattle.wdf_loop.specs.Frames.{AllRun}
use Rattle.wdf_loop.proofs.StepLemmas.{all_run, all_stepped}
use Rattle.wdf_loop.proofs.step.step.Goals as goal

pub frame-requires : goal.frame-requires
frame-requires g c =
    let stages : length c.feed.new.cells ≡ c.args.root + 1 = c.feed.auto.cells ∙ c.requires.stages in
    let run : AllRun g.row.C (2 ^ g.row.K) c.args.root c.args.shares.now c.args.chains.now (map g.R.RunRow.cells c.feed.new.cells) =
    all_run g.row.C (2 ^ g.row.K) c.args.root c.args.shares.now c.args.chains.now c.args.feeds.now (map g.R.RunRow.cells c.args.cells.now) (map g.R.RunRow.cells c.feed.new.cells) c.args.values.now c.requires.sources c.requires.can c.feed.ensures in
    record {
      some = c.requires.some;
      few = c.requires.few;
      runs = c.requires.runs;
      stages = stages;
      each = c.requires.each;
      shares = c.requires.shares;
      chains = c.requires.chains;
      top = c.requires.top;
      pairs = c.requires.pairs;
      signs = c.requires.signs;
      run = run;
    }

pub returns : goal.returns
returns g c =
    all_stepped g.row.C (2 ^ g.row.K) c.args.root c.args.shares.now c.args.chains.now c.args.feeds.now (map g.R.RunRow.cells c.args.cells.now) (map g.R.RunRow.cells c.feed.new.cells) (map g.R.RunRow.cells c.frame.new.cells) c.args.values.now c.requires.sources c.feed.ensures
    c.frame.ensures
