use Rattle.wdf_loop.specs.Feeds.{AreFeeds}
use Rattle.wdf_loop.proofs.feeds.feeds_of.Given as goal

abbrev pub invariant-loop-i : goal.invariant-loop-i
invariant-loop-i l = AreFeeds l.net l.marks l.i l.feeds.items
