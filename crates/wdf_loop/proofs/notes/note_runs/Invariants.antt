use Rattle.std.proofs.Common.{map}
use Rattle.wdf_loop.specs.RunAccounts.{AreNoted, KeepsAccounts}
use Rattle.wdf_loop.proofs.notes.note_runs.Given as goal

abbrev pub invariant-loop-c : goal.invariant-loop-c
invariant-loop-c g l = record {
  accounts : KeepsAccounts l.c l.first l.initial.ledger l.ledger;
  notes : AreNoted l.c l.first l.count l.every (map g.R.RunRow.cells l.cells) l.values l.waves l.initial.ledger l.ledger;
}
