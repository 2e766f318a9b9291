use Rattle.std.proofs.Common.{◌≡◌, ◌-◌, ◌≤◌, length}
use Rattle.wdf_loop.specs.Engines.{IsBlock}
use Rattle.wdf_loop.specs.KeptEngines.{IsEngine, engine_of}
use Rattle.wdf_loop.proofs.pieces.all_pieces.Given as goal

abbrev pub invariant-loop-at : goal.invariant-loop-at
invariant-loop-at l =
    (l.at ≤ l.count) × (length l.output ≡ length l.initial.output) × IsEngine l.setting l.groups l.done
    × IsBlock (engine_of l.setting l.initial.groups l.initial.done) (engine_of l.setting l.groups l.done) l.at l.input l.output l.initial.ledger l.ledger

abbrev pub decreases-loop-at : goal.decreases-loop-at
decreases-loop-at l = l.count - l.at
