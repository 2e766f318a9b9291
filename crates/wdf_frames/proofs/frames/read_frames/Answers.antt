-- The buffer holds whole frames.
use Rattle.std.proofs.Common.{◌%◌, ◌∙◌}
use Rattle.std.proofs.Math.Nat.{mul-mod_left}
use Rattle.wdf_wav.specs.Header.{block_align}
use Rattle.wdf_frames.proofs.frames.read_frames.Goals as goal

pub read_block-requires-clause-frames : goal.read_block-requires-clause-frames
read_block-requires-clause-frames g c = (λ i. c.requires.frames i % block_align (c.head.ensures.value i)) ∙ mul-mod_left c.args.count (block_align c.args.round.now.head)
