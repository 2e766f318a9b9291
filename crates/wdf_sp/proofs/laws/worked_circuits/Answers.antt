use Rattle.std.proofs.Common.{refl}
use Rattle.wdf_sp.proofs.laws.worked_circuits.Goals as goal

pub returns : goal.returns
returns c = record {
  later_source_shape = refl;
  opposed_shape = refl;
  bridge_is_core = refl;
  bridge_end = refl;
  bridge_named = refl;
  dangling_is_core = refl;
  dangling_end = refl;
  dangling_named = refl;
  chain_reduced = refl;
  anti_parallel_shape = refl;
  two_pairs_shape = refl;
  series_and_parallel_shape = refl;
  loop_end = refl;
  loop_named = refl;
  looped_chain_end = refl;
  chain_depths = (refl, refl, refl, refl, refl);
  chain_root = refl;
  longer_chain_depths = (refl, refl, refl);
  longer_chain_root = refl;
  chain_halves = refl;
  pair_halves = refl;
  pair_root = refl;
}
