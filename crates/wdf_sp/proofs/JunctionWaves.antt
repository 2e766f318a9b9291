-- A tree whose junctions lose nothing: at each of them Kirchhoff's laws hold of the waves.
use Rattle.std.proofs.Common.{◌≡◌, ℕ, ◌<◌, ap, sym, ◌∙◌}
use lib.IntN.{ℤ, pos, ◌*ℤ◌}
use Rattle.wdf_algebra.specs.Truncation.{trunc}
use Rattle.wdf_law.specs.Trees.{AdaptorTree, leaf, series, parallel}
use Rattle.wdf_law.specs.Conductance.{conductance, series_first, series_second, parallel_first, parallel_second}
use Rattle.wdf_law.specs.Step.{Waves, ends, forks, up_wave, down_wave, Follows}
use Rattle.wdf_law.specs.Laws.{IsExact, AreExact}
use Rattle.wdf_sp.proofs.LosslessJunctions.{AreParallelWaves, AreSeriesWaves, parallel_waves, series_waves}

abbrev pub ObeyJunctions : ℕ → ℕ → AdaptorTree → Waves → Type 0
ObeyJunctions q f (leaf i k flip) (ends u d) = Unit {0}
ObeyJunctions q f (leaf i k flip) (forks u d b1 b2 b wl wr) = ⊥
ObeyJunctions q f (series m l r) (ends u d) = ⊥
ObeyJunctions q f (series m l r) (forks u d b1 b2 b wl wr) =
    AreSeriesWaves (conductance q (series_first q f m r) l) (conductance q (series_second q f m l) r) (conductance q f (series m l r)) (up_wave wl) (up_wave wr) d (down_wave wl) (down_wave wr) u
    × ObeyJunctions q (series_first q f m r) l wl × ObeyJunctions q (series_second q f m l) r wr
ObeyJunctions q f (parallel m l r) (ends u d) = ⊥
ObeyJunctions q f (parallel m l r) (forks u d b1 b2 b wl wr) =
    AreParallelWaves (conductance q (parallel_first q f m r) l) (conductance q (parallel_second q f m l) r) (conductance q f (parallel m l r)) (up_wave wl) (up_wave wr) d (down_wave wl) (down_wave wr) u
    × ObeyJunctions q (parallel_first q f m r) l wl × ObeyJunctions q (parallel_second q f m l) r wr

-- a value that loses nothing is q times the wave that leaves
pub exact_is : (q : ℕ) (b d : ℤ) → IsExact q b → d ≡ trunc b q → b ≡ pos q *ℤ d
exact_is q b d exact e = sym exact ∙ ap (λ (z : ℤ). pos q *ℤ z) (sym e)

pub obey_junctions : (q f : ℕ) (x e : ℕ → ℤ) (t : AdaptorTree) (w : Waves) → 0 < q → Follows q x e f t w → AreExact q w → ObeyJunctions q f t w
obey_junctions q f x e (leaf i k flip) (ends u d) some h a = tt
obey_junctions q f x e (leaf i k flip) (forks u d b1 b2 b wl wr) some h a = absurd h
obey_junctions q f x e (series m l r) (ends u d) some h a = absurd h
obey_junctions q f x e (series m l r) (forks u d b1 b2 b wl wr) some h a = (
  series_waves q (conductance q (series_first q f m r) l) (conductance q (series_second q f m l) r) (conductance q f (series m l r)) (up_wave wl) (up_wave wr) d b1 b2 b (down_wave wl) (down_wave wr) u some h.0
      (exact_is q b1 (down_wave wl) a.0 h.1.first) (exact_is q b2 (down_wave wr) a.1 h.1.second) (exact_is q b u a.2 h.1.up),
  obey_junctions q (series_first q f m r) x e l wl some h.2 a.3,
  obey_junctions q (series_second q f m l) x e r wr some h.3 a.4,
)
obey_junctions q f x e (parallel m l r) (ends u d) some h a = absurd h
obey_junctions q f x e (parallel m l r) (forks u d b1 b2 b wl wr) some h a = (
  parallel_waves q (conductance q (parallel_first q f m r) l) (conductance q (parallel_second q f m l) r) (conductance q f (parallel m l r)) (up_wave wl) (up_wave wr) d b1 b2 b (down_wave wl) (down_wave wr) u some h.0
      (exact_is q b1 (down_wave wl) a.0 h.1.first) (exact_is q b2 (down_wave wr) a.1 h.1.second) (exact_is q b u a.2 h.1.up),
  obey_junctions q (parallel_first q f m r) x e l wl some h.2 a.3,
  obey_junctions q (parallel_second q f m l) x e r wr some h.3 a.4,
)
