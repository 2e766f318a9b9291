mod LaneLemmas
mod PartLemmas
mod VectorLemmas
