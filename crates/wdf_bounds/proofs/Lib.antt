mod BoundNumbers
mod FitLemmas
mod Roots
mod WithinLemmas
