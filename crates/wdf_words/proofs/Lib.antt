pub mod MeaningLemmas
mod PlaceLemmas
mod WellFormedLemmas
