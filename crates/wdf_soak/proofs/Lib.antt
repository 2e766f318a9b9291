pub mod FigureLemmas
pub mod LadderLemmas
pub mod OneSoak
pub mod RunLemmas
pub mod SummaryLemmas
pub mod TellLemmas
pub mod WaveLemmas
