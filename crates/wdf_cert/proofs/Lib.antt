pub mod CertReading
pub mod OneFile
mod OneMaking
pub mod OneToken
pub mod Parts
pub mod ReadingLemmas
pub mod Sizes
pub mod TakenTokens
pub mod WritingLemmas
