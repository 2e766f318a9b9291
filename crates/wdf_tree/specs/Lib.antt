pub mod Engines
pub mod Numbers
pub mod Passes
pub mod Places
pub mod Walks
pub mod WaveTrees
pub mod Words
