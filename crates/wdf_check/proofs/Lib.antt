mod OneCheck
mod Residues
pub mod ExactSteps
pub mod LinearSteps
pub mod NoReturn
pub mod ObservingLemmas
pub mod Obstructions
pub mod SameSteps
pub mod Silence
pub mod StepCodes
