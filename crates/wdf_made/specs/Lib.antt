pub mod Generator
pub mod Ladder
pub mod LadderLaws
pub mod LadderText
pub mod Wave
