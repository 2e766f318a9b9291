pub mod DesignLaws
pub mod Designs
pub mod Realising
pub mod Stages
pub mod WorkedDesigns
