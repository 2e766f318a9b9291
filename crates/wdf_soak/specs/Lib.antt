pub mod Figures
pub mod GrowingSink
pub mod SoakLaws
pub mod Soaks
pub mod Summary
