pub mod HeldWords
pub mod Plans
pub mod WordBound
