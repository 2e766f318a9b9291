pub mod Meanings
pub mod Operands
pub mod Orders
pub mod WellFormed
