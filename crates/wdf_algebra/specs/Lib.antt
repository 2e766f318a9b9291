pub mod JunctionValues
pub mod Pieces
pub mod Residues
pub mod Roundings
pub mod Samples
pub mod Squares
pub mod Truncation
