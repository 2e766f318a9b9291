pub mod Elimination
pub mod Laws
pub mod Matrix
pub mod Products
pub mod Residue
pub mod Solving
pub mod Vectors
