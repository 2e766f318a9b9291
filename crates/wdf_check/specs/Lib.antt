pub mod Certificate
pub mod Checking
pub mod Laws
pub mod Observability
pub mod ResidueStep
pub mod Returning
pub mod Stepping
