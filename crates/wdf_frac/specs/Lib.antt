pub mod Fraction
pub mod Units
