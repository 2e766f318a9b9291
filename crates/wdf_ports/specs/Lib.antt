pub mod PortRatio
pub mod PortRatios
pub mod WorkedRatios
