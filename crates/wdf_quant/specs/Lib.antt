pub mod Covering
pub mod Multiplier
pub mod PortBound
pub mod QuantisedNetwork
pub mod RatioTrees
pub mod WorkedWalks
