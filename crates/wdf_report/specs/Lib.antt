pub mod FaultLine
pub mod KindNames
pub mod StatusCode
