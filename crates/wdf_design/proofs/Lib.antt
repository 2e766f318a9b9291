pub mod CircuitElements
pub mod DesignLemmas
pub mod NetworkElements
pub mod StageLemmas
