pub mod AgreementLemmas
pub mod EngineLemmas
pub mod FedLemmas
pub mod PassLemmas
pub mod PassParts
pub mod PlaceLemmas
pub mod Sizes
pub mod WalkLemmas
