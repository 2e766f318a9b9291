pub mod AlikeLemmas
pub mod LadderLemmas
pub mod OrderLemmas
pub mod TextLemmas
mod TextTests
pub mod UnitLemmas
pub mod ValueLemmas
pub mod WordLemmas
