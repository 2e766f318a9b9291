pub mod Carrying
pub mod Compiled
pub mod Junctions
pub mod Meaning
pub mod Operations
pub mod ScheduleCode
pub mod Schedules
pub mod Sums
