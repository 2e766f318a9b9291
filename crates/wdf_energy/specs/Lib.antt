pub mod Accounts
pub mod Blocks
pub mod LedgerLaws
pub mod PortLists
pub mod Totals
pub mod WorkedTotals
