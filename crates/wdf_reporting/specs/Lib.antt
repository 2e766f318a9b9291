pub mod CountLines
pub mod Findings
pub mod LedgerLine
pub mod Notes
pub mod ReportLaws
pub mod ReportText
pub mod WorkedNotes
