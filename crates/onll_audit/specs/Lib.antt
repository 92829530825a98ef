pub mod Fields
pub mod Form
pub mod Verdict
pub mod Values
pub mod Legality
pub mod Printed
pub mod ReportLines
