pub mod Calls
pub mod Histories
pub mod Reports
pub mod Theorem
