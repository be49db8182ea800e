pub mod Distinct
pub mod Lengths
pub mod Words
