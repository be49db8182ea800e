pub mod Finds
pub mod Sweeping
