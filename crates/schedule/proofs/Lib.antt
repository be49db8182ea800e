pub mod Admitting
pub mod Answering
pub mod Rows
pub mod Sizes
pub mod Sweeps
