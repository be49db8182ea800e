pub mod Answering
pub mod Consoles
pub mod Lines
