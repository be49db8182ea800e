pub mod Cases
pub mod Lines
