mod Figures
mod Languages
pub mod LongLines
mod Readings
mod Whole
