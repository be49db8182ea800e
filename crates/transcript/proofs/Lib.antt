pub mod Answered
pub mod LongLines
pub mod Pieces
pub mod Running
