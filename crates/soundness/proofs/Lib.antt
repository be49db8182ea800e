pub mod AllCells
pub mod Grants
pub mod Groups
pub mod OneCell
pub mod Opens
pub mod States
