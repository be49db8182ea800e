pub mod Places
pub mod Numerals
