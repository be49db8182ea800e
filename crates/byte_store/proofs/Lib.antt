pub mod Numbering
