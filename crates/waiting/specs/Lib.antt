pub mod Numbers
pub mod Table
pub mod Rules
pub mod Chains
pub mod Transitive
