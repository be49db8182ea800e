pub mod Contents
pub mod Promises
