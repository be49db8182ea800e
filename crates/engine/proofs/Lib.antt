pub mod Carrying
pub mod Promising
pub mod Sizes
