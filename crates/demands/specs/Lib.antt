pub mod Sequence
pub mod Blocks
pub mod Shelf
pub mod Reasons
