pub mod Block
pub mod Step
