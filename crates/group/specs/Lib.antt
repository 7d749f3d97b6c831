pub mod Setup
pub mod Step
pub mod Control
pub mod Data
pub mod Group
