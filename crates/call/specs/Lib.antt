pub mod State
pub mod Outcome
pub mod Share
