pub mod Fit
pub mod Sound
pub mod Kept
