pub mod Trace
pub mod Clock
pub mod Details
pub mod Pass
