pub mod Kind
pub mod Details
pub mod Lookup
pub mod Search
