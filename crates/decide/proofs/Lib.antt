pub mod Places
pub mod Bounds
pub mod Planned
