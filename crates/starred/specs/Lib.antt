pub mod Cases
pub mod Starred
