pub mod Bytes
pub mod Example
pub mod Passing
pub mod Laws
