pub mod Addresses
pub mod Pieces
pub mod Finding
pub mod Staying
pub mod Streaming
pub mod Rounding
