pub mod Tiled
pub mod Calls
pub mod Sequences
pub mod Cuts
pub mod Listed
