pub mod Logged
pub mod Packets
pub mod Keeps
pub mod Sums
pub mod DataRows
pub mod Once
pub mod Follows
