pub mod Pid
pub mod Types
pub mod Bits
pub mod Packet
pub mod Fields
