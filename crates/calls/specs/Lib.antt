pub mod Calls
pub mod Block
pub mod Pcap
pub mod Keeps
