pub mod Numbers
pub mod Pcap
pub mod File
pub mod Fits
pub mod Reading
pub mod Export
pub mod Inner
