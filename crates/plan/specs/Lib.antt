pub mod Step
pub mod Packet
pub mod Ending
pub mod Sound
pub mod Words
pub mod Devices
