pub mod Answer
pub mod Words
pub mod Told
pub mod Lines
