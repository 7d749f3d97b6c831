pub mod Room
pub mod Begin
pub mod Close
pub mod Light
pub mod Shaped
