pub mod Call
pub mod Ended
pub mod After
