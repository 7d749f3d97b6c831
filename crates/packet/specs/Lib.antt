pub mod Call
pub mod After
pub mod Dropped
pub mod Lent
