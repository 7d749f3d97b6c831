mod Bools
pub mod Decided
pub mod After
pub mod Words
