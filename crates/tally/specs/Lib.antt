pub mod Tally
pub mod Tallies
pub mod Passes
pub mod Suited
pub mod Event
