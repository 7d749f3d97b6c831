pub mod Turns
pub mod States
pub mod Rows
pub mod Whole
pub mod ListingLaws
