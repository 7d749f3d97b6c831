pub mod Parts
pub mod Sorts
pub mod Calls
pub mod PartsLaws
