pub mod Shown
pub mod PrintsLaws
