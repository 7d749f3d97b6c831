pub mod Telling
pub mod Listed
pub mod ToldLaws
