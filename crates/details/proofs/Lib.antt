pub mod Searches
pub mod DetailsLaws
pub mod SearchLaws
