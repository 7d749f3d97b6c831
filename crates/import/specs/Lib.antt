pub mod Import
pub mod Steps
