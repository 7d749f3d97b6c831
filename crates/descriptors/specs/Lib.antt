pub mod Whole
pub mod Kind
pub mod Entries
pub mod Store
pub mod Steps
pub mod Chosen
pub mod Laid
pub mod Complete
