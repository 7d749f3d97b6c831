pub mod Going
pub mod Sorted
pub mod PartsEnds
