pub mod Link
pub mod Word
pub mod Table
pub mod Each
pub mod Phases
pub mod States
pub mod Find
