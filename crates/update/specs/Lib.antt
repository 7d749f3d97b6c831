pub mod Update
pub mod Effect
pub mod Entry
