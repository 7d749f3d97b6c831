pub mod Ready
pub mod Near
