pub mod Once
pub mod OnceLaws
