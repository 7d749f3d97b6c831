pub mod OutcomeLaws
pub mod StateLaws
