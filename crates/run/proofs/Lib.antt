pub mod Running
pub mod RunLaws
