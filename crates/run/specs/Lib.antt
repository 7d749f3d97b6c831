pub mod NotMade
pub mod Run
