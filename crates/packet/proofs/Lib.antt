pub mod Places
pub mod Owners
pub mod Changes
pub mod Left
pub mod Answers
pub mod First
pub mod CallLaws
