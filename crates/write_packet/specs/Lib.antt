pub mod Desk
pub mod Asked
