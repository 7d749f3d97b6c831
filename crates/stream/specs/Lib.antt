pub mod Addresses
pub mod Piece
pub mod Part
pub mod Led
pub mod Rounds
