pub mod Rooms
pub mod TabledLaws
pub mod CarriedLaws
