pub mod Rooms
pub mod TabledLaws
pub mod ActedLaws
pub mod RowsLaws
pub mod EndedLaws
