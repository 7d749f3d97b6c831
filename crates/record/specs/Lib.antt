pub mod World
pub mod Room
pub mod Formed
pub mod Fresh
pub mod Answers
pub mod Bools
pub mod RoomLaws
