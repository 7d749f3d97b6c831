pub mod Detail
pub mod Judges
