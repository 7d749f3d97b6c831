pub mod Place
pub mod Size
pub mod Words
pub mod Fits
