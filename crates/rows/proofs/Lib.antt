pub mod FlagLaws
pub mod WidthsLaws
pub mod Filled
