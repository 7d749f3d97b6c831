pub mod Importing
pub mod ImportLaws
pub mod PieceLaws
