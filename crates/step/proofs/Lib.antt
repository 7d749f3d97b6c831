pub mod Stepping
pub mod BlockLaws
pub mod CutLaws
