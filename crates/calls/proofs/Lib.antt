pub mod Keeping
pub mod CallsLaws
pub mod PcapLaws
