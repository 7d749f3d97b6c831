pub mod Turns
pub mod StatesLaws
pub mod EachLaws
pub mod TableLaws
pub mod PhasesLaws
