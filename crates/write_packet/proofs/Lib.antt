pub mod Parts
pub mod Steps
pub mod Plans
pub mod HeldLaws
pub mod Held
pub mod BesideLaws
pub mod ReadyLaws
pub mod PlanLaws
