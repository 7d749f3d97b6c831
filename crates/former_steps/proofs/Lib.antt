pub mod Laws
pub mod ChosenLaws
pub mod ForgetLaws
pub mod CompleteLaws
pub mod StepLaws
pub mod HeldLaws
