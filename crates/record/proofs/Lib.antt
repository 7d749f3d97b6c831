pub mod Every
pub mod FreshLaws
pub mod FormedLaws
pub mod StoredLaws
pub mod AnswersLaws
pub mod TabledLaws
