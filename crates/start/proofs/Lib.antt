pub mod Making
pub mod FreshLaws
