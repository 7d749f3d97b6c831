pub mod DetailLaws
