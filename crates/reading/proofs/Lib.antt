pub mod PacketsLaws
