pub mod Oracle
pub mod High
