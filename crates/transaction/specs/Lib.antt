pub mod Table
pub mod Simple
pub mod Split
pub mod Status
pub mod Payload
pub mod High
