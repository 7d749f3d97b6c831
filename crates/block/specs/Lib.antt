pub mod Leads
pub mod Round
