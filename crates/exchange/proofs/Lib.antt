pub mod Grows
pub mod Flows
pub mod Back
pub mod Answered
pub mod ChangeParts
pub mod Claim
