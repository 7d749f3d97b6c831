pub mod Turns
pub mod Feeds
pub mod Views
pub mod Ends
pub mod Calls
pub mod Laws
pub mod Fates
pub mod Account
