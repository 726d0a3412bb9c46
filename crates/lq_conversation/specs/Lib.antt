pub mod Conversations
pub mod Inputs
pub mod Outcomes
pub mod Scripts
pub mod Turns
pub mod Writers
