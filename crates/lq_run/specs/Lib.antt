pub mod Calls
pub mod Removals
pub mod Replies
pub mod States
pub mod Statements
pub mod Stops
pub mod TreeReply
