pub mod Commands
pub mod Inputs
pub mod Readers
pub mod Typing
pub mod Words
