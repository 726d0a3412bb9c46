pub mod Rules
pub mod Calls
pub mod Numbers
