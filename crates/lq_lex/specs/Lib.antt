pub mod Blank
pub mod Letters
pub mod Literals
pub mod Outcome
