pub mod Levels
pub mod Nests
pub mod Outcome
pub mod Parts
pub mod Texts
