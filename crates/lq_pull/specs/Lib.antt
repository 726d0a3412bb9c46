pub mod Evaluations
pub mod Readers
pub mod Views
