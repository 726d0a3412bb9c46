pub mod held
pub mod list
