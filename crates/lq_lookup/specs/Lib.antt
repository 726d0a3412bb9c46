pub mod Arrangements
pub mod Chains
pub mod Columns
pub mod Finding
pub mod Numbers
pub mod Packed
pub mod Passes
