pub mod Deciding
pub mod Ranges
pub mod RowMeaning
pub mod Standing
