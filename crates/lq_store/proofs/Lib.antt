pub mod KeptTableLaws
pub mod Passes
