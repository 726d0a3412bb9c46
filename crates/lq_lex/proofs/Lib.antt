pub mod Blanks
pub mod Cutting
pub mod DigitLaws
pub mod FrontLaws
pub mod MarkLemmas
pub mod Names
pub mod Spelling
