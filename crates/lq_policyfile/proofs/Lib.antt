pub mod FileLemmas
pub mod NameLemmas
pub mod ReadLemmas
pub mod RightLemmas
pub mod RuleForms
pub mod SaysLemmas
pub mod ShapeLemmas
pub mod TypingLemmas
