pub mod ConditionLaws
pub mod SearchLemmas
pub mod SizeLemmas
