pub mod NumberLaws
pub mod RuleLemmas
pub mod ShapeLaws
pub mod SumLemmas
pub mod TextLemmas
pub mod TotalityLemmas
pub mod TypeLaws
