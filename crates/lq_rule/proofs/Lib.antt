pub mod AgreeingLemmas
pub mod CellLemmas
pub mod DecidingLemmas
pub mod FormLemmas
pub mod RangeLemmas
pub mod ReadingLemmas
pub mod SureLemmas
