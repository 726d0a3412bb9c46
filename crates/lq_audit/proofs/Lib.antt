pub mod HiddenRowLemmas
pub mod RowLemmas
