pub mod ColumnLemmas
pub mod PreparingLemmas
pub mod SeenLemmas
pub mod TableLemmas
pub mod WholeLemmas
