pub mod ColumnLemmas
pub mod Lists
pub mod ReadingLemmas
pub mod ReplyLemmas
pub mod ShownTypes
pub mod TypeFolds
