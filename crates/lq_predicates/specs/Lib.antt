pub mod WatchLists
pub mod ProgramPredicates
