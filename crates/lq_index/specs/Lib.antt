pub mod Compactions
pub mod Entries
pub mod Hashes
pub mod Keys
pub mod Moves
pub mod Removals
pub mod Searches
pub mod Slots
